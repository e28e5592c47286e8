use Rattle.std.proofs.Common.{◌≡◌, subst, sym, ◌∙◌}
use Rattle.bao_decode.specs.Weaving.{cut_beside}
use Rattle.bao_files.specs.Disks.{IsKnown, Stored}
use Rattle.bao_text.specs.declared.kinds.Part.TheVariants.{Slice}
use Rattle.bao_files.proofs.Results.{with_fault, with_right}
use Rattle.determined_program.proofs.OnDisks.{both_kept, if_ok, none_at}
use Rattle.bao_decode.proofs.Slicings.{cut_beside_is}
use Rattle.determined_program.proofs.Cuts.{both_cut, part_is, slices_beside_agree}
use Rattle.determined_program.proofs.Decoded.{absent_agree}
use Rattle.determined_program.proofs.slicing.slice_beside_on_determined.Goals as goal

pub returns-clause-answer : goal.returns-clause-answer
returns-clause-answer g c = λ known outline bytes at_outboard at_copy short.
    let mode = c.args.mode.now in
    let root = c.args.root.now.0 in
    let start = c.args.start in
    let len = c.args.len in
    let ours = g.D.Disk.at c.args.ours.now in
    let theirs = g.E.Disk.at c.args.theirs.now in
    let r = c.slice_beside_on.result in
    let s = c.slice_beside_on-2.result in
    let cut = cut_beside outline bytes start len in
    let also_outboard : theirs c.args.outboard.now ≡ Stored outline = sym (c.requires c.args.outboard.now) ∙ at_outboard in
    let also_copy : theirs c.args.copy.now ≡ Stored bytes = sym (c.requires c.args.copy.now) ∙ at_copy in
    slices_beside_agree mode root start len outline bytes short c.args.outboard c.args.copy c.args.path (g.D.Disk.faultless c.args.ours.now) (g.E.Disk.faultless c.args.theirs.now) r s
    (with_right r _
    (λ m p. part_is mode root (Slice start len) p.0 cut m
    (cut_beside_is (ours c.args.outboard.now) (ours c.args.copy.now) outline bytes p.0 start len at_outboard at_copy p.1) p.2.0 p.3) c.slice_beside_on.ensures.done)
    (with_fault r _ (λ f refused. refused known outline bytes at_outboard at_copy) c.slice_beside_on.ensures.refused)
    (with_right s _
    (λ m p. part_is mode root (Slice start len) p.0 cut m
    (cut_beside_is (theirs c.args.outboard.now) (theirs c.args.copy.now) outline bytes p.0 start len also_outboard also_copy p.1) p.2.0 p.3) c.slice_beside_on-2.ensures.done)
    (with_fault s _ (λ f refused. refused (subst IsKnown (c.requires c.args.path.now) known) outline bytes also_outboard also_copy) c.slice_beside_on-2.ensures.refused)

pub returns-clause-absent : goal.returns-clause-absent
returns-clause-absent g c = λ absent.
    let ours = g.D.Disk.at c.args.ours.now in
    let theirs = g.E.Disk.at c.args.theirs.now in
    let r = c.slice_beside_on.result in
    let s = c.slice_beside_on-2.result in
    let also = sym (c.requires c.args.outboard.now) ∙ absent in
    absent_agree c.args.outboard r s
    (with_right r _ (λ m p. none_at (ours c.args.outboard.now) p.1.0 absent p.1.2) c.slice_beside_on.ensures.done) (with_fault r _ (λ f h. h absent) c.slice_beside_on.ensures.absent)
    (with_right s _ (λ m p. none_at (theirs c.args.outboard.now) p.1.0 also p.1.2) c.slice_beside_on-2.ensures.done) (with_fault s _ (λ f h. h also) c.slice_beside_on-2.ensures.absent)

pub returns-clause-put : goal.returns-clause-put
returns-clause-put g c = λ outline bytes at_outboard at_copy.
    let start = c.args.start in
    let len = c.args.len in
    let ours = g.D.Disk.at c.args.ours.now in
    let theirs = g.E.Disk.at c.args.theirs.now in
    let r = c.slice_beside_on.result in
    let s = c.slice_beside_on-2.result in
    let also_outboard : theirs c.args.outboard.now ≡ Stored outline = sym (c.requires c.args.outboard.now) ∙ at_outboard in
    let also_copy : theirs c.args.copy.now ≡ Stored bytes = sym (c.requires c.args.copy.now) ∙ at_copy in
    both_cut ours theirs (g.D.Disk.at c.slice_beside_on.new.disk) (g.E.Disk.at c.slice_beside_on-2.new.disk) c.requires c.args.path.now
    (cut_beside outline bytes start len) r s
    (if_ok r (λ m p. (p.0, cut_beside_is (ours c.args.outboard.now) (ours c.args.copy.now) outline bytes p.0 start len at_outboard at_copy p.1, p.4)) c.slice_beside_on.ensures.done)
    (if_ok s (λ m p. (p.0, cut_beside_is (theirs c.args.outboard.now) (theirs c.args.copy.now) outline bytes p.0 start len also_outboard also_copy p.1, p.4)) c.slice_beside_on-2.ensures.done)

pub returns-clause-kept : goal.returns-clause-kept
returns-clause-kept g c =
    both_kept (g.D.Disk.at c.args.ours.now) (g.E.Disk.at c.args.theirs.now) (g.D.Disk.at c.slice_beside_on.new.disk) (g.E.Disk.at c.slice_beside_on-2.new.disk) c.requires
    c.slice_beside_on.result c.slice_beside_on-2.result c.slice_beside_on.ensures.kept c.slice_beside_on-2.ensures.kept
