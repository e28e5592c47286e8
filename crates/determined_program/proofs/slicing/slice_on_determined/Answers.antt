use Rattle.std.proofs.Common.{◌≡◌, subst, sym, ◌∙◌, arith}
use Rattle.bao_text.specs.Cut.{cut_text}
use Rattle.bao_decode.proofs.Cuttings.{cut_text-few}
use Rattle.bao_files.specs.Disks.{IsKnown, Stored}
use Rattle.bao_text.specs.declared.kinds.Part.TheVariants.{Slice}
use Rattle.bao_files.proofs.Results.{with_fault, with_right}
use Rattle.determined_program.proofs.OnDisks.{both_kept, if_ok, none_at}
use Rattle.bao_decode.proofs.Slicings.{cut_is}
use Rattle.determined_program.proofs.Cuts.{both_cut, part_is}
use Rattle.determined_program.proofs.Decoded.{absent_agree, decodes_agree}
use Rattle.determined_program.proofs.slicing.slice_on_determined.Goals as goal

pub returns-clause-answer : goal.returns-clause-answer
returns-clause-answer g c = λ known text there short.
    let mode = c.args.mode.now in
    let root = c.args.root.now.0 in
    let start = c.args.start in
    let len = c.args.len in
    let ours = g.D.Disk.at c.args.ours.now in
    let theirs = g.E.Disk.at c.args.theirs.now in
    let r = c.slice_on.result in
    let s = c.slice_on-2.result in
    let cut = cut_text text start len in
    let also : theirs c.args.file.now ≡ Stored text = sym (c.requires c.args.file.now) ∙ there in
    decodes_agree mode root (Slice start len) cut (omega (arith, cut_text-few text start len, short)) (g.D.Disk.faultless c.args.ours.now) (g.E.Disk.faultless c.args.theirs.now) c.args.file
    c.args.path r s
    (with_right r _ (λ m p. part_is mode root (Slice start len) p.0 cut m (cut_is (ours c.args.file.now) text p.0 start len there (omega (arith, short)) p.1) p.2.0 p.3) c.slice_on.ensures.done)
    (with_fault r _ (λ f refused. refused known text there short) c.slice_on.ensures.refused)
    (with_right s _ (λ m p. part_is mode root (Slice start len) p.0 cut m (cut_is (theirs c.args.file.now) text p.0 start len also (omega (arith, short)) p.1) p.2.0 p.3) c.slice_on-2.ensures.done)
    (with_fault s _ (λ f refused. refused (subst IsKnown (c.requires c.args.path.now) known) text also short) c.slice_on-2.ensures.refused)

pub returns-clause-absent : goal.returns-clause-absent
returns-clause-absent g c = λ absent.
    let ours = g.D.Disk.at c.args.ours.now in
    let theirs = g.E.Disk.at c.args.theirs.now in
    let r = c.slice_on.result in
    let s = c.slice_on-2.result in
    let also = sym (c.requires c.args.file.now) ∙ absent in
    absent_agree c.args.file r s
    (with_right r _ (λ m p. none_at (ours c.args.file.now) p.1.0 absent p.1.1) c.slice_on.ensures.done) (with_fault r _ (λ f h. h absent) c.slice_on.ensures.absent)
    (with_right s _ (λ m p. none_at (theirs c.args.file.now) p.1.0 also p.1.1) c.slice_on-2.ensures.done) (with_fault s _ (λ f h. h also) c.slice_on-2.ensures.absent)

pub returns-clause-put : goal.returns-clause-put
returns-clause-put g c = λ text there fits.
    let start = c.args.start in
    let len = c.args.len in
    let ours = g.D.Disk.at c.args.ours.now in
    let theirs = g.E.Disk.at c.args.theirs.now in
    let r = c.slice_on.result in
    let s = c.slice_on-2.result in
    let also : theirs c.args.file.now ≡ Stored text = sym (c.requires c.args.file.now) ∙ there in
    both_cut ours theirs (g.D.Disk.at c.slice_on.new.disk) (g.E.Disk.at c.slice_on-2.new.disk) c.requires c.args.path.now (cut_text text start len) r s
    (if_ok r (λ m p. (p.0, cut_is (ours c.args.file.now) text p.0 start len there fits p.1, p.4)) c.slice_on.ensures.done)
    (if_ok s (λ m p. (p.0, cut_is (theirs c.args.file.now) text p.0 start len also fits p.1, p.4)) c.slice_on-2.ensures.done)

pub returns-clause-kept : goal.returns-clause-kept
returns-clause-kept g c =
    both_kept (g.D.Disk.at c.args.ours.now) (g.E.Disk.at c.args.theirs.now) (g.D.Disk.at c.slice_on.new.disk) (g.E.Disk.at c.slice_on-2.new.disk) c.requires
    c.slice_on.result c.slice_on-2.result c.slice_on.ensures.kept c.slice_on-2.ensures.kept
