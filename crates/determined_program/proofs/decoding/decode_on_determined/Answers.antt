use Rattle.std.proofs.Common.{◌≡◌, ℕ, List, ap, subst, sym, ◌∙◌}
use Rattle.bao_decode.specs.Ranges.{IsPartText, part_bytes, written_count}
use Rattle.bao_decode.proofs.Openings.{stored_is}
use Rattle.bao_files.specs.Disks.{IsKnown, Stored}
use Rattle.bao_files.proofs.Results.{with_fault, with_right}
use Rattle.determined_program.proofs.OnDisks.{both_kept, both_put, if_ok, none_at}
use Rattle.determined_program.proofs.Decoded.{absent_agree, decodes_agree}
use Rattle.determined_program.proofs.decoding.decode_on_determined.Goals as goal

pub returns-clause-answer : goal.returns-clause-answer
returns-clause-answer g c = λ known text at low.
    let mode = c.args.mode.now in
    let root = c.args.root.now.0 in
    let part = c.args.part.now in
    let ours = g.D.Disk.at c.args.ours.now in
    let theirs = g.E.Disk.at c.args.theirs.now in
    let r = c.decode_on.result in
    let s = c.decode_on-2.result in
    let also : theirs c.args.file.now ≡ Stored text = sym (c.requires c.args.file.now) ∙ at in
    decodes_agree mode root part text low (g.D.Disk.faultless c.args.ours.now) (g.E.Disk.faultless c.args.theirs.now) c.args.file c.args.path r s
    (with_right r _ (λ m p. let same = stored_is (ours c.args.file.now) p.0 text at p.1 in (subst (IsPartText mode root part) same p.2.0, p.3 ∙ ap (written_count part) same)) c.decode_on.ensures.done)
    (with_fault r _ (λ f refused. refused known text at) c.decode_on.ensures.refused)
    (with_right s _ (λ m p. let same = stored_is (theirs c.args.file.now) p.0 text also p.1 in (subst (IsPartText mode root part) same p.2.0, p.3 ∙ ap (written_count part) same)) c.decode_on-2.ensures.done)
    (with_fault s _ (λ f refused. refused (subst IsKnown (c.requires c.args.path.now) known) text also) c.decode_on-2.ensures.refused)

pub returns-clause-absent : goal.returns-clause-absent
returns-clause-absent g c = λ absent.
    let ours = g.D.Disk.at c.args.ours.now in
    let theirs = g.E.Disk.at c.args.theirs.now in
    let r = c.decode_on.result in
    let s = c.decode_on-2.result in
    let also = sym (c.requires c.args.file.now) ∙ absent in
    absent_agree c.args.file r s
    (with_right r _ (λ m p. none_at (ours c.args.file.now) p.0 absent p.1) c.decode_on.ensures.done) (with_fault r _ (λ f h. h absent) c.decode_on.ensures.absent)
    (with_right s _ (λ m p. none_at (theirs c.args.file.now) p.0 also p.1) c.decode_on-2.ensures.done) (with_fault s _ (λ f h. h also) c.decode_on-2.ensures.absent)

pub returns-clause-put : goal.returns-clause-put
returns-clause-put g c = λ known.
    let r = c.decode_on.result in
    let s = c.decode_on-2.result in
    both_put (g.D.Disk.at c.args.ours.now) (g.E.Disk.at c.args.theirs.now) (g.D.Disk.at c.decode_on.new.disk) (g.E.Disk.at c.decode_on-2.new.disk) c.requires c.args.file.now
    c.args.path.now (λ (text : List ℕ). part_bytes c.args.part.now text) r s known
    (if_ok r (λ m p. (p.0, p.1, p.4)) c.decode_on.ensures.done) (if_ok s (λ m p. (p.0, p.1, p.4)) c.decode_on-2.ensures.done)

pub returns-clause-kept : goal.returns-clause-kept
returns-clause-kept g c =
    both_kept (g.D.Disk.at c.args.ours.now) (g.E.Disk.at c.args.theirs.now) (g.D.Disk.at c.decode_on.new.disk) (g.E.Disk.at c.decode_on-2.new.disk) c.requires
    c.decode_on.result c.decode_on-2.result c.decode_on.ensures.kept c.decode_on-2.ensures.kept
