use Rattle.std.proofs.Common.{◌≡◌, ℕ, List, length, ap, subst, sym, ◌∙◌}
use Rattle.bao_decode.specs.Copies.{IsCopyBeside}
use Rattle.bao_decode.proofs.Openings.{stored_is}
use Rattle.bao_files.specs.Disks.{IsKnown, Stored}
use Rattle.bao_files.proofs.Results.{with_fault, with_right}
use Rattle.determined_program.proofs.OnDisks.{both_kept, both_put, if_ok}
use Rattle.determined_program.proofs.Decoded.{copies_on_agree}
use Rattle.determined_program.proofs.decoding.decode_copy_on_determined.Goals as goal

pub returns-clause-answer : goal.returns-clause-answer
returns-clause-answer g c = λ known outline bytes at_outboard at_copy.
    let mode = c.args.mode.now in
    let root = c.args.root.now.0 in
    let ours = g.D.Disk.at c.args.ours.now in
    let theirs = g.E.Disk.at c.args.theirs.now in
    let r = c.decode_copy_on.result in
    let s = c.decode_copy_on-2.result in
    let also_outboard : theirs c.args.outboard.now ≡ Stored outline = sym (c.requires c.args.outboard.now) ∙ at_outboard in
    let also_copy : theirs c.args.copy.now ≡ Stored bytes = sym (c.requires c.args.copy.now) ∙ at_copy in
    copies_on_agree mode root outline bytes (g.D.Disk.faultless c.args.ours.now) (g.E.Disk.faultless c.args.theirs.now) c.args.outboard c.args.copy c.args.path r s
    (with_right r _
    (λ m p.
    let o = stored_is (ours c.args.outboard.now) p.0 outline at_outboard p.2 in
    let b = stored_is (ours c.args.copy.now) p.1 bytes at_copy p.3 in
    (subst (λ (t : List ℕ). IsCopyBeside mode root outline t) b (subst (λ (t : List ℕ). IsCopyBeside mode root t p.1) o p.4), p.5 ∙ ap length b)) c.decode_copy_on.ensures.done)
    (with_fault r _ (λ f refused. refused known outline bytes at_outboard at_copy) c.decode_copy_on.ensures.refused)
    (with_right s _
    (λ m p.
    let o = stored_is (theirs c.args.outboard.now) p.0 outline also_outboard p.2 in
    let b = stored_is (theirs c.args.copy.now) p.1 bytes also_copy p.3 in
    (subst (λ (t : List ℕ). IsCopyBeside mode root outline t) b (subst (λ (t : List ℕ). IsCopyBeside mode root t p.1) o p.4), p.5 ∙ ap length b)) c.decode_copy_on-2.ensures.done)
    (with_fault s _ (λ f refused. refused (subst IsKnown (c.requires c.args.path.now) known) outline bytes also_outboard also_copy) c.decode_copy_on-2.ensures.refused)

pub returns-clause-put : goal.returns-clause-put
returns-clause-put g c = λ known.
    let r = c.decode_copy_on.result in
    let s = c.decode_copy_on-2.result in
    both_put (g.D.Disk.at c.args.ours.now) (g.E.Disk.at c.args.theirs.now) (g.D.Disk.at c.decode_copy_on.new.disk) (g.E.Disk.at c.decode_copy_on-2.new.disk) c.requires c.args.copy.now
    c.args.path.now (λ (bytes : List ℕ). bytes) r s known
    (if_ok r (λ m p. (p.1, p.3, p.6)) c.decode_copy_on.ensures.done) (if_ok s (λ m p. (p.1, p.3, p.6)) c.decode_copy_on-2.ensures.done)

pub returns-clause-kept : goal.returns-clause-kept
returns-clause-kept g c =
    both_kept (g.D.Disk.at c.args.ours.now) (g.E.Disk.at c.args.theirs.now) (g.D.Disk.at c.decode_copy_on.new.disk) (g.E.Disk.at c.decode_copy_on-2.new.disk) c.requires
    c.decode_copy_on.result c.decode_copy_on-2.result c.decode_copy_on.ensures.kept c.decode_copy_on-2.ensures.kept
