use Rattle.std.proofs.Common.{◌≡◌, ℕ, List, [], Err, IfErr, refl, sym, ap, subst, ◌∙◌}
use Rattle.std.proofs.lemmas.Result.{err_from_is_err_and}
use Rattle.b3tree.specs.Valid.{AreBytes}
use Rattle.bao_check.specs.Accepted.{IsAccepted, outboard_nodes}
use Rattle.bao_files.specs.Disks.{IsKnown, Stored}
use Rattle.bao_files.proofs.Disks.{puts_text}
use Rattle.bao_decode.specs.Copies.{BesideStops, IsCopyBeside}
use Rattle.bao_decode.specs.declared.decode_fault.DecodeFault.{DecodeFault}
use Rattle.bao_decode.proofs.Copying.{beside_finish, beside_of, beside_stops, whole_of}
use Rattle.bao_decode.proofs.Decodings.{finish_refused}
use Rattle.bao_decode.proofs.Openings.{contents_of_file, is_some, stored_is, unread_of_file}
use Rattle.bao_decode.proofs.plain_copy.decode_copy_on.Goals as goal

pub returns-in_err-count-clause-refused : goal.returns-in_err-count-clause-refused
returns-in_err-count-clause-refused g c =
    let before = g.D.Disk.at c.args.disk.now in
    let mode = c.args.mode.now in
    let root = c.args.root.now.0 in
    let fault : DecodeFault = c.in_err-count.field-0.0 in
    let input = c.in_ok-input.input in
    let text : List ℕ = c.as_slice-2.result.now in
    let accepted : IsAccepted mode root text (outboard_nodes text) = c.in-Ok.ensures.accepted.0 refl in
    let p = err_from_is_err_and c.from_residual-in_err-count.result c.from_residual-in_err-count.ensures.1 in
    let is : c.from_residual-in_err-count.result ≡ Err fault = p.1 ∙ ap Err p.2 in
    subst (λ r. IfErr r (λ f. IsKnown (before c.args.path.now) → (outline bytes : List ℕ) → before c.args.outboard.now ≡ Stored outline → before c.args.copy.now ≡ Stored bytes
    → BesideStops mode root (g.D.Disk.faultless c.args.disk.now) outline bytes c.args.outboard c.args.copy c.args.path f)) (sym is)
    (λ known outline bytes at_outboard at_copy.
    let whole = whole_of mode root (before c.args.outboard.now) c.in_ok-text.text.items c.in_ok-text.ensures.enough
    (subst (λ (t : List ℕ). IsAccepted mode root t (outboard_nodes t)) c.as_slice-2.ensures.value accepted) (subst AreBytes c.as_slice.ensures.value c.bytes_are.ensures) in
    beside_stops c.in-Ok.outline mode root text outline bytes (g.D.Input.Source.faultless input) (g.D.Disk.faultless c.args.disk.now) c.args.outboard c.args.copy c.args.path fault
    c.in-Ok.ensures.outline accepted (c.as_slice-2.ensures.value ∙ stored_is (before c.args.outboard.now) c.in_ok-text.text.items outline at_outboard whole) c.in_ok-input.ensures.sure
    (c.in_err-count.ensures.refused (is_some (g.D.Draft.Write.contents c.in-Ok-draft.out) [] (c.in-Ok-draft.ensures.known known)) bytes
    (contents_of_file (before c.args.copy.now) (g.D.Input.Source.contents input) (g.D.Input.Read.remaining input) bytes at_copy c.in_ok-input.ensures.opened)))

pub returns-in_err-finish-clause-refused : goal.returns-in_err-finish-clause-refused
returns-in_err-finish-clause-refused g c =
    let before = g.D.Disk.at c.args.disk.now in
    let mode = c.args.mode.now in
    let root = c.args.root.now.0 in
    let input = c.in_ok-input.input in
    let text : List ℕ = c.as_slice-2.result.now in
    let all : List ℕ = c.in_ok-text.text.items in
    let accepted : IsAccepted mode root text (outboard_nodes text) = c.in-Ok.ensures.accepted.0 refl in
    let known : IsAccepted mode root all (outboard_nodes all) = subst (λ (t : List ℕ). IsAccepted mode root t (outboard_nodes t)) c.as_slice-2.ensures.value accepted in
    let done = c.in_ok-count.ensures.ok in
    let exit = err_from_is_err_and c.from_residual-in_err-finish.result c.from_residual-in_err-finish.ensures.1 in
    finish_refused c.from_residual-in_err-finish.result exit.0 c.in_err-finish.field-0.0
    (λ f. IsKnown (before c.args.path.now) → (outline bytes : List ℕ) → before c.args.outboard.now ≡ Stored outline → before c.args.copy.now ≡ Stored bytes
    → BesideStops mode root (g.D.Disk.faultless c.args.disk.now) outline bytes c.args.outboard c.args.copy c.args.path f) exit.1 exit.2
    (λ there outline bytes at_outboard at_copy.
    beside_finish mode root all done.0 outline bytes (g.D.Disk.faultless c.args.disk.now) c.args.outboard c.args.copy c.args.path c.in_err-finish.field-0.0 c.in_err-finish.ensures.fault
    (subst (λ (t : List ℕ). IsCopyBeside mode root t done.0) c.as_slice-2.ensures.value (beside_of c.in-Ok.outline mode root text done.0 c.in-Ok.ensures.outline accepted done.2.0))
    (stored_is (before c.args.outboard.now) all outline at_outboard
    (whole_of mode root (before c.args.outboard.now) all c.in_ok-text.ensures.enough known (subst AreBytes c.as_slice.ensures.value c.bytes_are.ensures)))
    (stored_is (before c.args.copy.now) done.0 bytes at_copy
    (unread_of_file (before c.args.copy.now) (g.D.Input.Source.contents input) (g.D.Input.Read.remaining input) done.0 c.in_ok-input.ensures.opened done.1 done.2.1)))

pub returns-clause-done : goal.returns-clause-done
returns-clause-done g c =
    let before = g.D.Disk.at c.args.disk.now in
    let mode = c.args.mode.now in
    let root = c.args.root.now.0 in
    let input = c.in_ok-input.input in
    let text : List ℕ = c.as_slice-2.result.now in
    let all : List ℕ = c.in_ok-text.text.items in
    let accepted : IsAccepted mode root text (outboard_nodes text) = c.in-Ok.ensures.accepted.0 refl in
    let known : IsAccepted mode root all (outboard_nodes all) = subst (λ (t : List ℕ). IsAccepted mode root t (outboard_nodes t)) c.as_slice-2.ensures.value accepted in
    let done = c.in_ok-count.ensures.ok in (
      all,
      done.0,
      whole_of mode root (before c.args.outboard.now) all c.in_ok-text.ensures.enough known (subst AreBytes c.as_slice.ensures.value c.bytes_are.ensures),
      unread_of_file (before c.args.copy.now) (g.D.Input.Source.contents input) (g.D.Input.Read.remaining input) done.0 c.in_ok-input.ensures.opened done.1 done.2.1,
      subst (λ (t : List ℕ). IsCopyBeside mode root t done.0) c.as_slice-2.ensures.value (beside_of c.in-Ok.outline mode root text done.0 c.in-Ok.ensures.outline accepted done.2.0),
      done.3,
      puts_text before (g.D.Disk.at c.finish.new.self) c.args.path.now (g.D.Draft.Write.contents c.in-Ok-draft.out) (g.D.Draft.Write.contents c.write_input.new.out)
          done.0 c.in-Ok-draft.ensures.known done.4 c.in_ok-finish.ensures.put,
    )
