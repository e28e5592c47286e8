use Rattle.std.proofs.Common.{◌≡◌, ℕ, List}
use Rattle.std.proofs.lemmas.Result.{err_from_is_err_and}
use Rattle.bao_files.specs.Disks.{IsKnown, Stored}
use Rattle.bao_decode.specs.Ranges.{part_bytes}
use Rattle.bao_decode.specs.TextPass.{DecodeStops}
use Rattle.bao_files.proofs.Disks.{puts_text}
use Rattle.bao_decode.proofs.Decodings.{finish_refused, finish_stops}
use Rattle.bao_decode.proofs.Openings.{stored_is, unread_of_file}
use Rattle.bao_decode.proofs.decode.decode_on.Goals as goal

pub returns-in_err-finish-clause-refused : goal.returns-in_err-finish-clause-refused
returns-in_err-finish-clause-refused g c =
    let before = g.D.Disk.at c.args.disk.now in
    let mode = c.args.mode.now in
    let root = c.args.root.now.0 in
    let part = c.args.part.now in
    let faultless = g.D.Disk.faultless c.args.disk.now in
    let input = c.in_ok-input.input in
    let done = c.in_ok-count.ensures.ok in
    let exit = err_from_is_err_and c.from_residual-in_err-finish.result c.from_residual-in_err-finish.ensures.1 in
    finish_refused c.from_residual-in_err-finish.result exit.0 c.in_err-finish.field-0.0
    (λ f. IsKnown (before c.args.path.now) → (text : List ℕ) → before c.args.file.now ≡ Stored text → DecodeStops mode root part faultless text c.args.file c.args.path f) exit.1 exit.2
    (λ known text at_file.
    finish_stops mode root part faultless done.0 text c.args.file c.args.path c.in_err-finish.field-0.0 c.in_err-finish.ensures.fault done.2.0.0
    (stored_is (before c.args.file.now) done.0 text at_file
    (unread_of_file (before c.args.file.now) (g.D.Input.Source.contents input) (g.D.Input.Read.remaining input) done.0 c.in_ok-input.ensures.opened done.1 done.2.0.1)))

pub returns-clause-done : goal.returns-clause-done
returns-clause-done g c =
    let before = g.D.Disk.at c.args.disk.now in
    let input = c.in_ok-input.input in
    let done = c.in_ok-count.ensures.ok in (
      done.0,
      unread_of_file (before c.args.file.now) (g.D.Input.Source.contents input) (g.D.Input.Read.remaining input) done.0 c.in_ok-input.ensures.opened done.1 done.2.0.1,
      done.2.0,
      done.2.1,
      puts_text before (g.D.Disk.at c.finish.new.self) c.args.path.now (g.D.Draft.Write.contents c.in-Ok.out) (g.D.Draft.Write.contents c.write_input.new.out)
          (part_bytes c.args.part.now done.0) c.in-Ok.ensures.known done.2.2 c.in_ok-finish.ensures.put,
    )
