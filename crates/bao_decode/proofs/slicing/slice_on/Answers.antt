use Rattle.std.proofs.Common.{◌≡◌, ◌^◌, ◌<◌, ℕ, List, length, Err, IfErr, sym, ap, subst, ◌∙◌, arith}
use Rattle.std.proofs.lemmas.Result.{err_from_is_err_and}
use Rattle.bao_files.specs.Disks.{IsKnown, Stored}
use Rattle.bao_text.specs.declared.kinds.Part.TheVariants.{Slice}
use Rattle.bao_files.proofs.Disks.{puts_text}
use Rattle.bao_text.specs.Cut.{cut_text}
use Rattle.bao_decode.specs.Opened.{is_origin_faultless, origin_contents}
use Rattle.bao_decode.specs.TextPass.{DecodeStops}
use Rattle.bao_decode.specs.declared.decode_fault.DecodeFault.{DecodeFault}
use Rattle.bao_decode.proofs.BlobWeavings.{own_slice}
use Rattle.bao_decode.proofs.Decodings.{finish_refused, finish_stops}
use Rattle.bao_decode.proofs.Slicings.{cut_is, slice_done, slice_stops}
use Rattle.bao_decode.proofs.slicing.slice_on.Goals as goal

pub returns-in_err-count-clause-refused : goal.returns-in_err-count-clause-refused
returns-in_err-count-clause-refused g c =
    let before = g.D.Disk.at c.args.disk.now in
    let mode = c.args.mode.now in
    let root = c.args.root.now.0 in
    let start = c.args.start in
    let len = c.args.len in
    let origin = c.in_ok-encoding.encoding in
    let disk = g.D.Disk.faultless c.args.disk.now in
    let fault : DecodeFault = c.in_err-count.field-0.0 in
    let p = err_from_is_err_and c.from_residual-in_err-count.result c.from_residual-in_err-count.ensures.1 in
    let is : c.from_residual-in_err-count.result ≡ Err fault = p.1 ∙ ap Err p.2 in
    subst (λ r. IfErr r (λ f. IsKnown (before c.args.path.now) → (encoding : List ℕ) → before c.args.file.now ≡ Stored encoding → length encoding < 2 ^ 63
    → DecodeStops mode root (Slice start len) disk (cut_text encoding start len) c.args.file c.args.path f)) (sym is)
    (λ known encoding at_file short.
    slice_stops mode root start len (before c.args.file.now) (origin_contents g.D.Input.Source.contents origin) encoding (is_origin_faultless g.D.Input.Source.faultless origin) disk
    c.args.file c.args.path (g.D.Draft.Write.contents c.in-Ok.out) (g.D.Draft.Write.contents c.write_slice.new.out) fault c.in_ok-encoding.ensures.opened c.in_ok-encoding.ensures.sure
    at_file short c.in_err-count.ensures.known)

pub returns-in_err-finish-clause-refused : goal.returns-in_err-finish-clause-refused
returns-in_err-finish-clause-refused g c =
    let before = g.D.Disk.at c.args.disk.now in
    let mode = c.args.mode.now in
    let root = c.args.root.now.0 in
    let start = c.args.start in
    let len = c.args.len in
    let origin = c.in_ok-encoding.encoding in
    let disk = g.D.Disk.faultless c.args.disk.now in
    let done =
    slice_done mode root start len (before c.args.file.now) (origin_contents g.D.Input.Source.contents origin)
    (is_origin_faultless g.D.Input.Source.faultless origin) c.args.file c.args.path (g.D.Draft.Write.contents c.in-Ok.out) (g.D.Draft.Write.contents c.write_slice.new.out) c.in_ok-count.count
    c.in_ok-encoding.ensures.opened c.in_ok-count.ensures.some c.in_ok-count.ensures.known in
    let exit = err_from_is_err_and c.from_residual-in_err-finish.result c.from_residual-in_err-finish.ensures.1 in
    finish_refused c.from_residual-in_err-finish.result exit.0 c.in_err-finish.field-0.0
    (λ f. IsKnown (before c.args.path.now) → (encoding : List ℕ) → before c.args.file.now ≡ Stored encoding → length encoding < 2 ^ 63
    → DecodeStops mode root (Slice start len) disk (cut_text encoding start len) c.args.file c.args.path f) exit.1 exit.2
    (λ known encoding at_file short.
    finish_stops mode root (Slice start len) disk done.0 (cut_text encoding start len) c.args.file c.args.path c.in_err-finish.field-0.0 c.in_err-finish.ensures.fault done.2.0
    (cut_is (before c.args.file.now) encoding done.0 start len at_file (omega (arith, short)) done.1))

pub returns-clause-done : goal.returns-clause-done
returns-clause-done g c =
    let before = g.D.Disk.at c.args.disk.now in
    let origin = c.in_ok-encoding.encoding in
    let done =
    slice_done c.args.mode.now c.args.root.now.0 c.args.start c.args.len (before c.args.file.now) (origin_contents g.D.Input.Source.contents origin)
    (is_origin_faultless g.D.Input.Source.faultless origin) c.args.file c.args.path (g.D.Draft.Write.contents c.in-Ok.out) (g.D.Draft.Write.contents c.write_slice.new.out) c.in_ok-count.count
    c.in_ok-encoding.ensures.opened c.in_ok-count.ensures.some c.in_ok-count.ensures.known in (
      done.0,
      done.1,
      done.2,
      done.3,
      puts_text before (g.D.Disk.at c.finish.new.self) c.args.path.now (g.D.Draft.Write.contents c.in-Ok.out) (g.D.Draft.Write.contents c.write_slice.new.out)
          done.0 c.in-Ok.ensures.known done.4 c.in_ok-finish.ensures.put,
    )

pub returns-clause-slice : goal.returns-clause-slice
returns-clause-slice g c = λ blob known at_file fits.
    let done = returns-clause-done g c in
    own_slice c.args.mode.now blob (g.D.Disk.at c.args.disk.now c.args.file.now) c.args.start c.args.len (g.D.Disk.at c.args.disk.now) (g.D.Disk.at c.finish.new.self) c.args.path.now done.0
    done.1 at_file fits known done.4
