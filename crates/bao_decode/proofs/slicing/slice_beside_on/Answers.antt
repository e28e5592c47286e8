use Rattle.std.proofs.Common.{◌≡◌, ℕ, List, [], Err, IfErr, inr, sym, ap, subst, ◌∙◌}
use Rattle.std.proofs.lemmas.Result.{err_from_is_err_and}
use Rattle.bao_files.specs.Disks.{IsKnown, IsStored, Stored}
use Rattle.bao_files.proofs.Disks.{puts_text}
use Rattle.bao_text.specs.declared.kinds.Part.TheVariants.{Slice}
use Rattle.bao_decode.specs.Opened.{is_origin_faultless, origin_contents}
use Rattle.bao_decode.specs.Weaving.{CutBesideStops, cut_beside}
use Rattle.bao_decode.specs.declared.decode_fault.DecodeFault.{DecodeFault}
use Rattle.bao_decode.proofs.BlobWeavings.{own_beside}
use Rattle.bao_decode.proofs.Decodings.{finish_refused, finish_stops}
use Rattle.bao_decode.proofs.Openings.{is_some}
use Rattle.bao_decode.proofs.Slicings.{beside_done, beside_short, beside_stops, cut_beside_is, unopened_stops}
use Rattle.bao_decode.proofs.slicing.slice_beside_on.Goals as goal

pub returns-in-Err-clause-refused : goal.returns-in-Err-clause-refused
returns-in-Err-clause-refused g c = λ known outline bytes at_outboard at_copy.
    let beside = c.in_ok-beside.beside in
    beside_short c.args.mode.now c.args.root.now.0 c.args.start c.args.len (g.D.Disk.at c.args.disk.now c.args.outboard.now) (origin_contents g.D.Input.Source.contents beside) outline bytes
    (is_origin_faultless g.D.Input.Source.faultless beside) (g.D.Disk.faultless c.args.disk.now) c.args.outboard c.args.copy c.args.path c.in-Err.fault c.first_fault.result
    c.in_ok-beside.ensures.opened c.in_ok-beside.ensures.sure at_outboard c.first_fault.ensures c.in-Err.ensures.fault

pub returns-in_err-count-clause-refused : goal.returns-in_err-count-clause-refused
returns-in_err-count-clause-refused g c =
    let before = g.D.Disk.at c.args.disk.now in
    let mode = c.args.mode.now in
    let root = c.args.root.now.0 in
    let start = c.args.start in
    let len = c.args.len in
    let beside = c.in_ok-beside.beside in
    let plain = c.in_ok-plain.plain in
    let woven = c.in-Ok-of.woven in
    let same = c.in-Ok-of.ensures.same in
    let disk = g.D.Disk.faultless c.args.disk.now in
    let never = is_origin_faultless g.D.Input.Source.faultless in
    let has = origin_contents g.D.Input.Source.contents in
    let fault : DecodeFault = c.in_err-count.field-0.0 in
    let p = err_from_is_err_and c.from_residual-in_err-count.result c.from_residual-in_err-count.ensures.1 in
    let is : c.from_residual-in_err-count.result ≡ Err fault = p.1 ∙ ap Err p.2 in
    subst (λ r. IfErr r (λ f. IsKnown (before c.args.path.now) → (outline bytes : List ℕ) → before c.args.outboard.now ≡ Stored outline → before c.args.copy.now ≡ Stored bytes
    → CutBesideStops mode root start len disk outline bytes c.args.outboard c.args.copy c.args.path f)) (sym is)
    (λ known outline bytes at_outboard at_copy.
    beside_stops mode root start len (before c.args.outboard.now) (before c.args.copy.now) woven.total woven.start woven.len (has beside) (has plain) (has woven.outboard.now) (has woven.copy.now) outline bytes
    (never woven.outboard.now × never woven.copy.now) disk c.args.outboard c.args.copy c.args.path (g.D.Draft.Write.contents c.in-Ok.out) (g.D.Draft.Write.contents c.write_encoding.new.out) fault
    c.in_ok-beside.ensures.opened c.in_ok-plain.ensures.opened (ap has same.0) (ap has same.1) same.2 same.3 c.in-Ok-of.ensures.claims
    (λ d. (subst never (sym same.0) (c.in_ok-beside.ensures.sure d), subst never (sym same.1) (c.in_ok-plain.ensures.sure d))) at_outboard at_copy c.in_err-count.ensures.known)

pub returns-in_err-plain-clause-refused : goal.returns-in_err-plain-clause-refused
returns-in_err-plain-clause-refused g c =
    let before = g.D.Disk.at c.args.disk.now in
    let mode = c.args.mode.now in
    let root = c.args.root.now.0 in
    let start = c.args.start in
    let len = c.args.len in
    let disk = g.D.Disk.faultless c.args.disk.now in
    let exit = err_from_is_err_and c.from_residual-in_err-plain.result c.from_residual-in_err-plain.ensures.1 in
    finish_refused c.from_residual-in_err-plain.result exit.0 c.in_err-plain.field-0.0
    (λ f. IsKnown (before c.args.path.now) → (outline bytes : List ℕ) → before c.args.outboard.now ≡ Stored outline → before c.args.copy.now ≡ Stored bytes
    → CutBesideStops mode root start len disk outline bytes c.args.outboard c.args.copy c.args.path f) exit.1 exit.2
    (λ known outline bytes at_outboard at_copy.
    inr (unopened_stops mode root start len (cut_beside outline bytes start len) disk c.args.copy c.args.path c.in_err-plain.field-0.0 c.in_err-plain.ensures.fault
    (λ d. c.in_err-plain.ensures.there (is_some (g.D.Draft.Write.contents c.in-Ok.out) [] (c.in-Ok.ensures.known known)) d (subst IsStored (sym at_copy) tt))))

pub returns-in_err-finish-clause-refused : goal.returns-in_err-finish-clause-refused
returns-in_err-finish-clause-refused g c =
    let before = g.D.Disk.at c.args.disk.now in
    let mode = c.args.mode.now in
    let root = c.args.root.now.0 in
    let start = c.args.start in
    let len = c.args.len in
    let beside = c.in_ok-beside.beside in
    let plain = c.in_ok-plain.plain in
    let woven = c.in-Ok-of.woven in
    let same = c.in-Ok-of.ensures.same in
    let disk = g.D.Disk.faultless c.args.disk.now in
    let never = is_origin_faultless g.D.Input.Source.faultless in
    let has = origin_contents g.D.Input.Source.contents in
    let done =
    beside_done mode root start len (before c.args.outboard.now) (before c.args.copy.now) woven.total woven.start woven.len (has beside) (has plain) (has woven.outboard.now)
    (has woven.copy.now) (never woven.outboard.now × never woven.copy.now) c.args.copy c.args.path (g.D.Draft.Write.contents c.in-Ok.out) (g.D.Draft.Write.contents c.write_encoding.new.out)
    c.in_ok-count.count c.in_ok-beside.ensures.opened c.in_ok-plain.ensures.opened (ap has same.0) (ap has same.1) same.2 same.3 c.in-Ok-of.ensures.claims c.in_ok-count.ensures.some c.in_ok-count.ensures.known in
    let exit = err_from_is_err_and c.from_residual-in_err-finish.result c.from_residual-in_err-finish.ensures.1 in
    finish_refused c.from_residual-in_err-finish.result exit.0 c.in_err-finish.field-0.0
    (λ f. IsKnown (before c.args.path.now) → (outline bytes : List ℕ) → before c.args.outboard.now ≡ Stored outline → before c.args.copy.now ≡ Stored bytes
    → CutBesideStops mode root start len disk outline bytes c.args.outboard c.args.copy c.args.path f) exit.1 exit.2
    (λ known outline bytes at_outboard at_copy.
    inr (finish_stops mode root (Slice start len) disk done.0 (cut_beside outline bytes start len) c.args.copy c.args.path c.in_err-finish.field-0.0
    c.in_err-finish.ensures.fault done.2.0 (cut_beside_is (before c.args.outboard.now) (before c.args.copy.now) outline bytes done.0 start len at_outboard at_copy done.1)))

pub returns-clause-done : goal.returns-clause-done
returns-clause-done g c =
    let before = g.D.Disk.at c.args.disk.now in
    let beside = c.in_ok-beside.beside in
    let plain = c.in_ok-plain.plain in
    let woven = c.in-Ok-of.woven in
    let same = c.in-Ok-of.ensures.same in
    let never = is_origin_faultless g.D.Input.Source.faultless in
    let has = origin_contents g.D.Input.Source.contents in
    let done =
    beside_done c.args.mode.now c.args.root.now.0 c.args.start c.args.len (before c.args.outboard.now) (before c.args.copy.now) woven.total woven.start woven.len (has beside) (has plain) (has woven.outboard.now)
    (has woven.copy.now) (never woven.outboard.now × never woven.copy.now) c.args.copy c.args.path (g.D.Draft.Write.contents c.in-Ok.out) (g.D.Draft.Write.contents c.write_encoding.new.out)
    c.in_ok-count.count c.in_ok-beside.ensures.opened c.in_ok-plain.ensures.opened (ap has same.0) (ap has same.1) same.2 same.3 c.in-Ok-of.ensures.claims c.in_ok-count.ensures.some c.in_ok-count.ensures.known in (
      done.0,
      done.1,
      done.2,
      done.3,
      puts_text before (g.D.Disk.at c.finish.new.self) c.args.path.now (g.D.Draft.Write.contents c.in-Ok.out) (g.D.Draft.Write.contents c.write_encoding.new.out)
          done.0 c.in-Ok.ensures.known done.4 c.in_ok-finish.ensures.put,
    )

pub returns-clause-slice : goal.returns-clause-slice
returns-clause-slice g c = λ blob known at_outboard at_copy fits.
    let before = g.D.Disk.at c.args.disk.now in
    let done = returns-clause-done g c in
    own_beside c.args.mode.now blob (before c.args.outboard.now) (before c.args.copy.now) c.args.start c.args.len before (g.D.Disk.at c.finish.new.self) c.args.path.now done.0
    done.1 at_outboard at_copy fits known done.4
