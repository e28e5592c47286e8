use Rattle.std.proofs.Common.{◌≡◌, ◌⊎◌, ◌∙◌, ◌^◌, ◌<◌, ℕ, List, length, None, Some, Result, Ok, Err, IfErr, inl, inr, ap, sym}
use Rattle.std.specs.Borrow.{Bor}
use Rattle.b3tree.specs.declared.mode.Mode.{Mode}
use Rattle.bao_decode.specs.Opened.{IsNotThere}
use Rattle.bao_decode.specs.TextPass.{DecodeStops}
use Rattle.bao_decode.specs.Weaving.{CutBesideStops}
use Rattle.bao_decode.specs.declared.decode_fault.DecodeFault.{DecodeFault}
use Rattle.bao_files.specs.Disks.{Absent, FileState, IsKnown, Stored}
use Rattle.bao_text.specs.declared.kinds.Part.TheVariants.{Slice}
use Rattle.bao_text.specs.Cut.{cut_text}
use Rattle.bao_command.proofs.Refusals.{beside_refused, is_there, not_there, text_refused}
use Rattle.bao_command.proofs.Telling.{file_refuses_none}
use Rattle.bao_decode.specs.declared.decode_fault.DecodeFault.TheVariants as decode
use Rattle.bao_files.specs.declared.fault.FileFault.TheVariants as files
use Rattle.bao_command.specs.Refused.{IsRefusedCut}
use Rattle.bao_command.specs.Status.{decode_status_of}
use Rattle.bao_command.proofs.commands.slice_of.Goals as goal

module _ (at : List ℕ → FileState) (mode : Mode) (key : List ℕ) (start len : ℕ) (file path : Bor (List ℕ)) (faultless : Type 0) where
  -- what a fault of a slice says, out of an encoding and beside an outboard encoding
  cut_refused : (result : Result ℕ DecodeFault) → IfErr result (λ fault. at file.now ≡ Absent → IsNotThere file fault)
      → IfErr result (λ fault. IsKnown (at path.now) → (text : List ℕ) → at file.now ≡ Stored text → length text < 2 ^ 63
      → DecodeStops mode key (Slice start len) faultless (cut_text text start len) file path fault)
      → IfErr result (λ fault. decode_status_of fault ≡ 1 → IsRefusedCut at mode start len None file.now path.now key)
  cut_refused (Ok count) absent stops = tt
  cut_refused (Err fault) absent stops = λ is. (
    is_there (at file.now) file fault is absent,
    λ known text there small. text_refused mode key faultless (Slice start len) (cut_text text start len) file path fault is (stops known text there small),
  )

  cut_beside_refused : (outboard : Bor (List ℕ)) (result : Result ℕ DecodeFault) → IfErr result (λ fault. at outboard.now ≡ Absent → IsNotThere outboard fault)
      → IfErr result (λ fault. at file.now ≡ Absent → IsNotThere file fault ⊎ (fault ≡ decode.File (files.Read outboard)))
      → IfErr result (λ fault. IsKnown (at path.now) → (outline bytes : List ℕ) → at outboard.now ≡ Stored outline → at file.now ≡ Stored bytes
      → CutBesideStops mode key start len faultless outline bytes outboard file path fault)
      → IfErr result (λ fault. decode_status_of fault ≡ 1 → IsRefusedCut at mode start len (Some outboard) file.now path.now key)
  cut_beside_refused outboard (Ok count) absent no_copy stops = tt
  cut_beside_refused outboard (Err fault) absent no_copy stops = λ is. (
    is_there (at outboard.now) outboard fault is absent,
    λ known outline bytes there also. beside_refused mode key faultless start len outline bytes outboard file path fault is (stops known outline bytes there also),
    λ none. elim (no_copy none) [
      | inl lacks ↦ not_there file fault is lacks
      | inr read ↦ file_refuses_none (files.Read outboard) (ap decode_status_of (sym read) ∙ is)
    ],
  )

pub returns-in-Some-clause-done : goal.returns-in-Some-clause-done
returns-in-Some-clause-done g c = rw c.in-Some.is c.slice_beside_on.ensures.done

pub returns-in-Some-clause-refused : goal.returns-in-Some-clause-refused
returns-in-Some-clause-refused g c = rw c.in-Some.is (cut_beside_refused (g.D.Disk.at c.args.disk.now) c.args.mode.now c.args.root.now.0 c.args.start c.args.len c.args.file c.args.path
    (g.D.Disk.faultless c.args.disk.now) c.in-Some.outboard c.slice_beside_on.result c.slice_beside_on.ensures.absent c.slice_beside_on.ensures.no_copy c.slice_beside_on.ensures.refused)

pub returns-in-None-clause-done : goal.returns-in-None-clause-done
returns-in-None-clause-done g c = rw c.in-None.is c.slice_on.ensures.done

pub returns-in-None-clause-refused : goal.returns-in-None-clause-refused
returns-in-None-clause-refused g c = rw c.in-None.is (cut_refused (g.D.Disk.at c.args.disk.now) c.args.mode.now c.args.root.now.0 c.args.start c.args.len c.args.file c.args.path
    (g.D.Disk.faultless c.args.disk.now) c.slice_on.result c.slice_on.ensures.absent c.slice_on.ensures.refused)
