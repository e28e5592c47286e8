-- Encodings and copies in files of two disks of which the same is known.
use Rattle.std.proofs.Common.{◌≡◌, ◌⊎◌, ◌^◌, ◌<◌, ℕ, List, length, Result, Ok, Err, IfErr, IfOk, inl, inr, sym, ap, ◌∙◌, arith}
use Rattle.std.specs.Borrow.{Bor}
use Rattle.b3tree.specs.declared.mode.Mode.{Mode}
use Rattle.bao_text.specs.Choice.{chunk_count}
use Rattle.bao_text.specs.Cut.{claimed}
use Rattle.bao_check.specs.Accepted.{IsAccepted, outboard_nodes}
use Rattle.bao_check.specs.Bare.{AreBare, IsBareFault}
use Rattle.bao_check.specs.Faults.{IsFirstFault}
use Rattle.bao_check.specs.declared.fault.CheckFault.{CheckFault}
use Rattle.bao_check.specs.declared.fault.CheckFault.TheVariants.{Short, Mismatch, Trailing, Memory, Reader}
use Rattle.bao_check.proofs.Laws.{first_fault-not_accepted}
use Rattle.bao_decode.specs.Copies.{BesideStops, IsCopyBeside}
use Rattle.bao_decode.specs.Opened.{IsNotThere}
use Rattle.bao_decode.specs.Ranges.{IsPartText, part_bytes, written_count}
use Rattle.bao_decode.specs.TextPass.{DecodeStops}
use Rattle.bao_decode.specs.declared.decode_fault.DecodeFault.{DecodeFault}
use Rattle.bao_decode.specs.declared.decode_fault.DecodeFault.TheVariants.{Check, File}
use Rattle.bao_files.specs.declared.fault.FileFault.{FileFault}
use Rattle.bao_files.specs.declared.fault.FileFault.TheVariants as file
use Rattle.bao_text.specs.declared.kinds.Part.{Part}
use Rattle.determined_texts.proofs.OneFault.{one_bare_fault, one_fault}
use Rattle.determined_texts.specs.Agreeing.{AgreeButFor, AgreeUnless}
use Rattle.determined_program.specs.Copies.{MayComeBeside, MayComeOfCopy}
use Rattle.determined_program.proofs.Texts.{apart, one}

module _ (mode : Mode) (root : List ℕ) (part : Part) (text : List ℕ) (low : length text < 2 ^ 63) where
  -- a fault of a file may come at any time
  file_may : (faultless : Type 0) (file path : Bor (List ℕ)) (f : FileFault) → DecodeStops mode root part faultless text file path (File f) → MayComeOfCopy (IsPartText mode root part text) faultless file path (File f)
  file_may faultless file path f (inl memory) = inl (ap (λ x. File x) memory)
  file_may faultless file path f (inr (inl read)) = inr (inr (ap (λ x. File x) read.0, read.1))
  file_may faultless file path f (inr (inr write)) = inr (inl (ap (λ x. File x) write.0, write.1))

  pub decodes_agree : (faultless also_faultless : Type 0) (file path : Bor (List ℕ)) (r s : Result ℕ DecodeFault)
      → IfOk r (λ m. IsPartText mode root part text × (m ≡ written_count part text)) → IfErr r (DecodeStops mode root part faultless text file path)
      → IfOk s (λ m. IsPartText mode root part text × (m ≡ written_count part text)) → IfErr s (DecodeStops mode root part also_faultless text file path)
      → AgreeUnless (λ m n. m ≡ n) (MayComeOfCopy (IsPartText mode root part text) faultless file path) (MayComeOfCopy (IsPartText mode root part text) also_faultless file path) r s
  decodes_agree faultless also_faultless file path (Ok m) (Ok k) p p' q q' = p.1 ∙ sym q.1
  decodes_agree faultless also_faultless file path (Ok m) (Err (File y)) p p' q q' = file_may also_faultless file path y q'
  decodes_agree faultless also_faultless file path (Ok m) (Err (Check y)) p p' q q' = absurd (apart (part_bytes part) mode root part text low y q' p.0)
  decodes_agree faultless also_faultless file path (Err (File x)) (Ok k) p p' q q' = file_may faultless file path x p'
  decodes_agree faultless also_faultless file path (Err (Check x)) (Ok k) p p' q q' = absurd (apart (part_bytes part) mode root part text low x p' q.0)
  decodes_agree faultless also_faultless file path (Err (File x)) (Err y) p p' q q' = inr (inl (file_may faultless file path x p'))
  decodes_agree faultless also_faultless file path (Err (Check x)) (Err (File y)) p p' q q' = inr (inr (file_may also_faultless file path y q'))
  decodes_agree faultless also_faultless file path (Err (Check x)) (Err (Check y)) p p' q q' = inl (ap (λ k. Check k) (one (part_bytes part) mode root part text low x y p' q'))

-- a file that isn't there
pub absent_agree : (path : Bor (List ℕ)) (r s : Result ℕ DecodeFault) → IfOk r (λ _. ⊥) → IfErr r (IsNotThere path) → IfOk s (λ _. ⊥) → IfErr s (IsNotThere path)
    → AgreeButFor (File file.Memory) (λ _ _. ⊥) r s
absent_agree path (Ok m) s p p' q q' = absurd p
absent_agree path (Err x) (Ok k) p p' q q' = absurd q
absent_agree path (Err x) (Err y) p (inl memory) q q' = inr (inl memory)
absent_agree path (Err x) (Err y) p (inr read) q (inl memory) = inr (inr memory)
absent_agree path (Err x) (Err y) p (inr read) q (inr also) = inl (read ∙ sym also)

module _ (mode : Mode) (root outline bytes : List ℕ) where
  abbrev pub IsFault : CheckFault → Type 0
  IsFault fault = IsFirstFault mode root outline (outboard_nodes outline) fault
      ⊎ (IsAccepted mode root outline (outboard_nodes outline) × IsBareFault mode root outline 0 (chunk_count (claimed outline)) bytes fault)

  -- a good copy has no fault
  bare_apart : (f : CheckFault) → IsBareFault mode root outline 0 (chunk_count (claimed outline)) bytes f → AreBare mode root outline 0 (chunk_count (claimed outline)) bytes → ⊥
  bare_apart (Short at) h are = h.5 (are.good h.0 h.1 h.2).0
  bare_apart (Mismatch at) h are = h.6 (are.good h.0 h.1 h.2).1
  bare_apart (Trailing at) h are = omega (arith, h.2, h.1, are.ends)
  bare_apart Memory h are = h
  bare_apart Reader h are = h

  pub beside_apart : (f : CheckFault) → IsFault f → IsCopyBeside mode root outline bytes → ⊥
  beside_apart f (inl h) good = first_fault-not_accepted mode root outline (outboard_nodes outline) f h good.0
  beside_apart f (inr h) good = bare_apart f h.1 good.1

  beside_one : (x y : CheckFault) → IsFault x → IsFault y → x ≡ y
  beside_one x y (inl h) (inl k) = one_fault mode root outline (outboard_nodes outline) x y h k
  beside_one x y (inl h) (inr k) = absurd (first_fault-not_accepted mode root outline (outboard_nodes outline) x h k.0)
  beside_one x y (inr h) (inl k) = absurd (first_fault-not_accepted mode root outline (outboard_nodes outline) y k h.0)
  beside_one x y (inr h) (inr k) = one_bare_fault mode root outline 0 (chunk_count (claimed outline)) bytes x y h.1 k.1

  beside_may : (faultless : Type 0) (outboard file path : Bor (List ℕ)) (f : FileFault) → BesideStops mode root faultless outline bytes outboard file path (File f)
      → MayComeBeside (IsCopyBeside mode root outline bytes) faultless outboard file path (File f)
  beside_may faultless outboard file path f (inl memory) = inl (ap (λ x. File x) memory)
  beside_may faultless outboard file path f (inr (inl read)) = inr (inr (inl (ap (λ x. File x) read.0, read.1)))
  beside_may faultless outboard file path f (inr (inr (inl read))) = inr (inr (inr (ap (λ x. File x) read.0, read.1)))
  beside_may faultless outboard file path f (inr (inr (inr write))) = inr (inl (ap (λ x. File x) write.0, write.1))

  pub copies_on_agree : (faultless also_faultless : Type 0) (outboard file path : Bor (List ℕ)) (r s : Result ℕ DecodeFault)
      → IfOk r (λ m. IsCopyBeside mode root outline bytes × (m ≡ length bytes)) → IfErr r (BesideStops mode root faultless outline bytes outboard file path)
      → IfOk s (λ m. IsCopyBeside mode root outline bytes × (m ≡ length bytes)) → IfErr s (BesideStops mode root also_faultless outline bytes outboard file path)
      → AgreeUnless (λ m n. m ≡ n) (MayComeBeside (IsCopyBeside mode root outline bytes) faultless outboard file path) (MayComeBeside (IsCopyBeside mode root outline bytes) also_faultless outboard file path) r s
  copies_on_agree faultless also_faultless outboard file path (Ok m) (Ok k) p p' q q' = p.1 ∙ sym q.1
  copies_on_agree faultless also_faultless outboard file path (Ok m) (Err (File y)) p p' q q' = beside_may also_faultless outboard file path y q'
  copies_on_agree faultless also_faultless outboard file path (Ok m) (Err (Check y)) p p' q q' = absurd (beside_apart y q' p.0)
  copies_on_agree faultless also_faultless outboard file path (Err (File x)) (Ok k) p p' q q' = beside_may faultless outboard file path x p'
  copies_on_agree faultless also_faultless outboard file path (Err (Check x)) (Ok k) p p' q q' = absurd (beside_apart x p' q.0)
  copies_on_agree faultless also_faultless outboard file path (Err (File x)) (Err y) p p' q q' = inr (inl (beside_may faultless outboard file path x p'))
  copies_on_agree faultless also_faultless outboard file path (Err (Check x)) (Err (File y)) p p' q q' = inr (inr (beside_may also_faultless outboard file path y q'))
  copies_on_agree faultless also_faultless outboard file path (Err (Check x)) (Err (Check y)) p p' q q' = inl (ap (λ k. Check k) (beside_one x y p' q'))
