-- What a task that verifies all before it writes comes to, where the bytes that it reads are known.
use Rattle.std.proofs.Common.{◌≡◌, ◌⊎◌, inl, inr, ℕ, List, Option, None, Some, IfSome, Result, Ok, Err, refl, sym, ap, subst, ◌∙◌}
use Rattle.std.specs.Borrow.{Bor}
use Rattle.std.specs.Io.KnownBytes.{Appends, Keeps}
use Rattle.bao_check.specs.declared.fault.CheckFault.{CheckFault}
use Rattle.bao_decode.specs.declared.decode_fault.DecodeFault.{DecodeFault}
use Rattle.bao_decode.specs.declared.decode_fault.DecodeFault.TheVariants.{Check, File}
use Rattle.bao_files.specs.Printed.{AppendsBeginning}
use Rattle.bao_files.specs.declared.fault.FileFault.{FileFault}
use Rattle.bao_files.specs.declared.fault.FileFault.TheVariants.{Memory, Read, Write}
use Rattle.determined_program.proofs.Writers.{grown, kept}
use Rattle.determined_texts.specs.Agreeing.{AgreeUnless}
use Rattle.determined_program.specs.Files.{SameWritten}
use Rattle.determined_program.specs.Copies.{IsOfCopy, MayComeOfCopy}

-- the bytes are good, so many are counted, and these are written; or they have this fault
module _ (Good : Type 0) (IsFault : CheckFault → Type 0) (n : ℕ) (bytes : List ℕ) (apart : (f : CheckFault) → IsFault f → Good → ⊥)
    (one : (x y : CheckFault) → IsFault x → IsFault y → x ≡ y) where
  abbrev pub Leaves : Type 0 → Bor (List ℕ) → Bor (List ℕ) → Option (List ℕ) → Option (List ℕ) → DecodeFault → Type 0
  Leaves faultless file path old new (File fault) =
      ((fault ≡ Memory) × Keeps old new)
      ⊎ ((fault ≡ Read file) × (¬ faultless) × AppendsBeginning old new bytes)
      ⊎ ((fault ≡ Write path) × Good × AppendsBeginning old new bytes)
  Leaves faultless file path old new (Check fault) = IsFault fault × Keeps old new

  abbrev pub Comes : Type 0 → Bor (List ℕ) → Bor (List ℕ) → Option (List ℕ) → Option (List ℕ) → Result ℕ DecodeFault → Type 0
  Comes faultless file path old new (Ok count) = Good × (count ≡ n) × Appends old new bytes
  Comes faultless file path old new (Err fault) = Leaves faultless file path old new fault

  -- a fault of a file may come at any time
  file_may : (faultless : Type 0) (file path : Bor (List ℕ)) (old new : Option (List ℕ)) (f : FileFault) → Leaves faultless file path old new (File f) → MayComeOfCopy Good faultless file path (File f)
  file_may faultless file path old new f h = elim h [
    | inl k ↦ inl (ap (λ x. File x) k.0)
    | inr (inl k) ↦ inr (inr (ap (λ x. File x) k.0, k.1))
    | inr (inr k) ↦ inr (inl (ap (λ x. File x) k.0, k.1))
  ]

  pub known_answers : (faultless also_faultless : Type 0) (file path : Bor (List ℕ)) (old also a b : Option (List ℕ)) (r s : Result ℕ DecodeFault)
      → Comes faultless file path old a r → Comes also_faultless file path also b s
      → AgreeUnless (λ m n. m ≡ n) (MayComeOfCopy Good faultless file path) (MayComeOfCopy Good also_faultless file path) r s
  known_answers faultless also_faultless file path old also a b (Ok m) (Ok k) p q = p.1 ∙ sym q.1
  known_answers faultless also_faultless file path old also a b (Ok m) (Err (File y)) p q = file_may also_faultless file path also b y q
  known_answers faultless also_faultless file path old also a b (Ok m) (Err (Check y)) p q = absurd (apart y q.0 p.0)
  known_answers faultless also_faultless file path old also a b (Err (File x)) (Ok k) p q = file_may faultless file path old a x p
  known_answers faultless also_faultless file path old also a b (Err (Check x)) (Ok k) p q = absurd (apart x p.0 q.0)
  known_answers faultless also_faultless file path old also a b (Err (File x)) (Err y) p q = inr (inl (file_may faultless file path old a x p))
  known_answers faultless also_faultless file path old also a b (Err (Check x)) (Err (File y)) p q = inr (inr (file_may also_faultless file path also b y q))
  known_answers faultless also_faultless file path old also a b (Err (Check x)) (Err (Check y)) p q = inl (ap (λ k. Check k) (one x y p.0 q.0))

  known_written : (faultless also_faultless : Type 0) (file path : Bor (List ℕ)) (xs : List ℕ) (a b : Option (List ℕ)) (r s : Result ℕ DecodeFault)
      → Comes faultless file path (Some xs) a r → Comes also_faultless file path (Some xs) b s → SameWritten IsOfCopy a b r s
  known_written faultless also_faultless file path xs a b (Ok m) (Ok k) p q = grown (Some xs) a b bytes xs refl p.2 q.2
  known_written faultless also_faultless file path xs a b (Ok m) (Err y) p q = tt
  known_written faultless also_faultless file path xs a b (Err x) (Ok k) p q = tt
  known_written faultless also_faultless file path xs a b (Err (Check x)) (Err (Check y)) p q = λ first other. kept (Some xs) a b xs refl p.1 q.1
  known_written faultless also_faultless file path xs a b (Err (Check x)) (Err (File y)) p q = λ first other. absurd other
  known_written faultless also_faultless file path xs a b (Err (File x)) (Err y) p q = λ first other. absurd first

  pub written_agree : (faultless also_faultless : Type 0) (file path : Bor (List ℕ)) (old also a b : Option (List ℕ)) (r s : Result ℕ DecodeFault)
      → old ≡ also → Comes faultless file path old a r → Comes also_faultless file path also b s → IfSome old (λ xs. SameWritten IsOfCopy a b r s)
  written_agree faultless also_faultless file path None also a b r s same p q = tt
  written_agree faultless also_faultless file path (Some xs) also a b r s same p q =
      known_written faultless also_faultless file path xs a b r s p (subst (λ (k : Option (List ℕ)). Comes also_faultless file path k b s) (sym same) q)
