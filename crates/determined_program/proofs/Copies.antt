-- A plain copy that is written beside an outline.
use Rattle.std.proofs.Common.{◌≡◌, ℕ, List, length, Option, None, Some, IfSome, Result, Ok, Err, sym, subst, arith}
use Rattle.std.specs.Borrow.{Bor}
use Rattle.bao_check.specs.declared.fault.CheckFault.{CheckFault}
use Rattle.bao_check.specs.declared.fault.CheckFault.TheVariants.{Short, Mismatch, Trailing, Memory, Reader}
use Rattle.bao_check.specs.declared.outline.Outline.{Outline}
use Rattle.bao_check.specs.Outline.{outline_claimed, outline_mode, outline_root, outline_text}
use Rattle.bao_text.specs.Choice.{chunk_count}
use Rattle.bao_decode.specs.declared.decode_fault.DecodeFault.{DecodeFault}
use Rattle.bao_decode.specs.declared.decode_fault.DecodeFault.TheVariants.{Check, File}
use Rattle.bao_decode.specs.Copies.{CopiesKnown}
use Rattle.bao_decode.specs.CopyPass.{IsCopyFault, IsGoodCopy}
use Rattle.determined_texts.proofs.OneFault.{one_bare_fault}
use Rattle.determined_texts.specs.Agreeing.{AgreeUnless}
use Rattle.determined_program.specs.Files.{SameWritten}
use Rattle.determined_program.specs.Copies.{IsOfCopy, MayComeOfCopy}
use Rattle.determined_program.proofs.Outcomes.{Comes, known_answers, written_agree}

apart : (o : Outline) (copy : List ℕ) (f : CheckFault) → IsCopyFault o copy f → IsGoodCopy o copy → ⊥
apart o copy (Short at) h are = h.5 (are.good h.0 h.1 h.2).0
apart o copy (Mismatch at) h are = h.6 (are.good h.0 h.1 h.2).1
apart o copy (Trailing at) h are = omega (arith, h.2, h.1, are.ends)
apart o copy Memory h are = h
apart o copy Reader h are = h

one : (o : Outline) (copy : List ℕ) (x y : CheckFault) → IsCopyFault o copy x → IsCopyFault o copy y → x ≡ y
one o copy x y h k = one_bare_fault (outline_mode o) (outline_root o) (outline_text o) 0 (chunk_count (outline_claimed o)) copy x y h k

-- what is known of a copy, as of a task that verifies all first
comes : (o : Outline) (copy : List ℕ) (faultless : Type 0) (file path : Bor (List ℕ)) (old new : Option (List ℕ)) (r : Result ℕ DecodeFault)
    → CopiesKnown o faultless copy file path old new r
    → Comes (IsGoodCopy o copy) (IsCopyFault o copy) (length copy) copy (apart o copy) (one o copy) faultless file path old new r
comes o copy faultless file path old new (Ok count) h = (h.0.0, h.1, h.2)
comes o copy faultless file path old new (Err (File fault)) h = h
comes o copy faultless file path old new (Err (Check fault)) h = h

pub copies_agree : (o : Outline) (faultless also_faultless : Type 0) (contents others : Option (List ℕ)) (file path : Bor (List ℕ)) (old also a b : Option (List ℕ))
    (r s : Result ℕ DecodeFault) → contents ≡ others → IfSome contents (λ copy. CopiesKnown o faultless copy file path old a r)
    → IfSome others (λ copy. CopiesKnown o also_faultless copy file path also b s)
    → IfSome contents (λ copy. AgreeUnless (λ m n. m ≡ n) (MayComeOfCopy (IsGoodCopy o copy) faultless file path) (MayComeOfCopy (IsGoodCopy o copy) also_faultless file path) r s)
copies_agree o faultless also_faultless None others file path old also a b r s same p q = tt
copies_agree o faultless also_faultless (Some copy) others file path old also a b r s same p q =
    known_answers (IsGoodCopy o copy) (IsCopyFault o copy) (length copy) copy (apart o copy) (one o copy) faultless also_faultless file path old also a b r s
    (comes o copy faultless file path old a r p)
    (comes o copy also_faultless file path also b s (subst (λ (k : Option (List ℕ)). IfSome k (λ x. CopiesKnown o also_faultless x file path also b s)) (sym same) q))

pub copies_written : (o : Outline) (faultless also_faultless : Type 0) (contents others : Option (List ℕ)) (file path : Bor (List ℕ)) (old also a b : Option (List ℕ))
    (r s : Result ℕ DecodeFault) → contents ≡ others → old ≡ also → IfSome contents (λ copy. CopiesKnown o faultless copy file path old a r)
    → IfSome others (λ copy. CopiesKnown o also_faultless copy file path also b s) → IfSome contents (λ _. IfSome old (λ xs. SameWritten IsOfCopy a b r s))
copies_written o faultless also_faultless None others file path old also a b r s same held p q = tt
copies_written o faultless also_faultless (Some copy) others file path old also a b r s same held p q =
    written_agree (IsGoodCopy o copy) (IsCopyFault o copy) (length copy) copy (apart o copy) (one o copy) faultless also_faultless file path old also a b r s held
    (comes o copy faultless file path old a r p)
    (comes o copy also_faultless file path also b s (subst (λ (k : Option (List ℕ)). IfSome k (λ x. CopiesKnown o also_faultless x file path also b s)) (sym same) q))
