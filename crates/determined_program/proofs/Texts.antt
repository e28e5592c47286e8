-- An encoding that is written as it was verified.
use Rattle.std.proofs.Common.{◌≡◌, ◌^◌, ◌<◌, ℕ, List, length, Option, None, Some, IfSome, Result, Ok, Err, inl, inr, sym, subst, arith}
use Rattle.std.specs.Borrow.{Bor}
use Rattle.b3tree.specs.declared.mode.Mode.{Mode}
use Rattle.bao_check.specs.Accepted.{slice_nodes}
use Rattle.bao_check.specs.declared.fault.CheckFault.{CheckFault}
use Rattle.bao_check.proofs.Laws.{first_fault-not_accepted}
use Rattle.bao_decode.specs.declared.decode_fault.DecodeFault.{DecodeFault}
use Rattle.bao_decode.specs.declared.decode_fault.DecodeFault.TheVariants.{Check, File}
use Rattle.bao_decode.specs.Ranges.{IsPartText, part_bytes, part_len, part_start, written_count}
use Rattle.bao_decode.specs.TextPass.{DecodesKnown, EncodesKnown, IsTextFault, WritesKnown, task_of_part}
use Rattle.bao_text.specs.declared.kinds.Part.{Part}
use Rattle.bao_text.specs.declared.kinds.Part.TheVariants.{Slice}
use Rattle.bao_text.specs.Cut.{cut_text}
use Rattle.determined_texts.proofs.OneFault.{one_fault}
use Rattle.determined_texts.specs.Agreeing.{AgreeUnless}
use Rattle.determined_program.specs.Files.{SameWritten}
use Rattle.determined_program.specs.Copies.{IsOfCopy, MayComeOfCopy}
use Rattle.determined_program.proofs.Outcomes.{Comes, known_answers, written_agree}

-- so much of it is written
module _ (what : List ℕ → List ℕ) (mode : Mode) (root : List ℕ) (part : Part) (text : List ℕ) (low : length text < 2 ^ 63) where
  -- what it may be refused for
  abbrev pub IsFault : CheckFault → Type 0
  IsFault fault = IsTextFault (task_of_part mode root part) text fault

  abbrev pub Good : Type 0
  Good = IsPartText mode root part text

  pub apart : (f : CheckFault) → IsFault f → Good → ⊥
  apart f (inl h) good = first_fault-not_accepted mode root text (slice_nodes text (part_start part) (part_len part)) f h good
  apart f (inr h) good = omega (arith, h.1, low)

  pub one : (x y : CheckFault) → IsFault x → IsFault y → x ≡ y
  one x y (inl h) (inl k) = one_fault mode root text (slice_nodes text (part_start part) (part_len part)) x y h k
  one x y (inr h) k = absurd (omega (arith, h.1, low))
  one x y (inl h) (inr k) = absurd (omega (arith, k.1, low))

  -- what a pass over it leaves
  comes : (faultless : Type 0) (file path : Bor (List ℕ)) (old new : Option (List ℕ)) (r : Result ℕ DecodeFault) → WritesKnown what mode root part faultless text file path old new r
      → Comes Good IsFault (written_count part text) (what text) apart one faultless file path old new r
  comes faultless file path old new (Ok count) h = (h.0.0, h.1, h.2)
  comes faultless file path old new (Err (Check fault)) h = h
  comes faultless file path old new (Err (File fault)) (inl h) = inl h
  comes faultless file path old new (Err (File fault)) (inr (inl h)) = inr (inl h)
  comes faultless file path old new (Err (File fault)) (inr (inr h)) = inr (inr h)

  pub text_answers : (faultless also_faultless : Type 0) (file path : Bor (List ℕ)) (old also a b : Option (List ℕ)) (r s : Result ℕ DecodeFault)
      → WritesKnown what mode root part faultless text file path old a r → WritesKnown what mode root part also_faultless text file path also b s
      → AgreeUnless (λ m n. m ≡ n) (MayComeOfCopy Good faultless file path) (MayComeOfCopy Good also_faultless file path) r s
  text_answers faultless also_faultless file path old also a b r s p q =
      known_answers Good IsFault (written_count part text) (what text) apart one faultless also_faultless file path old also a b r s (comes faultless file path old a r p)
      (comes also_faultless file path also b s q)

  pub text_written : (faultless also_faultless : Type 0) (file path : Bor (List ℕ)) (old also a b : Option (List ℕ)) (r s : Result ℕ DecodeFault) → old ≡ also
      → WritesKnown what mode root part faultless text file path old a r → WritesKnown what mode root part also_faultless text file path also b s → IfSome old (λ xs. SameWritten IsOfCopy a b r s)
  text_written faultless also_faultless file path old also a b r s same p q =
      written_agree Good IsFault (written_count part text) (what text) apart one faultless also_faultless file path old also a b r s same (comes faultless file path old a r p)
      (comes also_faultless file path also b s q)

pub texts_agree : (mode : Mode) (root : List ℕ) (part : Part) (faultless also_faultless : Type 0) (contents others : Option (List ℕ)) (file path : Bor (List ℕ)) (old also a b : Option (List ℕ))
    (r s : Result ℕ DecodeFault) → contents ≡ others → IfSome contents (λ text. DecodesKnown mode root part faultless text file path old a r)
    → IfSome others (λ text. DecodesKnown mode root part also_faultless text file path also b s)
    → IfSome contents (λ text. length text < 2 ^ 63 → AgreeUnless (λ m n. m ≡ n) (MayComeOfCopy (IsPartText mode root part text) faultless file path) (MayComeOfCopy (IsPartText mode root part text) also_faultless file path) r s)
texts_agree mode root part faultless also_faultless None others file path old also a b r s same p q = tt
texts_agree mode root part faultless also_faultless (Some text) others file path old also a b r s same p q = λ low.
    text_answers (part_bytes part) mode root part text low faultless also_faultless file path old also a b r s p
    (subst (λ (k : Option (List ℕ)). IfSome k (λ x. DecodesKnown mode root part also_faultless x file path also b s)) (sym same) q)

pub texts_written : (mode : Mode) (root : List ℕ) (part : Part) (faultless also_faultless : Type 0) (contents others : Option (List ℕ)) (file path : Bor (List ℕ)) (old also a b : Option (List ℕ))
    (r s : Result ℕ DecodeFault) → contents ≡ others → old ≡ also → IfSome contents (λ text. DecodesKnown mode root part faultless text file path old a r)
    → IfSome others (λ text. DecodesKnown mode root part also_faultless text file path also b s)
    → IfSome contents (λ text. length text < 2 ^ 63 → IfSome old (λ xs. SameWritten IsOfCopy a b r s))
texts_written mode root part faultless also_faultless None others file path old also a b r s same held p q = tt
texts_written mode root part faultless also_faultless (Some text) others file path old also a b r s same held p q = λ low.
    text_written (part_bytes part) mode root part text low faultless also_faultless file path old also a b r s held p
    (subst (λ (k : Option (List ℕ)). IfSome k (λ x. DecodesKnown mode root part also_faultless x file path also b s)) (sym same) q)

-- a slice that is cut out of known bytes
module _ (mode : Mode) (root : List ℕ) (start len : ℕ) (faultless also_faultless : Type 0) (file path : Bor (List ℕ)) (old also a b : Option (List ℕ)) (r s : Result ℕ DecodeFault) where
  abbrev Cuts : Type 0 → Option (List ℕ) → Option (List ℕ) → Result ℕ DecodeFault → List ℕ → Type 0
  Cuts sure before after result text = length text < 2 ^ 64 → EncodesKnown mode root (Slice start len) sure (cut_text text start len) file path before after result

  pub slices_agree : (contents others : Option (List ℕ)) → contents ≡ others → IfSome contents (Cuts faultless old a r) → IfSome others (Cuts also_faultless also b s)
      → IfSome contents (λ text. length text < 2 ^ 64 → length (cut_text text start len) < 2 ^ 63
      → AgreeUnless (λ m n. m ≡ n) (MayComeOfCopy (IsPartText mode root (Slice start len) (cut_text text start len)) faultless file path) (MayComeOfCopy (IsPartText mode root (Slice start len) (cut_text text start len)) also_faultless file path) r s)
  slices_agree None others same p q = tt
  slices_agree (Some text) others same p q = λ fits low.
      text_answers (λ (x : List ℕ). x) mode root (Slice start len) (cut_text text start len) low faultless also_faultless file path old also a b r s (p fits)
      (subst (λ (k : Option (List ℕ)). IfSome k (Cuts also_faultless also b s)) (sym same) q fits)

  pub slices_written : (contents others : Option (List ℕ)) → contents ≡ others → old ≡ also → IfSome contents (Cuts faultless old a r) → IfSome others (Cuts also_faultless also b s)
      → IfSome contents (λ text. length text < 2 ^ 64 → length (cut_text text start len) < 2 ^ 63 → IfSome old (λ xs. SameWritten IsOfCopy a b r s))
  slices_written None others same held p q = tt
  slices_written (Some text) others same held p q = λ fits low.
      text_written (λ (x : List ℕ). x) mode root (Slice start len) (cut_text text start len) low faultless also_faultless file path old also a b r s held (p fits)
      (subst (λ (k : Option (List ℕ)). IfSome k (Cuts also_faultless also b s)) (sym same) q fits)
