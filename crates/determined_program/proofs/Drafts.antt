-- An encoding that is written while it is verified.
use Rattle.std.proofs.Common.{◌≡◌, ◌^◌, ◌<◌, ℕ, List, length, Option, None, Some, IfSome, Result, Ok, Err, inl, inr, refl, sym, ap, subst, ◌∙◌}
use Rattle.std.specs.Borrow.{Bor}
use Rattle.b3tree.specs.declared.mode.Mode.{Mode}
use Rattle.bao_decode.specs.declared.decode_fault.DecodeFault.{DecodeFault}
use Rattle.bao_decode.specs.declared.decode_fault.DecodeFault.TheVariants.{Check, File}
use Rattle.bao_decode.specs.Ranges.{IsPartText, part_bytes}
use Rattle.bao_decode.specs.TextPass.{DraftsKnown, LeavesDraft}
use Rattle.bao_files.specs.declared.fault.FileFault.{FileFault}
use Rattle.bao_text.specs.declared.kinds.Part.{Part}
use Rattle.determined_program.proofs.Writers.{grown}
use Rattle.determined_texts.specs.Agreeing.{AgreeUnless}
use Rattle.determined_program.specs.Files.{SameWritten}
use Rattle.determined_program.specs.Copies.{MayComeOfCopy}
use Rattle.determined_program.proofs.Texts.{apart, one}

module _ (mode : Mode) (root : List ℕ) (part : Part) (text : List ℕ) (low : length text < 2 ^ 63) where
  -- a fault of a file may come at any time
  file_may : (faultless : Type 0) (file path : Bor (List ℕ)) (old new : Option (List ℕ)) (f : FileFault) → LeavesDraft mode root part faultless text file path old new (File f)
      → MayComeOfCopy (IsPartText mode root part text) faultless file path (File f)
  file_may faultless file path old new f h = elim h [
    | inl k ↦ inl (ap (λ x. File x) k.0)
    | inr (inl k) ↦ inr (inr (ap (λ x. File x) k.0, k.1))
    | inr (inr k) ↦ inr (inl (ap (λ x. File x) k.0, k.1))
  ]

  draft_answers : (faultless also_faultless : Type 0) (file path : Bor (List ℕ)) (old also a b : Option (List ℕ)) (r s : Result ℕ DecodeFault)
      → DraftsKnown mode root part faultless text file path old a r → DraftsKnown mode root part also_faultless text file path also b s
      → AgreeUnless (λ m n. m ≡ n) (MayComeOfCopy (IsPartText mode root part text) faultless file path) (MayComeOfCopy (IsPartText mode root part text) also_faultless file path) r s
  draft_answers faultless also_faultless file path old also a b (Ok m) (Ok k) p q = p.1 ∙ sym q.1
  draft_answers faultless also_faultless file path old also a b (Ok m) (Err (File y)) p q = file_may also_faultless file path also b y q
  draft_answers faultless also_faultless file path old also a b (Ok m) (Err (Check y)) p q = absurd (apart (part_bytes part) mode root part text low y q.0 p.0.0)
  draft_answers faultless also_faultless file path old also a b (Err (File x)) (Ok k) p q = file_may faultless file path old a x p
  draft_answers faultless also_faultless file path old also a b (Err (Check x)) (Ok k) p q = absurd (apart (part_bytes part) mode root part text low x p.0 q.0.0)
  draft_answers faultless also_faultless file path old also a b (Err (File x)) (Err y) p q = inr (inl (file_may faultless file path old a x p))
  draft_answers faultless also_faultless file path old also a b (Err (Check x)) (Err (File y)) p q = inr (inr (file_may also_faultless file path also b y q))
  draft_answers faultless also_faultless file path old also a b (Err (Check x)) (Err (Check y)) p q = inl (ap (λ k. Check k) (one (part_bytes part) mode root part text low x y p.0 q.0))

  draft_written : (faultless also_faultless : Type 0) (file path : Bor (List ℕ)) (xs : List ℕ) (a b : Option (List ℕ)) (r s : Result ℕ DecodeFault)
      → DraftsKnown mode root part faultless text file path (Some xs) a r → DraftsKnown mode root part also_faultless text file path (Some xs) b s → SameWritten (λ _. ⊥) a b r s
  draft_written faultless also_faultless file path xs a b (Ok m) (Ok k) p q = grown (Some xs) a b (part_bytes part text) xs refl p.2 q.2
  draft_written faultless also_faultless file path xs a b (Ok m) (Err y) p q = tt
  draft_written faultless also_faultless file path xs a b (Err x) (Ok k) p q = tt
  draft_written faultless also_faultless file path xs a b (Err x) (Err y) p q = λ first other. absurd first

  same_written : (faultless also_faultless : Type 0) (file path : Bor (List ℕ)) (old also a b : Option (List ℕ)) (r s : Result ℕ DecodeFault) → old ≡ also
      → DraftsKnown mode root part faultless text file path old a r → DraftsKnown mode root part also_faultless text file path also b s → IfSome old (λ xs. SameWritten (λ _. ⊥) a b r s)
  same_written faultless also_faultless file path None also a b r s same p q = tt
  same_written faultless also_faultless file path (Some xs) also a b r s same p q =
      draft_written faultless also_faultless file path xs a b r s p
      (subst (λ (k : Option (List ℕ)). DraftsKnown mode root part also_faultless text file path k b s) (sym same) q)

pub drafts_agree : (mode : Mode) (root : List ℕ) (part : Part) (faultless also_faultless : Type 0) (contents others : Option (List ℕ)) (file path : Bor (List ℕ)) (old also a b : Option (List ℕ))
    (r s : Result ℕ DecodeFault) → contents ≡ others → IfSome contents (λ text. DraftsKnown mode root part faultless text file path old a r)
    → IfSome others (λ text. DraftsKnown mode root part also_faultless text file path also b s)
    → IfSome contents (λ text. length text < 2 ^ 63 → AgreeUnless (λ m n. m ≡ n) (MayComeOfCopy (IsPartText mode root part text) faultless file path) (MayComeOfCopy (IsPartText mode root part text) also_faultless file path) r s)
drafts_agree mode root part faultless also_faultless None others file path old also a b r s same p q = tt
drafts_agree mode root part faultless also_faultless (Some text) others file path old also a b r s same p q = λ low.
    draft_answers mode root part text low faultless also_faultless file path old also a b r s p
    (subst (λ (k : Option (List ℕ)). IfSome k (λ x. DraftsKnown mode root part also_faultless x file path also b s)) (sym same) q)

pub drafts_written : (mode : Mode) (root : List ℕ) (part : Part) (faultless also_faultless : Type 0) (contents others : Option (List ℕ)) (file path : Bor (List ℕ)) (old also a b : Option (List ℕ))
    (r s : Result ℕ DecodeFault) → contents ≡ others → old ≡ also → IfSome contents (λ text. DraftsKnown mode root part faultless text file path old a r)
    → IfSome others (λ text. DraftsKnown mode root part also_faultless text file path also b s)
    → IfSome contents (λ text. length text < 2 ^ 63 → IfSome old (λ xs. SameWritten (λ _. ⊥) a b r s))
drafts_written mode root part faultless also_faultless None others file path old also a b r s same held p q = tt
drafts_written mode root part faultless also_faultless (Some text) others file path old also a b r s same held p q = λ low.
    same_written mode root part text low faultless also_faultless file path old also a b r s held p
    (subst (λ (k : Option (List ℕ)). IfSome k (λ x. DraftsKnown mode root part also_faultless x file path also b s)) (sym same) q)
