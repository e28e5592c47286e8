-- The first piece that isn't of a blob: there is one at most, and one of each kind alone.
use Rattle.std.proofs.Common.{◌≡◌, ◌≤◌, ◌<◌, ℕ, zero, suc, ◌∙◌, List, [], ◌∷◌, Bool, true, false, true≢false, All, length, slice_index_or, refl, sym, subst, arith, inl, inr}
use Rattle.std.proofs.lemmas.Bool.{cases_lt}
use Rattle.std.proofs.lemmas.Slice.Eq.{bytes_eq-Decides}
use Rattle.std.specs.Bool.{Decides}
use Rattle.b3tree.specs.Hashing.{hash}
use Rattle.bao_check.specs.declared.checked.Checked.{Checked}
use Rattle.bao_check.specs.Checked.{piece_mode, piece_root}
use Rattle.bao_bind.specs.Verdict.{HasRootOfPiece, IsFirst, IsForged, IsOfBlob, IsOfOther}

stable : (b : Bool) (P : Type 0) → Decides b P → ¬ (¬ P) → P
stable true P decides h = decides.0 refl
stable false P decides h = absurd (h (λ p. true≢false (sym (decides.1 p))))

-- a root that isn't another one is the blob's
pub has_root : (blob : List ℕ) (piece : Checked) → ¬ IsOfOther blob piece → HasRootOfPiece blob piece
has_root blob piece = stable _ _ (bytes_eq-Decides (hash (piece_mode piece) blob) (piece_root piece))

pub not_forged : (blob : List ℕ) (piece : Checked) → IsForged blob piece → ¬ IsOfBlob blob piece
not_forged blob piece forged is = forged.1 is.1

pub not_other : (blob : List ℕ) (piece : Checked) → IsOfOther blob piece → ¬ IsOfBlob blob piece
not_other blob piece other is = other is.0

-- some piece, where there is one
some_piece : (pieces : List Checked) (i : ℕ) → i < length pieces → Checked
some_piece [] i below = absurd (omega arith)
some_piece (x ∷ xs) i below = x

-- pieces of the blob come before the first that isn't
pub up_to_first : (P : Checked → Type 0) (blob : List ℕ) (pieces : List Checked) (i n : ℕ) → ((x : Checked) → P x → ¬ IsOfBlob blob x)
    → IsFirst P blob pieces i → ((k : ℕ) (d : Checked) → k < n → IsOfBlob blob (slice_index_or pieces k d)) → n ≤ i
up_to_first P blob pieces i n apart first before = elim (cases_lt i n) [
  | inl less ↦ let d : Checked = some_piece pieces i first.0 in absurd (apart (slice_index_or pieces i d) (first.2 d) (before i d less))
  | inr at_least ↦ at_least
]

pub one_first : (P Q : Checked → Type 0) (blob : List ℕ) (pieces : List Checked) (i j : ℕ) → ((x : Checked) → P x → ¬ IsOfBlob blob x)
    → ((x : Checked) → Q x → ¬ IsOfBlob blob x) → IsFirst P blob pieces i → IsFirst Q blob pieces j → i ≡ j
one_first P Q blob pieces i j apart other first last =
    omega (arith, up_to_first P blob pieces i j apart first last.1, up_to_first Q blob pieces j i other last first.1)

-- it isn't forged and of another root
pub not_both : (blob : List ℕ) (pieces : List Checked) (i j : ℕ) → IsFirst (IsForged blob) blob pieces i → IsFirst (IsOfOther blob) blob pieces j → ⊥
not_both blob pieces i j forged other =
    let d : Checked = some_piece pieces i forged.0 in
    let same : i ≡ j = one_first (IsForged blob) (IsOfOther blob) blob pieces i j (not_forged blob) (not_other blob) forged other in
    other.2 d (subst (λ (k : ℕ). HasRootOfPiece blob (slice_index_or pieces k d)) same (forged.2 d).0)

-- where all are of the blob there is none
pub none_first : (P : Checked → Type 0) (blob : List ℕ) (pieces : List Checked) (i : ℕ) → ((x : Checked) → P x → ¬ IsOfBlob blob x)
    → IsFirst P blob pieces i → All (IsOfBlob blob) pieces → ⊥
none_first P blob pieces i apart first all = absurd (omega (arith, first.0, up_to_first P blob pieces i (length pieces) apart first all))

any_default : (pieces : List Checked) (i : ℕ) (d e : Checked) → i < length pieces → slice_index_or pieces i d ≡ slice_index_or pieces i e
any_default [] i d e below = absurd (omega arith)
any_default (x ∷ xs) zero d e below = refl
any_default (x ∷ xs) (suc i) d e below = any_default xs i d e (omega arith)

-- what is so of the piece at a place is so of it whatever stands in for a piece that isn't there
pub at_place : (P : Checked → Type 0) (pieces : List Checked) (i : ℕ) (piece : Checked) → i < length pieces → piece ≡ slice_index_or pieces i piece → P piece
    → (d : Checked) → P (slice_index_or pieces i d)
at_place P pieces i piece below is h d = subst P (is ∙ any_default pieces i piece d below) h
