-- Pieces that were checked from the same slices, and the first slice that is refused.
use Rattle.std.proofs.Common.{◌≡◌, ℕ, zero, suc, List, [], ◌∷◌, ◌++◌, Option, None, Some, slice_get, sym, ap, subst, ◌∙◌}
use Rattle.b3tree.specs.declared.mode.Mode.{Mode}
use Rattle.bao_check.specs.declared.checked.Checked.{Checked}
use Rattle.bao_check.specs.declared.fault.CheckFault.{CheckFault}
use Rattle.bao_check.specs.Accepted.{slice_nodes}
use Rattle.bao_check.specs.Faults.{IsFirstFault}
use Rattle.bao_check.proofs.Laws.{first_fault-not_accepted}
use Rattle.holders.specs.Pieces.{piece_of}
use Rattle.bao_script.specs.Slices.{ArePieces, IsPieceOf, IsRefusedSlice, Slice}
use Rattle.determined_texts.proofs.OneFault.{one_fault}

-- two pieces of one encoding, whichever chunk a store counts from
abbrev pub Alike : Checked → Checked → Type 0
Alike x y = (x.root.0 ≡ y.root.0) × (x.mode ≡ y.mode) × ((base : ℕ) → piece_of base x ≡ piece_of base y)

abbrev pub AlikeAt : Option Checked → Option Checked → Type 0
AlikeAt None None = Unit {0}
AlikeAt (Some x) (Some y) = Alike x y
AlikeAt None (Some y) = ⊥
AlikeAt (Some x) None = ⊥

abbrev pub AllAlike : List Checked → List Checked → Type 0
AllAlike xs ys = (i : ℕ) → AlikeAt (slice_get xs i) (slice_get ys i)

one_piece : (mode : Mode) (root : List ℕ) (slice : Slice) (x y : Checked) → IsPieceOf mode root slice x → IsPieceOf mode root slice y → Alike x y
one_piece mode root slice x y a b =
    let p = a.piece_is in
    let q = b.piece_is in (
      p.root_is ∙ sym q.root_is,
      p.mode_is ∙ sym q.mode_is,
      λ base i. record { base = base; start = (p.start_is ∙ sym q.start_is) i; len = (p.len_is ∙ sym q.len_is) i; text = (p.text_is ∙ sym q.text_is) i },
    )

more_alike : (x y : Checked) (xs ys : List Checked) → Alike x y → AllAlike xs ys → AllAlike (x ∷ xs) (y ∷ ys)
more_alike x y xs ys first rest zero = first
more_alike x y xs ys first rest (suc i) = rest i

pub all_alike : (mode : Mode) (root : List ℕ) (slices : List Slice) (xs ys : List Checked) → ArePieces mode root slices xs → ArePieces mode root slices ys → AllAlike xs ys
all_alike mode root [] xs ys a b = subst (λ (zs : List Checked). AllAlike zs ys) (sym a) (subst (λ (zs : List Checked). AllAlike [] zs) (sym b) (λ i. tt))
all_alike mode root (slice ∷ slices) xs ys a b =
    subst (λ (zs : List Checked). AllAlike zs ys) (sym a.2)
    (subst (λ (zs : List Checked). AllAlike (a.0 ∷ a.1) zs) (sym b.2)
    (more_alike a.0 b.0 a.1 b.1 (one_piece mode root slice a.0 b.0 a.3 b.3) (all_alike mode root slices a.1 b.1 a.4 b.4)))

-- an accepted slice has no fault
not_both : (mode : Mode) (root : List ℕ) (slice : Slice) (x : Checked) (f : CheckFault) → IsPieceOf mode root slice x
    → IsFirstFault mode root slice.text (slice_nodes slice.text slice.start slice.len) f → ⊥
not_both mode root slice x f a bad = first_fault-not_accepted mode root slice.text (slice_nodes slice.text slice.start slice.len) f bad a.accepted

refused_among : (mode : Mode) (root : List ℕ) (before after : List Slice) (slice : Slice) (f : CheckFault) (xs : List Checked) → ArePieces mode root (before ++ slice ∷ after) xs
    → IsFirstFault mode root slice.text (slice_nodes slice.text slice.start slice.len) f → ⊥
refused_among mode root [] after slice f xs a bad = not_both mode root slice a.0 f a.3 bad
refused_among mode root (b ∷ before) after slice f xs a bad = refused_among mode root before after slice f a.1 a.4 bad

pub refused_apart : (mode : Mode) (root : List ℕ) (slices : List Slice) (n : ℕ) (f : CheckFault) (xs : List Checked) → IsRefusedSlice mode root slices n f → ArePieces mode root slices xs → ⊥
refused_apart mode root slices n f xs a pieces =
    refused_among mode root a.before a.after a.slice f xs (subst (λ (s : List Slice). ArePieces mode root s xs) a.slices_are pieces) a.first

-- the first that is refused is one
first_one : (mode : Mode) (root : List ℕ) (before also after rest : List Slice) (s t : Slice) (e f : CheckFault) (xs ys : List Checked) → before ++ s ∷ after ≡ also ++ t ∷ rest
    → ArePieces mode root before xs → ArePieces mode root also ys → IsFirstFault mode root s.text (slice_nodes s.text s.start s.len) e
    → IsFirstFault mode root t.text (slice_nodes t.text t.start t.len) f → s ≡ t
first_one mode root [] [] after rest s t e f xs ys same a b bad worse = cc
first_one mode root [] (t' ∷ also) after rest s t e f xs ys same a b bad worse =
    let head : t' ≡ s = cc in absurd (not_both mode root s b.0 e (subst (λ (z : Slice). IsPieceOf mode root z b.0) head b.3) bad)
first_one mode root (s' ∷ before) [] after rest s t e f xs ys same a b bad worse =
    let head : s' ≡ t = cc in absurd (not_both mode root t a.0 f (subst (λ (z : Slice). IsPieceOf mode root z a.0) head a.3) worse)
first_one mode root (s' ∷ before) (t' ∷ also) after rest s t e f xs ys same a b bad worse =
    let tail : before ++ s ∷ after ≡ also ++ t ∷ rest = cc in first_one mode root before also after rest s t e f a.1 b.1 tail a.4 b.4 bad worse

pub one_refused : (mode : Mode) (root : List ℕ) (slices : List Slice) (m n : ℕ) (e f : CheckFault) → IsRefusedSlice mode root slices m e → IsRefusedSlice mode root slices n f → (m ≡ n) × (e ≡ f)
one_refused mode root slices m n e f a b =
    let same : a.slice ≡ b.slice = first_one mode root a.before b.before a.after b.after a.slice b.slice e f a.pieces b.pieces (sym a.slices_are ∙ b.slices_are) a.accepted b.accepted a.first b.first in (
      sym a.number_is ∙ ap (λ (s : Slice). s.number) same ∙ b.number_is,
      one_fault mode root b.slice.text (slice_nodes b.slice.text b.slice.start b.slice.len) e f
          (subst (λ (s : Slice). IsFirstFault mode root s.text (slice_nodes s.text s.start s.len) e) same a.first) b.first,
    )
