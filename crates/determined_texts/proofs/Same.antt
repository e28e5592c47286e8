-- What is read off two pieces that are the same is the same.
use Rattle.std.proofs.Common.{◌≡◌, ◌↔◌, true, ℕ, ◌+◌, ◌-◌, ◌*◌, ◌≤◌, List, Option, None, Some, IsSome, IfSome, Bool, IsTrue, Result, IsOk, IfOk, IfErr, refl, sym, ap, subst}
use Rattle.std.specs.Prelude.{is_some}
use Rattle.b3tree.specs.declared.mode.Mode.{Mode}
use Rattle.b3tree.specs.declared.values.Cv.{Cv}
use Rattle.bao_text.specs.Choice.{chunk_count}
use Rattle.bao_text.specs.Cut.{claimed}
use Rattle.bao_check.specs.declared.checked.Checked.{Checked}
use Rattle.bao_check.specs.declared.fault.CheckFault.{CheckFault}
use Rattle.bao_check.specs.declared.outline.Outline.{Outline}
use Rattle.bao_check.specs.declared.tail.Tail.{Tail}
use Rattle.bao_check.specs.Accepted.{places_of, slice_nodes}
use Rattle.bao_check.specs.Bare.{AreBare, AreChunksOf, IsBareFault, bare_part}
use Rattle.bao_check.specs.Beside.{beside_text}
use Rattle.bao_check.specs.Checked.{HoldsLast, IsPiece, piece_nodes, piece_places, piece_text}
use Rattle.bao_check.specs.Outline.{outline_mode, outline_root, outline_text}
use Rattle.bao_check.specs.Parents.{parent_in}
use Rattle.bao_check.specs.Pieces.{chunk_in}
use Rattle.bao_check.specs.Tail.{tail_piece}
use Rattle.determined_texts.specs.Agreeing.{Agree}
use Rattle.determined_texts.specs.Texts.{SameOutline, SamePiece}
use Rattle.determined_texts.proofs.Fed.{one_flag}
use Rattle.determined_texts.proofs.OneFault.{checks_agree, one_bare_fault, same_piece}
use Rattle.determined_texts.proofs.Values.{same_cv}

module _ (a b : Checked) (same : SamePiece a b) where
  pub same_nodes : piece_nodes a ≡ piece_nodes b
  same_nodes = λ i. slice_nodes (same.text_is i) (same.start_is i) (same.len_is i)

  same_places : piece_places a ≡ piece_places b
  same_places = ap places_of same_nodes

  pub same_chunk : (number : ℕ) → chunk_in (piece_text a) (piece_places a) number ≡ chunk_in (piece_text b) (piece_places b) number
  same_chunk number = λ i. chunk_in (same.text_is i) (same_places i) number

  pub same_parent : (m : ℕ) → parent_in (piece_text a) (piece_places a) m ≡ parent_in (piece_text b) (piece_places b) m
  same_parent m = λ i. parent_in (same.text_is i) (same_places i) m

  pub same_last : HoldsLast a ≡ HoldsLast b
  same_last = λ i. is_some (chunk_in (same.text_is i) (same_places i) (chunk_count (claimed (same.text_is i)) - 1)) ≡ true

-- the tails of two such pieces
pub same_tails : (a b : Checked) (r s : Option Tail) → SamePiece a b → IfSome r (λ tail. tail_piece tail ≡ a) → IfSome s (λ tail. tail_piece tail ≡ b)
    → IfSome r (λ x. IfSome s (λ y. SamePiece (tail_piece x) (tail_piece y)))
same_tails a b None s same p q = tt
same_tails a b (Some x) None same p q = tt
same_tails a b (Some x) (Some y) same p q = subst (λ (c : Checked). SamePiece c (tail_piece y)) (sym p) (subst (λ (c : Checked). SamePiece a c) (sym q) same)

-- two that have one condition
pub both_there : {X Y : Type 0} (r : Option X) (s : Option Y) (P Q : Type 0) → P ≡ Q → (IsSome r ↔ P) → (IsSome s ↔ Q) → IsSome r ↔ IsSome s
both_there r s P Q same p q = (λ e. q.1 (subst (λ (T : Type 0). T) same (p.0 e)), λ e. p.1 (subst (λ (T : Type 0). T) (sym same) (q.0 e)))

-- a value of chunk i in one encoding
pub same_leaves : (There : List ℕ → Type 0) (Is : List ℕ → List ℕ → Type 0) (s t : List ℕ) (r q : Option Cv) → s ≡ t → (IsSome r ↔ There s) → (IsSome q ↔ There t)
    → IfSome r (λ v. Is s v.0) → IfSome q (λ v. (w : List ℕ) → Is t w → w ≡ v.0) → r ≡ q
same_leaves There Is s t None None e a b p o = refl
same_leaves There Is s t None (Some v) e a b p o = let no = a.1 (subst There (sym e) (b.0 refl)) in cc
same_leaves There Is s t (Some v) None e a b p o = let no = b.1 (subst There e (a.0 refl)) in cc
same_leaves There Is s t (Some v) (Some w) e a b p o = ap (λ x. Some x) (same_cv v w (o v.0 (subst (λ (u : List ℕ). Is u v.0) e p)))

-- the chunks of one outline are those of another that is the same
abbrev Fits : ℕ → ℕ → List ℕ → Type 0
Fits first count text = (1 ≤ count) × (first + count ≤ chunk_count (claimed text))

pub same_chunks : (a b : Outline) (first count : ℕ) → SameOutline a b → AreChunksOf a first count → AreChunksOf b first count
same_chunks a b first count same h = subst (Fits first count) same.text_is h

pub same_fits : (a b : Outline) (first count : ℕ) → SameOutline a b → (x y : Bool) → (IsTrue x ↔ AreChunksOf a first count) → (IsTrue y ↔ AreChunksOf b first count) → x ≡ y
same_fits a b first count same x y p q =
    one_flag x y (AreChunksOf a first count) p (subst (λ (text : List ℕ). IsTrue y ↔ Fits first count text) (sym same.text_is) q)

-- an outline as its mode, its root and its encoding
abbrev Parts : Type 0
Parts = Mode × List ℕ × List ℕ

abbrev parts_of : Outline → Parts
parts_of outline = (outline_mode outline, outline_root outline, outline_text outline)

same_parts : (a b : Outline) → SameOutline a b → parts_of a ≡ parts_of b
same_parts a b same = λ i. (same.mode_is i, same.root_is i, same.text_is i)

-- what two checks of one range of chunks beside them answer
pub bares_agree : (a b : Outline) (first count : ℕ) (chunks : List ℕ) → SameOutline a b → (r s : Result Checked CheckFault)
    → (IsOk r ↔ AreBare (outline_mode a) (outline_root a) (outline_text a) first count chunks)
    → (IsOk s ↔ AreBare (outline_mode b) (outline_root b) (outline_text b) first count chunks)
    → IfOk r (λ x. IsPiece x (outline_mode a) (outline_root a) (1024 * first) (bare_part count) (beside_text (outline_text a) (1024 * first) (bare_part count) chunks))
    → IfOk s (λ x. IsPiece x (outline_mode b) (outline_root b) (1024 * first) (bare_part count) (beside_text (outline_text b) (1024 * first) (bare_part count) chunks))
    → IfErr r (IsBareFault (outline_mode a) (outline_root a) (outline_text a) first count chunks)
    → IfErr s (IsBareFault (outline_mode b) (outline_root b) (outline_text b) first count chunks) → Agree SamePiece r s
bares_agree a b first count chunks same r s p q x y e f =
    let parts = sym (same_parts a b same) in
    let text : List ℕ = beside_text (outline_text a) (1024 * first) (bare_part count) chunks in
    checks_agree (λ x. IsPiece x (outline_mode a) (outline_root a) (1024 * first) (bare_part count) text) SamePiece
    (AreBare (outline_mode a) (outline_root a) (outline_text a) first count chunks)
    (IsBareFault (outline_mode a) (outline_root a) (outline_text a) first count chunks)
    (same_piece (outline_mode a) (outline_root a) (1024 * first) (bare_part count) text)
    (one_bare_fault (outline_mode a) (outline_root a) (outline_text a) first count chunks) r s
    p (subst (λ (t : Parts). IsOk s ↔ AreBare t.0 t.1 t.2 first count chunks) parts q)
    x (subst (λ (t : Parts). IfOk s (λ x. IsPiece x t.0 t.1 (1024 * first) (bare_part count) (beside_text t.2 (1024 * first) (bare_part count) chunks))) parts y)
    e (subst (λ (t : Parts). IfErr s (IsBareFault t.0 t.1 t.2 first count chunks)) parts f)
