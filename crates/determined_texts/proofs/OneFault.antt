-- An encoding has one first fault.
use Rattle.std.proofs.Common.{◌≡◌, ◌↔◌, inl, inr, ℕ, ◌+◌, ◌≤◌, List, [], ◌∷◌, ◌++◌, length, Result, Ok, Err, IsOk, IfOk, IfErr, refl, sym, ap, subst, ◌∙◌, arith}
use Rattle.std.specs.List.{AllByRecursion}
use Rattle.std.proofs.lemmas.Bool.{cases_lt}
use Rattle.b3tree.specs.declared.mode.Mode.{Mode}
use Rattle.bao_text.specs.Nodes.{TreeNode}
use Rattle.bao_text.specs.Cut.{claimed}
use Rattle.bao_check.specs.declared.checked.Checked.{Checked}
use Rattle.bao_check.specs.declared.outline.Outline.{Outline}
use Rattle.bao_check.specs.declared.fault.CheckFault.{CheckFault}
use Rattle.bao_check.specs.declared.fault.CheckFault.TheVariants.{Short, Mismatch, Trailing, Memory, Reader}
use Rattle.bao_check.specs.Accepted.{IsAccepted, IsGoodNode, end_of, places_of, slice_nodes}
use Rattle.bao_check.specs.Bare.{AreGoodBare, IsBareFault, IsGoodBare, bare_at, chunk_len}
use Rattle.bao_check.specs.Checked.{IsPiece}
use Rattle.bao_check.specs.Faults.{IsFirstBad, IsFirstFault}
use Rattle.bao_check.specs.Outline.{IsOutline}
use Rattle.bao_check.proofs.Lists.{All-second}
use Rattle.determined_texts.specs.Agreeing.{Agree}
use Rattle.determined_texts.specs.Texts.{SameOutline, SamePiece}

-- the first of a list that fails is one
pub one_first : {X : Type 0} (P : X → Type 0) (before also : List X) (x y : X) (after rest : List X) → before ++ x ∷ after ≡ also ++ y ∷ rest
    → AllByRecursion P before → AllByRecursion P also → ¬ P x → ¬ P y → x ≡ y
one_first P [] [] x y after rest e good fine bad worse = cc
one_first P [] (b ∷ also) x y after rest e good fine bad worse =
    let head : x ≡ b = cc in absurd (bad (subst P (sym head) fine.0))
one_first P (a ∷ before) [] x y after rest e good fine bad worse =
    let head : a ≡ y = cc in absurd (worse (subst P head good.0))
one_first P (a ∷ before) (b ∷ also) x y after rest e good fine bad worse =
    let tail : before ++ x ∷ after ≡ also ++ y ∷ rest = cc in one_first P before also x y after rest tail good.1 fine.1 bad worse

one_bad : (mode : Mode) (root text : List ℕ) (places : List (ℕ × TreeNode)) (p q : ℕ × TreeNode) → IsFirstBad mode root text places p → IsFirstBad mode root text places q → p ≡ q
one_bad mode root text places p q a b =
    one_first (IsGoodNode mode root text places) a.earlier b.earlier p q a.later b.later (sym a.split ∙ b.split) a.good b.good a.bad b.bad

not_all : (mode : Mode) (root text : List ℕ) (places : List (ℕ × TreeNode)) (p : ℕ × TreeNode) → IsFirstBad mode root text places p
    → AllByRecursion (IsGoodNode mode root text places) places → ⊥
not_all mode root text places p a good =
    let P : ℕ × TreeNode → Type 0 = IsGoodNode mode root text places in
    a.bad (All-second P a.earlier (p ∷ a.later) (subst (AllByRecursion P) a.split good)).0

pub one_fault : (mode : Mode) (root text : List ℕ) (nodes : List TreeNode) (e f : CheckFault) → IsFirstFault mode root text nodes e → IsFirstFault mode root text nodes f → e ≡ f
one_fault mode root text nodes Memory f a b = absurd a
one_fault mode root text nodes Reader f a b = absurd a
one_fault mode root text nodes e Memory a b = absurd b
one_fault mode root text nodes e Reader a b = absurd b
one_fault mode root text nodes (Short i) (Short j) (inl a) (inl b) = ap (λ k. Short k) (a.1 ∙ sym b.1)
one_fault mode root text nodes (Short i) (Short j) (inl a) (inr b) = absurd (omega (arith, a.0, b.0))
one_fault mode root text nodes (Short i) (Short j) (inr a) (inl b) = absurd (omega (arith, a.0, b.0))
one_fault mode root text nodes (Short i) (Short j) (inr a) (inr b) =
    let same = one_bad mode root text (places_of nodes) a.1.0 b.1.0 a.1.1 b.1.1 in ap (λ k. Short k) (a.1.2 ∙ ap (λ (p : ℕ × TreeNode). p.0) same ∙ sym b.1.2)
one_fault mode root text nodes (Short i) (Mismatch j) (inl a) b = absurd (omega (arith, a.0, b.0))
one_fault mode root text nodes (Short i) (Mismatch j) (inr a) b =
    let same = one_bad mode root text (places_of nodes) a.1.0 b.1.0 a.1.1 b.1.1 in
    let end : end_of a.1.0 ≡ end_of b.1.0 = ap end_of same in absurd (omega (arith, end, a.1.3, b.1.3))
one_fault mode root text nodes (Short i) (Trailing j) (inl a) b = absurd (omega (arith, a.0, b.0))
one_fault mode root text nodes (Short i) (Trailing j) (inr a) b = absurd (not_all mode root text (places_of nodes) a.1.0 a.1.1 b.1)
one_fault mode root text nodes (Mismatch i) (Short j) a (inl b) = absurd (omega (arith, b.0, a.0))
one_fault mode root text nodes (Mismatch i) (Short j) a (inr b) =
    let same = one_bad mode root text (places_of nodes) a.1.0 b.1.0 a.1.1 b.1.1 in
    let end : end_of a.1.0 ≡ end_of b.1.0 = ap end_of same in absurd (omega (arith, end, a.1.3, b.1.3))
one_fault mode root text nodes (Mismatch i) (Mismatch j) a b =
    let same = one_bad mode root text (places_of nodes) a.1.0 b.1.0 a.1.1 b.1.1 in ap (λ k. Mismatch k) (a.1.2 ∙ ap (λ (p : ℕ × TreeNode). p.0) same ∙ sym b.1.2)
one_fault mode root text nodes (Mismatch i) (Trailing j) a b = absurd (not_all mode root text (places_of nodes) a.1.0 a.1.1 b.1)
one_fault mode root text nodes (Trailing i) (Short j) a (inl b) = absurd (omega (arith, b.0, a.0))
one_fault mode root text nodes (Trailing i) (Short j) a (inr b) = absurd (not_all mode root text (places_of nodes) b.1.0 b.1.1 a.1)
one_fault mode root text nodes (Trailing i) (Mismatch j) a b = absurd (not_all mode root text (places_of nodes) b.1.0 b.1.1 a.1)
one_fault mode root text nodes (Trailing i) (Trailing j) a b = ap (λ k. Trailing k) (a.2 ∙ sym b.2)

-- what two checks answer that are told apart by this
pub checks_agree : {X : Type 0} (Is : X → Type 0) (Same : X → X → Type 0) (P : Type 0) (F : CheckFault → Type 0) → ((x y : X) → Is x → Is y → Same x y)
    → ((e f : CheckFault) → F e → F f → e ≡ f) → (r s : Result X CheckFault) → (IsOk r ↔ P) → (IsOk s ↔ P) → IfOk r Is → IfOk s Is → IfErr r F → IfErr s F → Agree Same r s
checks_agree Is Same P F one single (Ok x) (Ok y) p q a b e f = one x y a b
checks_agree Is Same P F one single (Ok x) (Err h) p q a b e f = let no = q.1 (p.0 refl) in cc
checks_agree Is Same P F one single (Err g) (Ok y) p q a b e f = let no = p.1 (q.0 refl) in cc
checks_agree Is Same P F one single (Err g) (Err h) p q a b e f = single g h e f

pub same_piece : (mode : Mode) (root : List ℕ) (start len : ℕ) (text : List ℕ) (x y : Checked) → IsPiece x mode root start len text → IsPiece y mode root start len text → SamePiece x y
same_piece mode root start len text x y a b = record {
  mode_is = a.mode_is ∙ sym b.mode_is;
  root_is = a.root_is ∙ sym b.root_is;
  start_is = a.start_is ∙ sym b.start_is;
  len_is = a.len_is ∙ sym b.len_is;
  text_is = a.text_is ∙ sym b.text_is;
}

pub same_outline : (mode : Mode) (root text : List ℕ) (x y : Outline) → IsOutline x mode root text → IsOutline y mode root text → SameOutline x y
same_outline mode root text x y a b = record { mode_is = a.mode_is ∙ sym b.mode_is; root_is = a.root_is ∙ sym b.root_is; text_is = a.text_is ∙ sym b.text_is }

-- Of chunks beside an outline the first that isn't good is one.
one_chunk : (mode : Mode) (root outline : List ℕ) (first : ℕ) (chunks : List ℕ) (j k : ℕ) → first ≤ j → first ≤ k → AreGoodBare mode root outline first chunks j → AreGoodBare mode root outline first chunks k
    → ¬ IsGoodBare mode root outline first chunks j → ¬ IsGoodBare mode root outline first chunks k → j ≡ k
one_chunk mode root outline first chunks j k low also good fine bad worse = elim (cases_lt j k) [
  | inl less ↦ absurd (bad (fine j low less))
  | inr more ↦ elim (cases_lt k j) [
    | inl less ↦ absurd (worse (good k also less))
    | inr even ↦ omega (arith, more, even)
  ]
]

-- the place of a bare fault, and that its chunk isn't good, where it is of a chunk
pub one_bare_fault : (mode : Mode) (root outline : List ℕ) (first count : ℕ) (chunks : List ℕ) (e f : CheckFault) → IsBareFault mode root outline first count chunks e
    → IsBareFault mode root outline first count chunks f → e ≡ f
one_bare_fault mode root outline first count chunks Memory f a b = absurd a
one_bare_fault mode root outline first count chunks Reader f a b = absurd a
one_bare_fault mode root outline first count chunks e Memory a b = absurd b
one_bare_fault mode root outline first count chunks e Reader a b = absurd b
one_bare_fault mode root outline first count chunks (Short i) (Short j) a b =
    let same = one_chunk mode root outline first chunks a.0 b.0 a.1 b.1 a.4 b.4 (λ g. a.5 g.0) (λ g. b.5 g.0) in ap (λ k. Short k) (a.3 ∙ ap (bare_at first) same ∙ sym b.3)
one_bare_fault mode root outline first count chunks (Short i) (Mismatch j) a b =
    let same = one_chunk mode root outline first chunks a.0 b.0 a.1 b.1 a.4 b.4 (λ g. a.5 g.0) (λ g. b.6 g.1) in
    absurd (a.5 (subst (λ k. bare_at first k + chunk_len (claimed outline) k ≤ length chunks) (sym same) b.5))
one_bare_fault mode root outline first count chunks (Short i) (Trailing j) a b = absurd (a.5 (b.0 a.0 a.1 a.2).0)
one_bare_fault mode root outline first count chunks (Mismatch i) (Short j) a b =
    let same = one_chunk mode root outline first chunks a.0 b.0 a.1 b.1 a.4 b.4 (λ g. a.6 g.1) (λ g. b.5 g.0) in
    absurd (b.5 (subst (λ k. bare_at first k + chunk_len (claimed outline) k ≤ length chunks) same a.5))
one_bare_fault mode root outline first count chunks (Mismatch i) (Mismatch j) a b =
    let same = one_chunk mode root outline first chunks a.0 b.0 a.1 b.1 a.4 b.4 (λ g. a.6 g.1) (λ g. b.6 g.1) in ap (λ k. Mismatch k) (a.3 ∙ ap (bare_at first) same ∙ sym b.3)
one_bare_fault mode root outline first count chunks (Mismatch i) (Trailing j) a b = absurd (a.6 (b.0 a.0 a.1 a.2).1)
one_bare_fault mode root outline first count chunks (Trailing i) (Short j) a b = absurd (b.5 (a.0 b.0 b.1 b.2).0)
one_bare_fault mode root outline first count chunks (Trailing i) (Mismatch j) a b = absurd (b.6 (a.0 b.0 b.1 b.2).1)
one_bare_fault mode root outline first count chunks (Trailing i) (Trailing j) a b = ap (λ k. Trailing k) (a.1 ∙ sym b.1)

-- what two checks of one encoding as one slice answer
pub slices_agree : (mode : Mode) (root : List ℕ) (start len : ℕ) (text : List ℕ) (r s : Result Checked CheckFault) → (IsOk r ↔ IsAccepted mode root text (slice_nodes text start len))
    → (IsOk s ↔ IsAccepted mode root text (slice_nodes text start len)) → IfOk r (λ x. IsPiece x mode root start len text) → IfOk s (λ x. IsPiece x mode root start len text)
    → IfErr r (IsFirstFault mode root text (slice_nodes text start len)) → IfErr s (IsFirstFault mode root text (slice_nodes text start len)) → Agree SamePiece r s
slices_agree mode root start len text r s p q a b e f =
    checks_agree (λ x. IsPiece x mode root start len text) SamePiece (IsAccepted mode root text (slice_nodes text start len)) (IsFirstFault mode root text (slice_nodes text start len))
    (same_piece mode root start len text) (one_fault mode root text (slice_nodes text start len)) r s p q a b e f
