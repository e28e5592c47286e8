-- The parents of a subtree are the same bytes in the outboard encoding of every blob that has it.
use Rattle.std.proofs.Common.{◌≡◌, ◌∙◌, ℕ, zero, suc, ◌+◌, ◌-◌, ◌*◌, ◌/◌, ◌≤◌, List, [], ◌++◌, length, take, drop, refl, sym, ap, arith, inl, inr, length-drop}
use Rattle.std.proofs.lemmas.Bool.{cases_Bool, cases_lt}
use Rattle.std.proofs.lemmas.List.{length-take-le}
use Rattle.b3tree.specs.declared.mode.Mode.{Mode}
use Rattle.b3tree.specs.Tree.{left_len}
use Rattle.bao_text.specs.Choice.{chunk_count, of_outboard, wants}
use Rattle.bao_text.specs.Texts.{parent_text, subtree_text}
use Rattle.bao_text.proofs.Everything.{length-subtree_text, wants_all}
use Rattle.bao_text.proofs.SubtreeText.{Parts, left_len-Parts, subtree_text-leaf, subtree_text-parent, subtree_text-unwanted}

-- one chunk has none
no_parents : (total : ℕ) (mode : Mode) (first : ℕ) (s : List ℕ) → length s ≤ 1024 → subtree_text (of_outboard total) mode first s ≡ []
no_parents total mode first s one = elim (cases_Bool (wants (of_outboard total) (1024 * first) (length s))) [
  | inl wanted ↦ subtree_text-leaf (of_outboard total) mode first s wanted one
  | inr skipped ↦ subtree_text-unwanted (of_outboard total) mode first s skipped
]

same_to : (levels total other : ℕ) (mode : Mode) (first : ℕ) (s : List ℕ) → length s ≤ 1024 * levels + 1024 → 1024 * first + length s ≤ total → 1024 * first + length s ≤ other
    → subtree_text (of_outboard total) mode first s ≡ subtree_text (of_outboard other) mode first s
same_to zero total other mode first s levels fits also = no_parents total mode first s (omega arith) ∙ sym (no_parents other mode first s (omega arith))
same_to (suc levels) total other mode first s bound fits also = elim (cases_lt 1024 (length s)) [
  | inr one ↦ no_parents total mode first s one ∙ sym (no_parents other mode first s one)
  | inl more ↦
      let l : ℕ = left_len (length s) in
      let parts : Parts (length s) l = left_len-Parts (length s) more in
      let near_len : length (take l s) ≡ l = length-take-le l s (omega (arith, parts.below)) in
      let far_len : length (drop l s) ≡ length s - l = length-drop l s in
      let near = same_to levels total other mode first (take l s) (omega (arith, near_len, parts.whole, parts.below, bound)) (omega (arith, near_len, parts.below, fits)) (omega (arith, near_len, parts.below, also)) in
      let far = same_to levels total other mode (first + l / 1024) (drop l s) (omega (arith, far_len, parts.some, bound)) (omega (arith, far_len, parts.whole, parts.below, fits))
      (omega (arith, far_len, parts.whole, parts.below, also)) in
      subtree_text-parent (of_outboard total) mode first s (wants_all (of_outboard total) (1024 * first) (length s) refl (omega (arith, more, fits))) more
      ∙ (λ i. parent_text mode first s ++ (near i ++ far i))
      ∙ sym (subtree_text-parent (of_outboard other) mode first s (wants_all (of_outboard other) (1024 * first) (length s) refl (omega (arith, more, also))) more)
]

pub same_parents : (total other : ℕ) (mode : Mode) (first : ℕ) (s : List ℕ) → 1024 * first + length s ≤ total → 1024 * first + length s ≤ other
    → subtree_text (of_outboard total) mode first s ≡ subtree_text (of_outboard other) mode first s
same_parents total other mode first s = same_to (length s) total other mode first s (omega arith)

-- there is one fewer than there are chunks
pub length-parents : (total : ℕ) (mode : Mode) (first : ℕ) (s : List ℕ) → 1024 * first + length s ≤ total → length (subtree_text (of_outboard total) mode first s) ≡ 64 * (chunk_count (length s) - 1)
length-parents total mode first s fits = elim (cases_lt 1024 (length s)) [
  | inr one ↦ ap length (no_parents total mode first s one) ∙ omega (arith, one)
  | inl more ↦ length-subtree_text (length s) (of_outboard total) mode first s (omega arith) refl (omega (arith, more, fits)) (omega (arith, fits)) ∙ omega arith
]
