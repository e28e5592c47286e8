-- The inputs of a subtree are the recursive definition: the levels that `inputs_within` is given do not matter.
use Rattle.std.proofs.Common.{◌≡◌, ℕ, zero, suc, ◌+◌, ◌-◌, ◌*◌, ◌/◌, ◌<◌, ◌≤◌, List, ◌∷◌, ◌++◌, length, take, drop, false, true, refl, sym, ◌∙◌, arith, inl, inr, length-drop}
use Rattle.std.specs.Prelude.{Bool}
use Rattle.std.proofs.lemmas.Bool.{cases_lt, le-leb, lt-leb}
use Rattle.std.proofs.lemmas.List.{length-take-le}
use Rattle.b3word.specs.declared.input.Input.{Input}
use Rattle.b3tree.specs.declared.mode.Mode.{Mode}
use Rattle.b3tree.specs.Tree.{left_len, parent_input, subtree_cv}
use Rattle.bao_text.proofs.SubtreeText.{Parts, left_len-Parts}
use Rattle.bao_check.specs.Inputs.{blob_inputs, inputs_within, marked, whole_chunk}

-- the inputs of the tree over s, with as many levels as it needs
unfoldable pub subtree_inputs : Bool → Mode → ℕ → List ℕ → List Input
subtree_inputs top mode first s = inputs_within (length s / 1024) top mode first s

pub blob_inputs-subtree : (mode : Mode) (blob : List ℕ) → blob_inputs mode blob ≡ subtree_inputs true mode 0 blob
unfolding blob_inputs subtree_inputs
blob_inputs-subtree mode blob = refl

-- the parent over s
abbrev pub subtree_parent : Mode → ℕ → List ℕ → Input
subtree_parent mode first s =
    parent_input mode (subtree_cv mode first (take (left_len (length s)) s))
    (subtree_cv mode (first + left_len (length s) / 1024) (drop (left_len (length s)) s))

inputs_within-chunk : (levels : ℕ) (top : Bool) (mode : Mode) (first : ℕ) (s : List ℕ) → length s ≤ 1024
    → inputs_within levels top mode first s ≡ whole_chunk top mode first s
unfolding inputs_within
inputs_within-chunk zero top mode first s one = refl
inputs_within-chunk (suc levels) top mode first s one = rw (le-leb _ _ one) refl

inputs_within-parent : (levels : ℕ) (top : Bool) (mode : Mode) (first : ℕ) (s : List ℕ) → 1024 < length s
    → inputs_within (suc levels) top mode first s
    ≡ marked top (subtree_parent mode first s)
    ∷ (inputs_within levels false mode first (take (left_len (length s)) s)
    ++ inputs_within levels false mode (first + left_len (length s) / 1024) (drop (left_len (length s)) s))
unfolding inputs_within
inputs_within-parent levels top mode first s more = rw (lt-leb _ _ more) refl

-- enough levels are as good as more
inputs_within-levels : (f g : ℕ) (top : Bool) (mode : Mode) (first : ℕ) (s : List ℕ) → length s ≤ 1024 * f + 1024 → length s ≤ 1024 * g + 1024
    → inputs_within f top mode first s ≡ inputs_within g top mode first s
inputs_within-levels zero g top mode first s hf hg = grind (arith, inputs_within-chunk)
inputs_within-levels (suc f) zero top mode first s hf hg = grind (arith, inputs_within-chunk)
inputs_within-levels (suc f) (suc g) top mode first s hf hg = elim (cases_lt 1024 (length s)) [
  | inr one ↦ inputs_within-chunk (suc f) top mode first s one ∙ sym (inputs_within-chunk (suc g) top mode first s one)
  | inl more ↦
      let l : ℕ = left_len (length s) in
      let parts : Parts (length s) l = left_len-Parts (length s) more in
      let left_size : length (take l s) ≡ l = length-take-le l s (omega (arith, parts.below)) in
      let right_size : length (drop l s) ≡ length s - l = length-drop l s in
      let left : inputs_within f false mode first (take l s) ≡ inputs_within g false mode first (take l s) =
      inputs_within-levels f g false mode first (take l s) (omega (arith, parts.whole, parts.below)) (omega (arith, parts.whole, parts.below)) in
      let right : inputs_within f false mode (first + l / 1024) (drop l s) ≡ inputs_within g false mode (first + l / 1024) (drop l s) =
      inputs_within-levels f g false mode (first + l / 1024) (drop l s) (omega (arith, parts.some)) (omega (arith, parts.some)) in
      inputs_within-parent f top mode first s more
      ∙ (λ i. marked top (subtree_parent mode first s) ∷ (left i ++ right i))
      ∙ sym (inputs_within-parent g top mode first s more)
]

pub subtree_inputs-chunk : (top : Bool) (mode : Mode) (first : ℕ) (s : List ℕ) → length s ≤ 1024 → subtree_inputs top mode first s ≡ whole_chunk top mode first s
unfolding subtree_inputs
subtree_inputs-chunk top mode first s one = inputs_within-chunk (length s / 1024) top mode first s one

-- any number of levels that is enough
subtree_inputs-levels : (levels : ℕ) (top : Bool) (mode : Mode) (first : ℕ) (s : List ℕ) → length s ≤ 1024 * levels + 1024
    → inputs_within levels top mode first s ≡ subtree_inputs top mode first s
unfolding subtree_inputs
subtree_inputs-levels levels top mode first s h = inputs_within-levels levels (length s / 1024) top mode first s h (omega arith)

pub subtree_inputs-parent : (top : Bool) (mode : Mode) (first : ℕ) (s : List ℕ) → 1024 < length s
    → subtree_inputs top mode first s
    ≡ marked top (subtree_parent mode first s)
    ∷ (subtree_inputs false mode first (take (left_len (length s)) s)
    ++ subtree_inputs false mode (first + left_len (length s) / 1024) (drop (left_len (length s)) s))
subtree_inputs-parent top mode first s more =
    let l : ℕ = left_len (length s) in
    let n : ℕ = length s / 1024 in
    let parts : Parts (length s) l = left_len-Parts (length s) more in
    let left_size : length (take l s) ≡ l = length-take-le l s (omega (arith, parts.below)) in
    let right_size : length (drop l s) ≡ length s - l = length-drop l s in
    let left : inputs_within n false mode first (take l s) ≡ subtree_inputs false mode first (take l s) =
    subtree_inputs-levels n false mode first (take l s) (omega (arith, parts.below)) in
    let right : inputs_within n false mode (first + l / 1024) (drop l s) ≡ subtree_inputs false mode (first + l / 1024) (drop l s) =
    subtree_inputs-levels n false mode (first + l / 1024) (drop l s) (omega arith) in
    sym (subtree_inputs-levels (suc n) top mode first s (omega arith))
    ∙ inputs_within-parent n top mode first s more
    ∙ (λ i. marked top (subtree_parent mode first s) ∷ (left i ++ right i))
