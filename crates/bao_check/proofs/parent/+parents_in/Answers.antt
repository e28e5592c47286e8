use Rattle.std.proofs.Common.{◌≡◌, ℕ, zero, suc, ◌+◌, ◌-◌, ◌*◌, ◌/◌, ◌%◌, ◌^◌, ◌<◌, ◌==◌, max, [], ◌∷◌, ◌++◌, false, Option, is_some, w64, bit_or, sym, ap, ◌∙◌, arith, inl, inr}
use Rattle.std.specs.Int.{bit_at}
use Rattle.std.proofs.lemmas.Bool.{cases_eq, cases_lt}
use Rattle.std.proofs.lemmas.Nat.Bits.{bit_at-lt, bit_at_or, bit_at_set_other, bit_at_set_same}
use Rattle.b3tree.specs.Tree.{left_len}
use Rattle.bao_text.specs.Nodes.{left, placed_nodes, right, subtree_nodes, subtree_size}
use Rattle.bao_text.proofs.SubtreeText.{Parts, left_len-Parts}
use Rattle.bao_check.specs.Parents.{parent_place}
use Rattle.bao_check.proofs.Descents.{parent_outside}
use Rattle.bao_check.proofs.Lists.{nodes_size}
use Rattle.bao_check.proofs.Parenting.{parent_place-here}
use Rattle.bao_check.proofs.Presence.{near, parent_far, parent_near}
use Rattle.bao_check.proofs.parent.+parents_in.Goals as goal

-- of two bits the one, where the other is 0
first_bit : (a b : ℕ) → b < 2 → (b == 1) ≡ false → max a b ≡ a
first_bit a zero small none = omega arith
first_bit a (suc zero) small none = cc
first_bit a (suc (suc b)) small none = absurd (omega (arith, small))

second_bit : (a b : ℕ) → a < 2 → (a == 1) ≡ false → max a b ≡ b
second_bit zero b small none = omega arith
second_bit (suc zero) b small none = cc
second_bit (suc (suc a)) b small none = absurd (omega (arith, small))

pub returns : goal.returns
returns t c = λ sides from at i few.
    let n : ℕ = c.args.n in
    let number : ℕ = c.args.number in
    let m : ℕ = 64 * c.args.group + i in
    let l : ℕ = c.left_len-left_len.result in
    let more : 1024 < n = omega (arith, c.if-n.false) in
    let parted : l ≡ left_len n = c.left_len-left_len.ensures.value in
    let parts : Parts n (left_len n) = left_len-Parts n more in
    let middle : ℕ = number + l / 1024 in
    let group : middle / 64 ≡ c.args.group = omega (arith, c.if-middle-group.false, c.if-middle-group-2.false) in
    let both : ℕ = bit_or c.parents_in-left.result c.parents_in-right.result in
    let from_far : ℕ = from + 64 + subtree_size (left_len n) in
    let at_far : ℕ = at + 64 + nodes_size (near c.args.choice.now number n sides from at more) in
    elim (cases_eq i (middle % 64)) [
      | inl own ↦
          let here : number + left_len n / 1024 ≡ m = omega (arith, own, group, parted) in
          (λ j. bit_at (bit_or both (1 * 2 ^ (middle % 64) % 2 ^ 64)) (own j) == 1)
          ∙ ap (λ (b : ℕ). b == 1) (bit_at_set_same w64 both (middle % 64) (omega arith))
          ∙ ap (λ (o : Option ℕ). is_some o) (sym (parent_place-here c.args.choice.now number n sides from at m (sym c.wants.ensures ∙ c.if-not-wants.false) more here))
      | inr other ↦
          ap (λ (b : ℕ). b == 1) (bit_at_set_other w64 both (middle % 64) (omega arith) i other ∙ bit_at_or c.parents_in-left.result c.parents_in-right.result i)
          ∙ elim (cases_lt m middle) [
            | inl before ↦
                let none : (bit_at c.parents_in-right.result i == 1) ≡ false = c.parents_in-right.ensures [] 0 0 i few
                ∙ ap (λ (o : Option ℕ). is_some o) (parent_outside c.args.choice.now middle (n - l) [] 0 0 m (λ h. omega (arith, h.0, before))) in
                ap (λ (b : ℕ). b == 1) (first_bit (bit_at c.parents_in-left.result i) (bit_at c.parents_in-right.result i) (bit_at-lt c.parents_in-right.result i) none)
                ∙ c.parents_in-left.ensures (sides ++ left ∷ []) (from + 64) (at + 64) i few
                ∙ (λ j. is_some (parent_place (placed_nodes (at + 64) (subtree_nodes c.args.choice.now number (parted j) (sides ++ left ∷ []) (from + 64))) m))
                ∙ ap (λ (o : Option ℕ). is_some o) (sym (parent_near c.args.choice.now number n sides from at more m (omega (arith, parted, before))))
            | inr after ↦
                let none : (bit_at c.parents_in-left.result i == 1) ≡ false = c.parents_in-left.ensures [] 0 0 i few
                ∙ ap (λ (o : Option ℕ). is_some o) (parent_outside c.args.choice.now number l [] 0 0 m (λ h. omega (arith, h.1, after, parted, parts.whole, parts.some))) in
                ap (λ (b : ℕ). b == 1) (second_bit (bit_at c.parents_in-left.result i) (bit_at c.parents_in-right.result i) (bit_at-lt c.parents_in-left.result i) none)
                ∙ c.parents_in-right.ensures (sides ++ right ∷ []) from_far at_far i few
                ∙ (λ j. is_some (parent_place (placed_nodes at_far (subtree_nodes c.args.choice.now (number + parted j / 1024) (n - parted j) (sides ++ right ∷ []) from_far)) m))
                ∙ ap (λ (o : Option ℕ). is_some o) (sym (parent_far c.args.choice.now number n sides from at more m (omega (arith, parted, after, other, group))))
          ]
    ]

pub returns-then-middle-group : goal.returns-then-middle-group
returns-then-middle-group t c = grind (arith, parent_far)
