-- Where a tree's chunks and parents stand in an encoding, as going down to them finds them.
use Rattle.std.proofs.Common.{◌≡◌, ℕ, zero, suc, ◌+◌, ◌-◌, ◌*◌, ◌/◌, ◌^◌, ◌<◌, ◌≤◌, List, [], ◌∷◌, ◌++◌, Bool, true, false, ◌&&◌, if◌then◌else◌, Option, None, Some, is_some, refl, sym, ap, ◌∙◌, arith, inl, inr, pow_pos, bit_and}
use Rattle.std.specs.Bool.{then_some}
use Rattle.std.specs.Int.Bits.{and_self}
use Rattle.std.specs.Int.Count.{ones}
use Rattle.std.proofs.lemmas.Bool.{and_parts, cases_Bool, cases_lt}
use Rattle.std.proofs.lemmas.Nat.{and_block, and_mask, mod_low, ones_cat}
use Rattle.std.proofs.Math.Pow.{pow_mono}
use Rattle.b3tree.specs.Tree.{left_len}
use Rattle.bao_text.specs.declared.choice.Choice.{Choice}
use Rattle.bao_text.specs.Choice.{chunk_count, wants}
use Rattle.bao_text.specs.Nodes.{Side, TreeNode, left, placed_nodes, right, subtree_nodes, subtree_size}
use Rattle.bao_text.proofs.Everything.{chunk_part}
use Rattle.bao_check.specs.Parents.{parent_place}
use Rattle.bao_check.specs.Spans.{chunk_place}
use Rattle.bao_text.proofs.Halves.{by_halves}
use Rattle.bao_check.proofs.Lists.{nodes_size}
use Rattle.bao_check.proofs.Locating.{and_false, chunk_place-leaf, chunk_place-unwanted, chunk_place-without, count_parts, left_whole}
use Rattle.bao_check.proofs.Parenting.{outside_lacks, parent_place-here, parent_place-none, parent_place-unwanted}
use Rattle.bao_check.proofs.Presence.{Meets, Meets-from_wants, chunk_far, chunk_near, far, near, parent_far, parent_near, wants-from_Meets}
use Rattle.bao_check.proofs.Sizes.{nodes_size-whole}
use Rattle.bao_text.proofs.EightChunks.{left_len-double}

-- what is found alike where something is wanted
found : {X : Type 0} (wanted : Bool) (x y : X) → (wanted ≡ true → x ≡ y) → then_some wanted x ≡ then_some wanted y
found true x y same = ap Some (same refl)
found false x y same = refl

-- the subtree's own parent
pub parent_here : (choice : Choice) (number n : ℕ) (sides : List Side) (source at m : ℕ) → 1024 < n → number + left_len n / 1024 ≡ m
    → parent_place (placed_nodes at (subtree_nodes choice number n sides source)) m ≡ then_some (wants choice (1024 * number) n) at
parent_here choice number n sides source at m more same = grind (arith, cases_Bool, parent_place-here, parent_place-unwanted)

-- a subtree that has no such boundary
pub parent_outside : (choice : Choice) (number n : ℕ) (sides : List Side) (source at m : ℕ) → ((number < m) × (m < number + chunk_count n) → ⊥)
    → parent_place (placed_nodes at (subtree_nodes choice number n sides source)) m ≡ None
parent_outside choice number n sides source at m outside = search (arith, parent_place-none, outside_lacks)

ones_one : ones 1 ≡ 1
unfolding ones
ones_one = refl

ones_zero : ones 0 ≡ 0
unfolding ones
ones_zero = refl

-- one more digit 1 above the others
ones_above : (high d : ℕ) → d < 2 ^ high → ones (2 ^ high + d) ≡ suc (ones d)
ones_above high d below =
    let front : 2 ^ high + d ≡ 1 * 2 ^ high + d = omega arith in
    let same : ones (2 ^ high + d) ≡ ones (1 * 2 ^ high + d) = ap ones front in
    omega (arith, same, ones_cat high 1 d below, ones_one)

part_sum : (choice : Choice) (a b : ℕ) → chunk_part choice a + chunk_part choice b ≡ chunk_part choice (a + b)
part_sum choice a b = grind (arith, cases_Bool)

-- a part that is wanted whole, of so many chunks
part_whole : (choice : Choice) (number n count : ℕ) (sides : List Side) (source : ℕ) → n ≡ 1024 * count → 0 < count → choice.start ≤ 1024 * number → 1024 * (number + count) ≤ choice.end
    → nodes_size (subtree_nodes choice number n sides source) + 64 ≡ chunk_part choice (1024 * count) + 64 * count
part_whole choice number n count sides source size some start end = grind (arith, nodes_size-whole)

halved : (levels n : ℕ) → n ≡ 1024 * 2 ^ suc levels → left_len n ≡ 1024 * 2 ^ levels
halved levels n size =
    let twice : n ≡ 1024 * (2 ^ levels + 2 ^ levels) = omega (arith, size) in
    ap left_len twice ∙ left_len-double (2 ^ levels) (levels, refl)

-- Chunk i of 2 ^ levels chunks, none of which lies before the wanted positions.
pub chunk_full : (levels : ℕ) (choice : Choice) (number n : ℕ) (sides : List Side) (source at i : ℕ) → n ≡ 1024 * 2 ^ levels → number ≤ i → i < number + 2 ^ levels → choice.start ≤ 1024 * number
    → chunk_place (placed_nodes at (subtree_nodes choice number n sides source)) i
    ≡ then_some (choice.chunks && wants choice (1024 * i) 1024) (record { at = at + 1024 * (i - number) + 64 * (i - number + ones (2 ^ levels - 1 - (i - number))); len = 1024 })
chunk_full zero choice number n sides source at i size first last start = search (arith, ones_zero, cases_Bool, chunk_place-unwanted, chunk_place-without, chunk_place-leaf, and_false)
chunk_full (suc levels) choice number n sides source at i size first last start =
    let h : ℕ = 2 ^ levels in
    let k : ℕ = i - number in
    let some : 0 < h = pow_pos levels in
    let l : left_len n ≡ 1024 * h = halved levels n size in
    let more : 1024 < n = omega (arith, size, some) in
    let wanted : Bool = choice.chunks && wants choice (1024 * i) 1024 in
    elim (cases_lt i (number + h)) [
      | inl before ↦
          let count : ones (2 ^ suc levels - 1 - k) ≡ suc (ones (h - 1 - k)) = ap ones {y = h + (h - 1 - k)} (omega (arith, first, before)) ∙ ones_above levels (h - 1 - k) (omega (arith, some)) in
          let place : at + 64 + 1024 * k + 64 * (k + ones (h - 1 - k)) ≡ at + 1024 * k + 64 * (k + ones (2 ^ suc levels - 1 - k)) = omega (arith, count) in
          chunk_near choice number n sides source at more i (omega (arith, l, before))
          ∙ chunk_full levels choice number (left_len n) (sides ++ left ∷ []) (source + 64) (at + 64) i l first before start
          ∙ (λ j. then_some wanted (record { at = place j; len = 1024 }))
      | inr after ↦
          let middle : number + left_len n / 1024 ≡ number + h = omega (arith, l) in
          let inner : ℕ = i - (number + left_len n / 1024) in
          let size_near : ℕ = nodes_size (near choice number n sides source at more) in
          let count : ones (h - 1 - inner) ≡ ones (2 ^ suc levels - 1 - k) = ap ones (omega (arith, middle, after, last)) in
          chunk_far choice number n sides source at more i (omega (arith, middle, after))
          ∙ chunk_full levels choice (number + left_len n / 1024) (n - left_len n) (sides ++ right ∷ []) (source + 64 + subtree_size (left_len n)) (at + 64 + size_near) i
          (omega (arith, l, size)) (omega (arith, middle, after)) (omega (arith, middle, last)) (omega (arith, start))
          ∙ found wanted (record { at = at + 64 + size_near + 1024 * inner + 64 * (inner + ones (h - 1 - inner)); len = 1024 }) (record { at = at + 1024 * k + 64 * (k + ones (2 ^ suc levels - 1 - k)); len = 1024 })
          (λ yes.
          let both = and_parts choice.chunks (wants choice (1024 * i) 1024) yes in
          let meets : Meets choice (1024 * i) 1024 = Meets-from_wants choice (1024 * i) 1024 both.1 in
          let whole = part_whole choice number (left_len n) h (sides ++ left ∷ []) (source + 64) l some start (omega (arith, meets.before, after)) in
          let part : chunk_part choice (1024 * h) ≡ 1024 * h = ap (λ (c : Bool). if c then 1024 * h else 0) both.0 in
          let place : at + 64 + size_near + 1024 * inner + 64 * (inner + ones (h - 1 - inner)) ≡ at + 1024 * k + 64 * (k + ones (2 ^ suc levels - 1 - k)) = omega (arith, whole, part, count, middle, after) in
          (λ j. record { at = place j; len = 1024 }))
    ]

-- The first chunk of the parent's subtree, counted as its boundary is.
abbrev pub first_of : ℕ → ℕ
first_of b = bit_and b (b - 1)

first_of-power : (high : ℕ) → first_of (2 ^ high) ≡ 0
first_of-power high = grind (arith, and_mask, mod_low, pow_pos)

first_of-above : (high r : ℕ) → 0 < r → r < 2 ^ high → first_of (2 ^ high + r) ≡ 2 ^ high + first_of r
first_of-above high r some below =
    let one : 2 ^ high + r ≡ 1 * 2 ^ high + r = omega arith in
    let two : 2 ^ high + r - 1 ≡ 1 * 2 ^ high + (r - 1) = omega (arith, some) in
    (λ i. bit_and (one i) (two i)) ∙ and_block high 1 1 r (r - 1) below (omega (arith, below)) ∙ omega (arith, and_self 1)

-- The parent at a boundary within 2 ^ levels chunks, none of which lies before the wanted positions, and whose nodes follow a parent at `at`.
pub parent_full : (levels : ℕ) (choice : Choice) (number n : ℕ) (sides : List Side) (source at m : ℕ) → n ≡ 1024 * 2 ^ levels → number < m → m < number + 2 ^ levels → choice.start ≤ 1024 * number
    → parent_place (placed_nodes (at + 64) (subtree_nodes choice number n sides source)) m
    ≡ then_some (wants choice (1024 * (number + first_of (m - number))) (2048 * (m - number - first_of (m - number))))
    (at + chunk_part choice (1024 * first_of (m - number)) + 64 * (first_of (m - number) + ones (2 ^ levels - (m - number))))
parent_full zero choice number n sides source at m size low high start = absurd (omega (arith, low, high))
parent_full (suc levels) choice number n sides source at m size low high start =
    let h : ℕ = 2 ^ levels in
    let b : ℕ = m - number in
    let some : 0 < h = pow_pos levels in
    let l : left_len n ≡ 1024 * h = halved levels n size in
    let more : 1024 < n = omega (arith, size, some) in
    let middle : number + left_len n / 1024 ≡ number + h = omega (arith, l) in
    let wanted : Bool = wants choice (1024 * (number + first_of b)) (2048 * (b - first_of b)) in
    elim (cases_lt m (number + h)) [
      | inl before ↦
          let count : ones (2 ^ suc levels - b) ≡ suc (ones (h - b)) = ap ones {y = h + (h - b)} (omega (arith, low, before)) ∙ ones_above levels (h - b) (omega (arith, low, some)) in
          let place : at + 64 + chunk_part choice (1024 * first_of b) + 64 * (first_of b + ones (h - b)) ≡ at + chunk_part choice (1024 * first_of b) + 64 * (first_of b + ones (2 ^ suc levels - b)) = omega (arith, count) in
          parent_near choice number n sides source (at + 64) more m (omega (arith, middle, before))
          ∙ parent_full levels choice number (left_len n) (sides ++ left ∷ []) (source + 64) (at + 64) m l low before start
          ∙ (λ j. then_some wanted (place j))
      | inr after ↦
          elim (cases_lt (number + h) m) [
            | inr same ↦
                let own : h ≡ b = omega (arith, after, same) in
                let first : first_of b ≡ 0 = ap first_of (sym own) ∙ first_of-power levels in
                let count : ones (2 ^ suc levels - b) ≡ 1 = ap ones {y = h + 0} (omega (arith, own)) ∙ ones_above levels 0 some ∙ ap suc ones_zero in
                let part : chunk_part choice (1024 * first_of b) ≡ 0 = grind (arith, cases_Bool, first) in
                let place : at + 64 ≡ at + chunk_part choice (1024 * first_of b) + 64 * (first_of b + ones (2 ^ suc levels - b)) = omega (arith, first, count, part) in
                let start_is : number ≡ number + first_of b = omega (arith, first) in
                let len_is : n ≡ 2048 * (b - first_of b) = omega (arith, size, own, first) in
                parent_here choice number n sides source (at + 64) m more (omega (arith, middle, own, after))
                ∙ (λ j. then_some (wants choice (1024 * start_is j) (len_is j)) (place j))
            | inl past ↦
                let c : ℕ = m - (number + left_len n / 1024) in
                let size_near : ℕ = nodes_size (near choice number n sides source (at + 64) more) in
                let b_is : b ≡ h + c = omega (arith, middle, past) in
                let c_some : 0 < c = omega (arith, middle, past) in
                let c_below : c < h = omega (arith, middle, high) in
                let first : first_of b ≡ h + first_of c = ap first_of b_is ∙ first_of-above levels c c_some c_below in
                let start_is : number + left_len n / 1024 + first_of c ≡ number + first_of b = omega (arith, middle, first) in
                let len_is : 2048 * (c - first_of c) ≡ 2048 * (b - first_of b) = omega (arith, first, b_is) in
                let count : ones (h - c) ≡ ones (2 ^ suc levels - b) = ap ones (omega (arith, b_is)) in
                let place_far : at + 64 + 64 + size_near ≡ at + 64 + size_near + 64 = omega arith in
                let far_nodes : List TreeNode = far choice number n sides source (at + 64) more in
                parent_far choice number n sides source (at + 64) more m (omega (arith, middle, past))
                ∙ ap (λ (p : ℕ). parent_place (placed_nodes p far_nodes) m) place_far
                ∙ parent_full levels choice (number + left_len n / 1024) (n - left_len n) (sides ++ right ∷ []) (source + 64 + subtree_size (left_len n)) (at + 64 + size_near) m
                (omega (arith, l, size)) (omega (arith, middle, past)) (omega (arith, middle, high)) (omega (arith, start))
                ∙ (λ j. then_some (wants choice (1024 * start_is j) (len_is j)) (at + 64 + size_near + chunk_part choice (1024 * first_of c) + 64 * (first_of c + ones (h - c))))
                ∙ found wanted (at + 64 + size_near + chunk_part choice (1024 * first_of c) + 64 * (first_of c + ones (h - c))) (at + chunk_part choice (1024 * first_of b) + 64 * (first_of b + ones (2 ^ suc levels - b)))
                (λ yes.
                let meets : Meets choice (1024 * (number + first_of b)) (2048 * (b - first_of b)) = Meets-from_wants choice (1024 * (number + first_of b)) (2048 * (b - first_of b)) yes in
                let whole = part_whole choice number (left_len n) h (sides ++ left ∷ []) (source + 64) l some start (omega (arith, meets.before, first)) in
                let part : chunk_part choice (1024 * h) + chunk_part choice (1024 * first_of c) ≡ chunk_part choice (1024 * first_of b) =
                part_sum choice (1024 * h) (1024 * first_of c) ∙ ap (chunk_part choice) (omega (arith, first)) in
                omega (arith, whole, part, count, first))
          ]
    ]

-- the parent at a boundary is there where the chunk after it is wanted
pub parent_wanted : (choice : Choice) (m : ℕ) → Meets choice (1024 * m) 1 → (number n : ℕ) (sides : List Side) (source at : ℕ) → number < m → m < number + chunk_count n
    → is_some (parent_place (placed_nodes at (subtree_nodes choice number n sides source)) m) ≡ true
parent_wanted choice m meets = by_halves
    (λ number n sides source. (at : ℕ) → number < m → m < number + chunk_count n → is_some (parent_place (placed_nodes at (subtree_nodes choice number n sides source)) m) ≡ true)
    (λ number n sides source one at low high. absurd (omega (arith, one, low, high)))
    (λ number n sides source more parts in_near in_far at low high.
    let l : ℕ = left_len n in
    let there : Option ℕ → Bool = λ o. is_some o in
    elim (cases_lt m (number + l / 1024)) [
      | inl before ↦ ap there (parent_near choice number n sides source at more m before) ∙ in_near (at + 64) low (omega (arith, before, parts.whole))
      | inr after ↦
          elim (cases_lt (number + l / 1024) m) [
            | inl past ↦
                ap there (parent_far choice number n sides source at more m past)
                ∙ in_far (at + 64 + nodes_size (near choice number n sides source at more)) past (omega (arith, high, count_parts n more))
            | inr same ↦
                let whole : wants choice (1024 * number) n ≡ true = wants-from_Meets choice (1024 * number) n (record { before = omega (arith, meets.before, low); after = omega (arith, meets.after, high, more) }) in
                ap there (parent_place-here choice number n sides source at m whole more (omega (arith, after, same)))
          ]
    ])

-- so large a power of two is no part of a number of 64 digits
pub few_chunks : (levels : ℕ) → 1024 * 2 ^ levels < 2 ^ 64 → 2048 * 2 ^ levels ≤ 2 ^ 64
few_chunks levels below = elim (cases_lt levels 54) [
  | inl few ↦ let near_most : levels ≤ 53 = omega (arith, few) in let most : 2 ^ levels ≤ 2 ^ 53 = pow_mono near_most in omega (arith, most)
  | inr many ↦ let least : 2 ^ 54 ≤ 2 ^ levels = pow_mono many in absurd (omega (arith, least, below))
]

-- where a parent is found
pub ruleset parents_found = (parent_outside, parent_here, parent_near, parent_far, left_whole)

-- and all parents of a group
pub ruleset parents_grouped = (parent_outside, parent_here, parent_near, parent_far, parent_place-unwanted)
