-- Which chunks an encoding has, and in which part of a subtree.
use Rattle.std.proofs.Common.{ltb, ◌&&◌, ◌≡◌, ℕ, ◌+◌, ◌-◌, ◌*◌, ◌/◌, ◌<◌, ◌≤◌, ◌↔◌, min, max, List, [], ◌∷◌, ◌++◌, Bool, true, false, None, Option, IsSome, is_some, refl, sym, ap, ◌∙◌, arith, inl, inr}
use Rattle.std.proofs.lemmas.Bool.{and_from, cases_Bool, cases_lt, lt-ltb, ltb-true}
use Rattle.b3tree.specs.Tree.{left_len}
use Rattle.bao_text.specs.declared.choice.Choice.{Choice}
use Rattle.bao_text.specs.Choice.{chunk_count, of_slice, slice_end, slice_start, wants}
use Rattle.bao_text.specs.Nodes.{TreeNode, Side, left, nodes, placed_nodes, right, subtree_nodes, subtree_size}
use Rattle.bao_text.proofs.SubtreeText.{Parts, left_len-Parts}
use Rattle.bao_check.specs.declared.locate.Span.{Span}
use Rattle.bao_check.specs.Parents.{parent_place}
use Rattle.bao_check.specs.Spans.{chunk_place}
use Rattle.bao_check.proofs.Lists.{nodes_size}
use Rattle.bao_text.proofs.Halves.{by_halves}
use Rattle.bao_check.proofs.Locating.{chunk_in-place, chunk_place-far, chunk_place-leaf, chunk_place-near, chunk_place-outside, chunk_place-unwanted, chunk_place-without, count_parts, left_whole}
use Rattle.bao_check.proofs.Parenting.{parent_place-far, parent_place-near, parent_place-unwanted, some_too}

-- some bytes of the n from `at` on are wanted
pub record Meets (choice : Choice) (at n : ℕ) : Type 0 where
  pub before : at < choice.end
  pub after : choice.start < at + max n 1

and_first : (a b : Bool) → (a && b) ≡ true → a ≡ true
and_first true b h = refl
and_first false b h = h

and_second : (a b : Bool) → (a && b) ≡ true → b ≡ true
and_second true b h = h
and_second false b h = cc

pub Meets-from_wants : (choice : Choice) (at n : ℕ) → wants choice at n ≡ true → Meets choice at n
Meets-from_wants choice at n h = record {
  before = ltb-true at choice.end (and_first (ltb at choice.end) (ltb choice.start (at + max n 1)) h);
  after = ltb-true choice.start (at + max n 1) (and_second (ltb at choice.end) (ltb choice.start (at + max n 1)) h);
}

pub wants-from_Meets : (choice : Choice) (at n : ℕ) → Meets choice at n → wants choice at n ≡ true
wants-from_Meets choice at n h = and_from _ _ (lt-ltb at choice.end h.before) (lt-ltb choice.start (at + max n 1) h.after)

-- a subtree that isn't wanted has no part that is
unwanted_part : (choice : Choice) (number n part len : ℕ) → wants choice (1024 * number) n ≡ false → number ≤ part → 1024 * part + max len 1 ≤ 1024 * number + max n 1
    → wants choice (1024 * part) len ≡ false
unwanted_part choice number n part len skipped first within = grind (arith, cases_Bool, wants-from_Meets, Meets-from_wants)

-- The two parts of a subtree of more than one chunk, whether it is wanted or not: what is looked for in one of them stands where that
-- part has it.
module _ (choice : Choice) (number n : ℕ) (sides : List Side) (source at : ℕ) (more : 1024 < n) where
  abbrev pub near : List TreeNode
  near = subtree_nodes choice number (left_len n) (sides ++ left ∷ []) (source + 64)

  abbrev pub far : List TreeNode
  far = subtree_nodes choice (number + left_len n / 1024) (n - left_len n) (sides ++ right ∷ []) (source + 64 + subtree_size (left_len n))

  pub near_unwanted : wants choice (1024 * number) n ≡ false → wants choice (1024 * number) (left_len n) ≡ false
  near_unwanted skipped = let parts : Parts n (left_len n) = left_len-Parts n more in
      unwanted_part choice number n number (left_len n) skipped (omega arith) (omega (arith, parts.some, parts.below))

  pub far_unwanted : wants choice (1024 * number) n ≡ false → wants choice (1024 * (number + left_len n / 1024)) (n - left_len n) ≡ false
  far_unwanted skipped = grind (arith, left_len-Parts, unwanted_part)

  pub chunk_near : (i : ℕ) → i < number + left_len n / 1024 → chunk_place (placed_nodes at (subtree_nodes choice number n sides source)) i ≡ chunk_place (placed_nodes (at + 64) near) i
  chunk_near i before = grind (arith, cases_Bool, chunk_place-near, chunk_place-unwanted, near_unwanted)

  pub chunk_far : (i : ℕ) → number + left_len n / 1024 ≤ i
      → chunk_place (placed_nodes at (subtree_nodes choice number n sides source)) i ≡ chunk_place (placed_nodes (at + 64 + nodes_size near) far) i
  chunk_far i after = grind (arith, cases_Bool, chunk_place-far, chunk_place-unwanted, far_unwanted)

  pub parent_near : (m : ℕ) → m < number + left_len n / 1024 → parent_place (placed_nodes at (subtree_nodes choice number n sides source)) m ≡ parent_place (placed_nodes (at + 64) near) m
  parent_near m before = grind (arith, cases_Bool, parent_place-near, parent_place-unwanted, near_unwanted)

  pub parent_far : (m : ℕ) → number + left_len n / 1024 < m
      → parent_place (placed_nodes at (subtree_nodes choice number n sides source)) m ≡ parent_place (placed_nodes (at + 64 + nodes_size near) far) m
  parent_far m after = grind (arith, cases_Bool, parent_place-far, parent_place-unwanted, far_unwanted)

-- how many bytes chunk i has, of a subtree of n bytes from chunk `number` on
abbrev chunk_len : ℕ → ℕ → ℕ → ℕ
chunk_len number n i = min 1024 (1024 * number + n - 1024 * i)

-- an encoding with chunks has those that are wanted
abbrev IsPresent : Choice → ℕ → ℕ → List Side → ℕ → ℕ → ℕ → Type 0
IsPresent choice number n sides source at i = is_some (chunk_place (placed_nodes at (subtree_nodes choice number n sides source)) i) ≡ wants choice (1024 * i) (chunk_len number n i)

present_alone : (choice : Choice) (number n : ℕ) (sides : List Side) (source at i : ℕ) → choice.chunks ≡ true → n ≤ 1024 → number ≡ i → IsPresent choice number n sides source at i
present_alone choice number n sides source at i chunks one same = grind (arith, cases_Bool, chunk_place-leaf, chunk_place-unwanted)

present : (choice : Choice) → choice.chunks ≡ true → (i number n : ℕ) (sides : List Side) (source at : ℕ) → number ≤ i → i < number + chunk_count n → IsPresent choice number n sides source at i
present choice chunks i = by_halves (λ number n sides source. (at : ℕ) → number ≤ i → i < number + chunk_count n → IsPresent choice number n sides source at i)
    (λ number n sides source one at first last. present_alone choice number n sides source at i chunks one (omega (arith, one, first, last)))
    (λ number n sides source more parts in_near in_far at first last.
    let l : ℕ = left_len n in
    let there : Option Span → Bool = λ o. is_some o in
    elim (cases_lt i (number + l / 1024)) [
      | inl before ↦
          ap there (chunk_near choice number n sides source at more i before)
          ∙ in_near (at + 64) first (omega (arith, before, parts.whole))
          ∙ ap (wants choice (1024 * i)) (omega (arith, before, first, parts.whole, parts.below))
      | inr after ↦
          ap there (chunk_far choice number n sides source at more i after)
          ∙ in_far (at + 64 + nodes_size (near choice number n sides source at more)) after (omega (arith, last, count_parts n more))
          ∙ ap (wants choice (1024 * i)) (omega (arith, parts.whole, parts.below))
    ])

-- a slice has the chunks that its positions meet
pub slice_present : (total start len at i : ℕ)
    → IsSome (chunk_place (placed_nodes at (nodes total start len)) i)
    ↔ ((slice_start total start / 1024 ≤ i) × (i < (slice_end total start len + 1023) / 1024))
slice_present total start len at i =
    let choice : Choice = of_slice total start len in
    let first : ℕ = slice_start total start in
    let end : ℕ = slice_end total start len in
    let low : first ≤ max total 1 - 1 = omega arith in
    let high : end ≤ max total 1 = omega arith in
    let some : first < end = omega arith in
    let own : i < chunk_count total → IsPresent choice 0 total [] 8 at i = λ inside. present choice refl i 0 total [] 8 at (omega arith) (omega (arith, inside)) in (
      λ h. elim (cases_lt i (chunk_count total)) [
        | inl inside ↦
            let meets : Meets choice (1024 * i) (chunk_len 0 total i) = Meets-from_wants choice (1024 * i) (chunk_len 0 total i) (sym (own inside) ∙ h) in
            (omega (arith, meets.after, inside), omega (arith, meets.before))
        | inr past ↦
            let none : chunk_place (placed_nodes at (nodes total start len)) i ≡ None = chunk_place-outside choice 0 total [] 8 at i (λ w. omega (arith, w.1, past)) in
            let bad : false ≡ true = ap (λ (o : Option Span). is_some o) (sym none) ∙ h in cc
      ],
      λ h.
          let inside : i < chunk_count total = omega (arith, h.1, high) in
          own inside ∙ wants-from_Meets choice (1024 * i) (chunk_len 0 total i) (record { before = omega (arith, h.1); after = omega (arith, h.0, h.1, inside) }),
    )

-- where a chunk is found
pub ruleset chunks_found = (chunk_place-outside, chunk_place-unwanted, chunk_place-leaf, chunk_place-without, chunk_near, chunk_far, left_whole)

-- which chunks a piece has
pub ruleset chunks_present = (slice_present, chunk_in-place, some_too)
