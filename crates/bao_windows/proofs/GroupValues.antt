-- The value that an accepted encoding has for a group.
use Rattle.std.proofs.Common.{◌≡◌, ◌⊎◌, ℕ, ◌+◌, ◌-◌, ◌*◌, ◌/◌, ◌%◌, ◌^◌, ◌<◌, ◌≤◌, List, [], length, take, drop, Bool, false, true, Some, refl, sym, ap, subst, ◌∙◌, arith, inl, inr, length-drop, pow_pos}
use Rattle.std.proofs.lemmas.List.{drop-drop, drop-take, length-take-le, take-take, take_all}
use Rattle.std.proofs.lemmas.Nat.{pow-add, pow_below}
use Rattle.b3tree.specs.declared.mode.Mode.{Mode}
use Rattle.b3tree.specs.Bytes.{words_of}
use Rattle.b3tree.specs.Tree.{IsLeftLen, left_len, parent_input, subtree_cv}
use Rattle.b3tree.proofs.LeftLen.{left_len-IsLeftLen}
use Rattle.b3tree.proofs.TopInput.{top_input-chunk}
use Rattle.bao_text.proofs.Halves.{by_halves}
use Rattle.bao_text.proofs.SubtreeText.{Parts}
use Rattle.bao_text.specs.declared.choice.Choice.{Choice}
use Rattle.bao_text.specs.Choice.{of_slice}
use Rattle.bao_text.specs.Cut.{claimed}
use Rattle.bao_text.specs.Nodes.{Side, TreeNode, left, right}
use Rattle.bao_check.specs.Accepted.{IsAccepted, part_value, places_of, slice_nodes}
use Rattle.bao_check.specs.HasPart.{HasPart}
use Rattle.bao_check.specs.Parents.{parent_in}
use Rattle.bao_check.specs.Pieces.{chunk_in}
use Rattle.bao_check.proofs.Binding.{top_parent}
use Rattle.bao_check.proofs.Forks.{Fork, Leaf, fork_of, fork_there, leaf_of, part_whole}
use Rattle.bao_check.proofs.SubtreeInputs.{subtree_parent}
use Rattle.bao_windows.proofs.Bytes.{place_of}
use Rattle.bao_windows.proofs.Pieces.{some_is}
use Rattle.bao_windows.specs.Windows.{HasChunks}

-- a chunk of a beginning, and of what comes after it
chunk_first : (s : List ℕ) (a l : ℕ) → a + 1024 ≤ l → take 1024 (drop a s) ≡ take 1024 (drop a (take l s))
chunk_first s a l fits =
    let cut : drop a (take l s) ≡ take (l - a) (drop a s) = ap (λ (n : ℕ). drop a (take n s)) (omega arith) ∙ drop-take a (l - a) s in
    sym (ap (λ (xs : List ℕ). take 1024 xs) cut ∙ take-take 1024 (l - a) (drop a s) (omega arith))

chunk_after : (s : List ℕ) (a l k : ℕ) → k ≡ l + a → take 1024 (drop k s) ≡ take 1024 (drop a (drop l s))
chunk_after s a l k is = ap (λ (n : ℕ). take 1024 (drop n s)) is ∙ ap (λ (xs : List ℕ). take 1024 xs) (sym (drop-drop a l s))

power_below : (k : ℕ) → k < 7 → 2 ^ k ≤ 64
power_below k low = elim (place_of k 6) [
  | inl under ↦ let less : 2 ^ k < 2 ^ 6 = pow_below k 6 under in omega (arith, less)
  | inr over ↦ let same : k ≡ 6 = omega (arith, low, over) in omega (arith, ap (λ (e : ℕ). 2 ^ e) same)
]

-- where more than a group parts
left_wide : (n : ℕ) → 65536 < n → ((left_len n ≡ 65536) × (n ≤ 131072)) ⊎ ((m : ℕ) × (left_len n ≡ 131072 * m) × (0 < m))
left_wide n more =
    let is : IsLeftLen n (left_len n) = left_len-IsLeftLen n (omega (arith, more)) in
    let k : ℕ = is.form.0 in
    let least : 65536 ≤ left_len n = is.largest 6 more in
    elim (place_of k 7) [
      | inl low ↦
          let few : 2 ^ k ≤ 64 = power_below k low in
          inl (
            omega (arith, few, is.form.1, least),
            elim (place_of 131072 n) [
              | inl over ↦ let more_left : 131072 ≤ left_len n = is.largest 7 over in absurd (omega (arith, more_left, few, is.form.1))
              | inr within ↦ within
            ],
          )
      | inr high ↦
          let m : ℕ = 2 ^ (k - 7) in
          let double : 2 ^ k ≡ 128 * m = ap (λ (e : ℕ). 2 ^ e) (omega (arith, high)) ∙ pow-add 2 7 (k - 7) in
          inr (m, omega (arith, is.form.1, double), pow_pos (k - 7))
    ]

module _ (mode : Mode) (choice : Choice) (text : List ℕ) (places : List (ℕ × TreeNode)) where
  abbrev IsValueOf : ℕ → ℕ → List Side → ℕ → Type 0
  IsValueOf first n sides source =
      0 < n → (value : List ℕ) → HasPart mode choice text places false value first n → (s : List ℕ) → length s ≡ n → HasChunks text places first s → value ≡ subtree_cv mode first s

  first_there : (first : ℕ) (s : List ℕ) → 0 < length s → HasChunks text places first s → chunk_in text places first ≡ Some (take 1024 s)
  first_there first s some has =
      subst (λ (k : ℕ). chunk_in text places k ≡ Some (take 1024 s)) (omega arith) (has 0 (omega (arith, some)))

  value_chunk : (first n : ℕ) (sides : List Side) (source : ℕ) → n ≤ 1024 → IsValueOf first n sides source
  value_chunk first n sides source one some value part s size has =
      let there : chunk_in text places first ≡ Some s =
      first_there first s (omega (arith, size, some)) has ∙ ap (λ (xs : List ℕ). Some xs) (take_all 1024 s (omega (arith, size, one))) in
      let leaf : Leaf mode false value first n s = leaf_of mode choice text places false value first n part one s there in
      rw (top_input-chunk mode first s (omega (arith, size, one))) (sym leaf.meets)

  value_parent : (first n : ℕ) (sides : List Side) (source : ℕ) → 1024 < n → Parts n (left_len n)
      → ((near_sides : List Side) (near_source : ℕ) → IsValueOf first (left_len n) near_sides near_source)
      → ((far_sides : List Side) (far_source : ℕ) → IsValueOf (first + left_len n / 1024) (n - left_len n) far_sides far_source) → IsValueOf first n sides source
  value_parent first n sides source more parts near far some value part s size has =
      let l : ℕ = left_len n in
      let parent : List ℕ = take 64 (drop part.at text) in
      let known : parent_in text places (first + l / 1024) ≡ Some parent =
      fork_there mode choice text places false value first n part more first (take 1024 s) (omega arith) (omega arith) (first_there first s (omega (arith, size, some)) has) in
      let fork : Fork part parent = fork_of mode choice text places false value first n part more parent known in
      let near_is : part_value left parent ≡ subtree_cv mode first (take l s) =
      near [] 0 (omega (arith, parts.some)) (part_value left parent) fork.near (take l s) (length-take-le l s (omega (arith, size, parts.below)))
      (λ k below.
      let low : 1024 * k < l = omega (arith, below, length-take-le l s (omega (arith, size, parts.below))) in
      has k (omega (arith, low, size, parts.below)) ∙ ap (λ (xs : List ℕ). Some xs) (chunk_first s (1024 * k) l (omega (arith, low, parts.whole)))) in
      let far_is : part_value right parent ≡ subtree_cv mode (first + l / 1024) (drop l s) =
      far [] 0 (omega (arith, parts.below)) (part_value right parent) fork.far (drop l s) (omega (arith, length-drop l s, size))
      (λ k below.
      subst (λ (c : ℕ). chunk_in text places c ≡ Some (take 1024 (drop (1024 * k) (drop l s)))) (omega arith)
      (has (l / 1024 + k) (omega (arith, below, length-drop l s, size, parts.whole))
      ∙ ap (λ (xs : List ℕ). Some xs) (chunk_after s (1024 * k) l (1024 * (l / 1024 + k)) (omega (arith, parts.whole))))) in
      let made : parent_input mode (part_value left parent) (part_value right parent) ≡ subtree_parent mode first s =
      (λ i. parent_input mode (near_is i) (far_is i))
      ∙ ap (λ (k : ℕ). parent_input mode (subtree_cv mode first (take k s)) (subtree_cv mode (first + k / 1024) (drop k s))) (ap left_len (sym size)) in
      rw (top_parent mode first s (omega (arith, size, more)), sym made) (sym fork.meets)

  -- the value that is asked of a subtree is that of its bytes
  pub value_is : (first n : ℕ) → IsValueOf first n [] 0
  value_is first n = by_halves (λ (k m : ℕ) (way : List Side) (at : ℕ). (sides : List Side) (source : ℕ) → IsValueOf k m sides source)
      (λ k m way at one sides source. value_chunk k m sides source one)
      (λ k m way at more parts near far sides source. value_parent k m sides source more parts near far) first n [] 0 [] 0

  -- the half that it is of the parent above a group: the right one where the group is the second of its pair, or ends what there is
  pub record IsBelow (a end : ℕ) : Type 0 where
    pub near : a % 128 ≡ 0 → 1024 * (a + 64) < end → (parent : List ℕ) → parent_in text places (a + 64) ≡ Some parent → HasPart mode choice text places false (part_value left parent) a 65536
    pub far : (a % 128 ≡ 64) ⊎ (1024 * (a + 64) ≡ end) → (parent : List ℕ) → parent_in text places a ≡ Some parent → HasPart mode choice text places false (part_value right parent) a 65536

  abbrev Groups : ℕ → ℕ → Type 0
  Groups first n =
      (top : Bool) (value : List ℕ) → HasPart mode choice text places top value first n → first % 128 ≡ 0 → 65536 < n
      → (a : ℕ) (bytes : List ℕ) → a % 64 ≡ 0 → first ≤ a → 1024 * (a + 64) ≤ 1024 * first + n → chunk_in text places a ≡ Some bytes → IsBelow a (1024 * first + n)

  groups_large : (first n : ℕ) → 1024 < n → Parts n (left_len n) → Groups first (left_len n) → Groups (first + left_len n / 1024) (n - left_len n) → Groups first n
  groups_large first n more parts near far top value part even long a bytes whole from within there =
      let l : ℕ = left_len n in
      let middle : ℕ = first + l / 1024 in
      let parent : List ℕ = take 64 (drop part.at text) in
      let known : parent_in text places middle ≡ Some parent =
      fork_there mode choice text places top value first n part more a bytes from (omega (arith, within)) there in
      let fork : Fork part parent = fork_of mode choice text places top value first n part more parent known in
      let far_end : 1024 * middle + (n - l) ≡ 1024 * first + n = omega (arith, parts.whole, parts.below) in
      let is_parent : (m : ℕ) (p : List ℕ) → m ≡ middle → parent_in text places m ≡ Some p → parent ≡ p =
      λ m p same is. some_is parent p (sym known ∙ ap (λ (k : ℕ). parent_in text places k) (sym same) ∙ is) in
      let last : 65536 ≡ n - l → a ≡ middle → IsBelow a (1024 * first + n) =
      λ size same. record {
        near = λ pair below p is. absurd (omega (arith, size, same, below, parts.whole, parts.below));
        far = λ side p is. subst (λ (x : List ℕ). HasPart mode choice text places false (part_value right x) a 65536) (is_parent a p same is)
            ((λ (k m : ℕ) (k_is : middle ≡ k) (m_is : n - l ≡ m).
            subst (λ (y : ℕ). HasPart mode choice text places false (part_value right parent) k y) m_is
            (subst (λ (x : ℕ). HasPart mode choice text places false (part_value right parent) x (n - l)) k_is fork.far)) a 65536 (sym same) (sym size));
      } in
      elim (left_wide n long) [
        | inl two ↦
            elim (place_of a middle) [
              | inl low ↦
                  let same : a ≡ first = omega (arith, low, two.0, whole, from, even) in
                  record {
                    near = λ pair below p is. subst (λ (x : List ℕ). HasPart mode choice text places false (part_value left x) a 65536) (is_parent (a + 64) p (omega (arith, same, two.0)) is)
                        (subst (λ (y : ℕ). HasPart mode choice text places false (part_value left parent) a y) two.0
                        (subst (λ (x : ℕ). HasPart mode choice text places false (part_value left parent) x l) (sym same) fork.near));
                    far = λ side p is. absurd (elim side [ inl odd ↦ omega (arith, odd, same, even) | inr end ↦ omega (arith, end, same, long) ]);
                  }
              | inr high ↦ last (omega (arith, high, within, two.0, two.1)) (omega (arith, high, within, two.0, two.1))
            ]
        | inr wide ↦
            let middle_even : middle % 128 ≡ 0 = omega (arith, even, wide.1) in
            elim (place_of a middle) [
              | inl low ↦
                  let own : IsBelow a (1024 * first + l) =
                  near false (part_value left parent) fork.near even (omega (arith, wide.1, wide.2)) a bytes whole from (omega (arith, low, wide.1, whole, even)) there in
                  record {
                    near = λ pair below. own.near pair (omega (arith, low, wide.1, pair, even));
                    far = λ side. own.far (elim side [ inl odd ↦ inl odd | inr end ↦ absurd (omega (arith, end, low, wide.1, whole, even, parts.below)) ]);
                  }
              | inr high ↦
                  elim (place_of 65536 (n - l)) [
                    | inl long_far ↦
                        subst (λ (e : ℕ). IsBelow a e) far_end
                        (far false (part_value right parent) fork.far middle_even long_far a bytes whole high (omega (arith, within, far_end)) there)
                    | inr short_far ↦ last (omega (arith, short_far, high, within, wide.1)) (omega (arith, short_far, high, within, wide.1))
                  ]
            ]
      ]

  groups : (first n : ℕ) → Groups first n
  groups first n = by_halves (λ (k m : ℕ) (way : List Side) (at : ℕ). Groups k m)
      (λ k m way at one top value part even long a bytes whole from within there. absurd (omega (arith, one, long)))
      (λ k m way at more parts near far. groups_large k m more parts near far) first n [] 0

-- the half that is a group's value, of an accepted slice that has its chunks
module _ (mode : Mode) (root text : List ℕ) (start len a : ℕ) (accepted : IsAccepted mode root text (slice_nodes text start len)) (whole : a % 64 ≡ 0) (long : 65536 < claimed text)
    (within : 1024 * (a + 64) ≤ claimed text) (bytes : List ℕ) (size : length bytes ≡ 65536) (has : HasChunks text (places_of (slice_nodes text start len)) a bytes) where
  abbrev choice : Choice
  choice = of_slice (claimed text) start len

  abbrev places : List (ℕ × TreeNode)
  places = places_of (slice_nodes text start len)

  below : IsBelow mode choice text places a (claimed text)
  below =
      subst (λ (e : ℕ). IsBelow mode choice text places a e) (omega arith)
      (groups mode choice text places 0 (claimed text) true (words_of 8 root) (part_whole mode root text start len accepted) refl long a (take 1024 bytes) whole (omega arith) (omega (arith, within))
      (first_there mode choice text places a bytes (omega (arith, size)) has))

  value_of : (value : List ℕ) → HasPart mode choice text places false value a 65536 → value ≡ subtree_cv mode a bytes
  value_of value part = value_is mode choice text places a 65536 (omega arith) value part bytes size has

  pub near_half : a % 128 ≡ 0 → 1024 * (a + 64) < claimed text → (parent : List ℕ) → parent_in text places (a + 64) ≡ Some parent → part_value left parent ≡ subtree_cv mode a bytes
  near_half pair more parent is = value_of (part_value left parent) (below.near pair more parent is)

  pub far_half : (a % 128 ≡ 64) ⊎ (1024 * (a + 64) ≡ claimed text) → (parent : List ℕ) → parent_in text places a ≡ Some parent → part_value right parent ≡ subtree_cv mode a bytes
  far_half side parent is = value_of (part_value right parent) (below.far side parent is)
