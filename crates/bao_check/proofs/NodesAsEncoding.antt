-- An encoding that is made of its nodes' bytes, one after another, is good where each node's bytes are what is asked of it.
use Rattle.std.proofs.Common.{◌≡◌, ◌⊎◌, ℕ, ◌+◌, ◌*◌, ◌<◌, ◌≤◌, List, [], ◌∷◌, ◌++◌, length, take, drop, true, refl, sym, ap, subst, ◌∙◌, arith, inl, inr, length-append}
use Rattle.std.specs.List.{flat_map}
use Rattle.std.proofs.lemmas.Bool.{cases_Bool}
use Rattle.std.proofs.lemmas.List.{append-nil, drop_at, length_push, take_at}
use Rattle.std.proofs.lemmas.List.Concat.{flat_map-append}
use Rattle.b3tree.specs.declared.mode.Mode.{Mode}
use Rattle.b3tree.specs.Chunk.{last_chunk_input}
use Rattle.b3tree.specs.Tree.{left_len, parent_input}
use Rattle.bao_text.specs.declared.choice.Choice.{Choice}
use Rattle.bao_text.specs.Choice.{wants}
use Rattle.bao_text.specs.Nodes.{TreeNode, Side, chosen_nodes, chunk_nodes, left, right, subtree_nodes}
use Rattle.bao_text.proofs.Everything.{At, At_first, At_rest}
use Rattle.bao_text.proofs.Halves.{Far, Near, far_nodes, near_nodes}
use Rattle.bao_text.proofs.SubtreeNodes.{parent_node, subtree_nodes-parent}
use Rattle.bao_text.proofs.SubtreeText.{Parts}
use Rattle.bao_check.specs.declared.asked.Asked.{Asked}
use Rattle.bao_check.specs.Accepted.{IsAccepted, part_value}
use Rattle.bao_check.specs.Walk.{AreGood, Meets, asked_root}
use Rattle.bao_check.proofs.EachNode.{by_nodes, chunk_node}
use Rattle.bao_check.proofs.Lists.{Contains-cons_cases, nodes_size, nodes_size-cons}
use Rattle.bao_check.proofs.Parts.{AreGood-join, below}
use Rattle.bao_check.proofs.Sizes.{nodes_size-parent}

-- the encoding is there, and is what is taken from its place
pub At_fits : (text : List ℕ) (at n : ℕ) (x : List ℕ) → length x ≡ n → At text at x → at + n ≤ length text
At_fits text at n x len h = grind (arith, length-append)

pub At_bytes : (text : List ℕ) (at n : ℕ) (x : List ℕ) → length x ≡ n → At text at x → take n (drop at text) ≡ x
At_bytes text at n x len h = grind (arith, drop_at, take_at)

-- a node by itself
pub one_good : (asked : Asked) (mode : Mode) (text : List ℕ) (at number n : ℕ) (sides : List Side) (source : ℕ) → at + n ≤ length text
    → Meets asked (last_chunk_input mode number (take n (drop at text)))
    → AreGood asked sides mode text at (chunk_node number n sides source ∷ [])
one_good asked mode text at number n sides source there meets = (
  (
    there,
    (
      (λ _. meets),
      λ above side in_it under. elim (Contains-cons_cases [] _ above in_it) [
        | inl same ↦
            let upper : sides ≡ sides ++ side ∷ [] = under ∙ ap (λ (a : ℕ × TreeNode). a.1.sides ++ side ∷ []) same in
            absurd (omega (arith, ap length upper, length_push sides side))
        | inr none ↦ absurd (omega (arith, none.1))
      ],
    ),
  ),
  tt,
)

-- the nodes are good at a place of an encoding, and as long as what is made for them
pub record IsMadeOf (f : TreeNode → List ℕ) (asked : Asked) (sides : List Side) (mode : Mode) (text : List ℕ) (at : ℕ) (some : List TreeNode) : Type 0 where
  pub good : AreGood asked sides mode text at some
  pub size : length (flat_map f some) ≡ nodes_size some

-- bytes are the chunk that is asked for
pub record IsChunkMade (bytes : List ℕ) (asked : Asked) (mode : Mode) (number n : ℕ) : Type 0 where
  pub size : length bytes ≡ n
  pub meets : Meets asked (last_chunk_input mode number bytes)

-- they are the parent that is asked for, and its parts are what they ask
pub record IsParentMade (bytes : List ℕ) (asked : Asked) (mode : Mode) (near far : Asked → Type 0) : Type 0 where
  pub size : length bytes ≡ 64
  pub meets : Meets asked (parent_input mode (part_value left bytes) (part_value right bytes))
  pub in_near : near (below left bytes)
  pub in_far : far (below right bytes)

-- of a subtree of which `Fits` says what is known, or else there is E
module _ (f : TreeNode → List ℕ) (choice : Choice) (mode : Mode) (text : List ℕ) (E : Type 0) (Fits : Asked → ℕ → ℕ → List Side → ℕ → Type 0)
    (chunk : (asked : Asked) (number n : ℕ) (sides : List Side) (source : ℕ) → Fits asked number n sides source → wants choice (1024 * number) n ≡ true → n ≤ 1024 → choice.chunks ≡ true
    → IsChunkMade (f (chunk_node number n sides source)) asked mode number n ⊎ E)
    (parent : (asked : Asked) (number n : ℕ) (sides : List Side) (source : ℕ) → Fits asked number n sides source → wants choice (1024 * number) n ≡ true → 1024 < n → Parts n (left_len n)
    → IsParentMade (f (parent_node number n sides source)) asked mode (λ a. Near (Fits a) number n sides source) (λ a. Far (Fits a) number n sides source) ⊎ E) where
  abbrev Made : ℕ → ℕ → List Side → ℕ → List TreeNode → Type 0
  Made number n sides source some = (asked : Asked) (at : ℕ) → Fits asked number n sides source → At text at (flat_map f some) → IsMadeOf f asked sides mode text at some ⊎ E

  made_chunk : (number n : ℕ) (sides : List Side) (source : ℕ) → wants choice (1024 * number) n ≡ true → n ≤ 1024 → choice.chunks ≡ true
      → Made number n sides source (chunk_node number n sides source ∷ [])
  made_chunk number n sides source wanted one kept asked at fits here = elim (chunk asked number n sides source fits wanted one kept) [
    | inr other ↦ inr other
    | inl is ↦
        let node : TreeNode = chunk_node number n sides source in
        let there : At text at (f node) = At_first text at (f node) [] here in
        inl (record {
          good = one_good asked mode text at number n sides source (At_fits text at n (f node) is.size there)
              (subst (λ (b : List ℕ). Meets asked (last_chunk_input mode number b)) (sym (At_bytes text at n (f node) is.size there)) is.meets);
          size = omega (arith, nodes_size-cons node [], ap length (append-nil (f node)), is.size);
        })
  ]

  made_leaf : (number n : ℕ) (sides : List Side) (source : ℕ) → wants choice (1024 * number) n ≡ true → n ≤ 1024 → Made number n sides source (chunk_nodes choice number n sides source)
  made_leaf number n sides source wanted one = elim (cases_Bool choice.chunks) [
    | inl kept ↦
        let is : chunk_nodes choice number n sides source ≡ chunk_node number n sides source ∷ [] = rw kept refl in
        subst (Made number n sides source) (sym is) (made_chunk number n sides source wanted one kept)
    | inr gone ↦
        let is : chunk_nodes choice number n sides source ≡ [] = rw gone refl in
        subst (Made number n sides source) (sym is) (λ asked at fits here. inl (record { good = tt; size = refl }))
  ]

  made_parent : (number n : ℕ) (sides : List Side) (source : ℕ) → wants choice (1024 * number) n ≡ true → 1024 < n → Parts n (left_len n)
      → Near (λ k m way from. Made k m way from (subtree_nodes choice k m way from)) number n sides source → Far (λ k m way from. Made k m way from (subtree_nodes choice k m way from)) number n sides source
      → Made number n sides source (parent_node number n sides source ∷ (near_nodes choice number n sides source ++ far_nodes choice number n sides source))
  made_parent number n sides source wanted more parts near_made far_made asked at fits here = elim (parent asked number n sides source fits wanted more parts) [
    | inr other ↦ inr other
    | inl is ↦
        let near : List TreeNode = near_nodes choice number n sides source in
        let far : List TreeNode = far_nodes choice number n sides source in
        let own : List ℕ = f (parent_node number n sides source) in
        let a : List ℕ = flat_map f near in
        let b : List ℕ = flat_map f far in
        let parted : own ++ flat_map f (near ++ far) ≡ own ++ (a ++ b) = ap (λ (xs : List ℕ). own ++ xs) (flat_map-append f near far) in
        let both : At text at (own ++ (a ++ b)) = subst (At text at) parted here in
        let there : At text at own = At_first text at own (a ++ b) both in
        let parent_is : take 64 (drop at text) ≡ own = At_bytes text at 64 own is.size there in
        let kids : At text (at + 64) (a ++ b) = At_rest text at 64 own (a ++ b) is.size both in
        elim (near_made (below left own) (at + 64) is.in_near (At_first text (at + 64) a b kids)) [
          | inr other ↦ inr other
          | inl near_is ↦
              elim (far_made (below right own) (at + 64 + nodes_size near) is.in_far (At_rest text (at + 64) (nodes_size near) a b near_is.size kids)) [
                | inr other ↦ inr other
                | inl far_is ↦
                    inl (record {
                      good = subst (AreGood asked sides mode text at) (subtree_nodes-parent choice number n sides source wanted more)
                          (AreGood-join asked choice mode text at number n sides source wanted more
                          (record {
                            there = At_fits text at 64 own is.size there;
                            meets = subst (λ (p : List ℕ). Meets asked (parent_input mode (part_value left p) (part_value right p))) (sym parent_is) is.meets;
                            near_good = subst (λ (p : List ℕ). AreGood (below left p) (sides ++ left ∷ []) mode text (at + 64) near) (sym parent_is) near_is.good;
                            far_good = subst (λ (p : List ℕ). AreGood (below right p) (sides ++ right ∷ []) mode text (at + 64 + nodes_size near) far) (sym parent_is) far_is.good;
                          }));
                      size = ap length parted ∙ length-append own (a ++ b) ∙ (λ i. is.size i + length-append a b i) ∙ (λ i. 64 + (near_is.size i + far_is.size i))
                          ∙ sym (nodes_size-parent number n sides source near far);
                    })
              ]
        ]
  ]

  pub made : (number n : ℕ) (sides : List Side) (source : ℕ) → Made number n sides source (subtree_nodes choice number n sides source)
  made = by_nodes choice Made (λ number n sides source unwanted asked at fits here. inl (record { good = tt; size = refl })) made_leaf made_parent

  -- behind eight bytes it is accepted as a whole
  pub made_accepted : (root head : List ℕ) (total : ℕ) → length head ≡ 8 → text ≡ head ++ flat_map f (chosen_nodes choice total) → Fits (asked_root root) 0 total [] 8
      → IsAccepted mode root text (chosen_nodes choice total) ⊎ E
  made_accepted root head total eight is fits =
      let bytes : List ℕ = flat_map f (chosen_nodes choice total) in
      let here : At text 8 bytes = record { before = head; after = []; whole = is ∙ ap (λ (xs : List ℕ). head ++ xs) (sym (append-nil bytes)); place = eight } in
      elim (made 0 total [] 8 (asked_root root) 8 fits here) [
        | inr other ↦ inr other
        | inl own ↦
            let all : length text ≡ 8 + length bytes = ap length is ∙ length-append head bytes ∙ ap (λ (k : ℕ). k + length bytes) eight in
            inl (record { long = omega (arith, all); good = own.good; ends = all ∙ ap (λ (k : ℕ). 8 + k) own.size })
      ]
