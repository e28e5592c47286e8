-- The nodes of an encoding that an outline and chunks make are good exactly where each chunk has the outline's value.
use Rattle.std.proofs.Common.{◌≡◌, ◌⊎◌, ℕ, ◌+◌, ◌-◌, ◌*◌, ◌/◌, ◌<◌, ◌≤◌, max, min, List, [], ◌∷◌, ◌++◌, length, take, drop, true, refl, sym, ap, subst, ◌∙◌, arith, inl, inr, length-drop, length-take}
use Rattle.std.specs.List.{AllByRecursion, flat_map}
use Rattle.std.proofs.lemmas.Bool.{cases_lt}
use Rattle.std.proofs.lemmas.List.{append-nil}
use Rattle.std.proofs.lemmas.List.Concat.{flat_map-append}
use Rattle.b3word.specs.declared.input.Input.{Input}
use Rattle.b3tree.specs.declared.mode.Mode.{Mode}
use Rattle.b3tree.specs.Chunk.{last_chunk_input}
use Rattle.b3tree.specs.Tree.{left_len}
use Rattle.bao_text.specs.declared.choice.Choice.{Choice}
use Rattle.bao_text.specs.Choice.{chunk_count, of_outboard, wants}
use Rattle.bao_text.specs.Cut.{claimed}
use Rattle.bao_text.specs.Nodes.{TreeNode, Side, chosen_nodes, left, right, size, subtree_nodes, subtree_size}
use Rattle.bao_text.proofs.Halves.{Far, Near, by_halves, far_nodes, near_nodes}
use Rattle.bao_text.proofs.Everything.{At, At_first, At_rest}
use Rattle.bao_text.proofs.SubtreeNodes.{parent_node, subtree_nodes-parent}
use Rattle.bao_text.proofs.SubtreeText.{Parts}
use Rattle.bao_check.specs.declared.asked.Asked.{Asked}
use Rattle.bao_check.specs.Accepted.{outboard_nodes, places_of}
use Rattle.bao_check.specs.Bare.{AreGoodBare, HasValue, IsGoodBare, bare_at, bare_chunk}
use Rattle.bao_check.specs.Beside.{node_beside}
use Rattle.bao_check.specs.Leaves.{WantsParents}
use Rattle.bao_check.specs.Walk.{AreGood, asked_root}
use Rattle.bao_check.specs.Walk as walk
use Rattle.bao_check.specs.BareWalk.{Reaches}
use Rattle.bao_check.specs.HasPart.{Inside}
use Rattle.bao_check.proofs.BareReached.{reaches-far, reaches-near, reaches-parents, reaches-whole}
use Rattle.bao_check.proofs.BesidePlaces.{Finds, Finds-all, Finds-far, Finds-near, flat-size, parent-beside}
use Rattle.bao_check.proofs.Lists.{All-first, All-second, nodes_size}
use Rattle.bao_check.proofs.Outlines.{near-size}
use Rattle.bao_check.proofs.Parts.{AreGood-split, below}
use Rattle.bao_check.proofs.Presence.{Meets-from_wants, wants-from_Meets}
use Rattle.bao_check.proofs.Sizes.{chunk_size, wants_whole}
use Rattle.bao_check.proofs.EachNode.{chunk_node, leaf_nodes}
use Rattle.bao_check.proofs.NodesAsEncoding.{At_bytes, IsChunkMade, IsParentMade}
use Rattle.bao_check.proofs.NodesAsEncoding as encoded

-- the choice is of the chunks from `first` on, up to and without `after`
pub record Ranges (total first after : ℕ) (choice : Choice) : Type 0 where
  pub start : choice.start ≡ 1024 * first
  pub end : choice.end ≡ min (1024 * after) (max total 1)
  pub within : after ≤ chunk_count total
  pub chunks : choice.chunks ≡ true

module _ (mode : Mode) (root outline text chunks : List ℕ) (choice : Choice) (first after : ℕ) (ranges : Ranges (claimed outline) first after choice) where
  abbrev total : ℕ
  total = claimed outline

  -- all parents of the outline
  abbrev own : Choice
  own = of_outboard total

  abbrev all_places : List (ℕ × TreeNode)
  all_places = places_of (outboard_nodes outline)

  -- the bytes that are made for a node
  abbrev made : TreeNode → List ℕ
  made node = node_beside outline first chunks node

  -- they are as many as it has
  abbrev IsMadeWhole : TreeNode → Type 0
  IsMadeWhole node = length (made node) ≡ size node

  -- the input of a chunk
  abbrev pub input_beside : ℕ → Input
  input_beside k = last_chunk_input mode k (bare_chunk total first chunks k)

  -- what is wanted of the choice
  wanted_chunk : (number n : ℕ) → wants choice (1024 * number) n ≡ true → n ≤ 1024 → (first ≤ number) × (number < after)
  wanted_chunk number n wanted one = grind (arith, Meets-from_wants)

  is_wanted : (number n k : ℕ) → first ≤ k → k < after → number ≤ k → k < number + chunk_count n → wants choice (1024 * number) n ≡ true
  is_wanted number n k from to low high = search (arith, wants-from_Meets)

  -- a chunk's bytes are those made for its node
  chunk_bytes : (number n : ℕ) (sides : List Side) (source : ℕ) → Inside total number n → n ≤ 1024 → bare_chunk total first chunks number ≡ made (chunk_node number n sides source)
  chunk_bytes number n sides source inside one = grind (arith, chunks, chunk_size)

  -- what is known of a subtree: it is reached in the outline, and each node's bytes are whole
  record Known (asked : Asked) (number n : ℕ) (sides : List Side) (source from : ℕ) : Type 0 where
    reaches : Reaches root outline asked number n sides source from
    finds : Finds all_places own number n sides source from
    whole : AllByRecursion IsMadeWhole (subtree_nodes choice number n sides source)

  -- of a wanted chunk
  own_chunk : (asked : Asked) (number n : ℕ) (sides : List Side) (source from : ℕ) → wants choice (1024 * number) n ≡ true → n ≤ 1024 → Known asked number n sides source from
      → length (made (chunk_node number n sides source)) ≡ n
  own_chunk asked number n sides source from wanted one known = grind (arith, leaf_nodes)

  -- of a wanted parent and of its parts
  module _ (asked : Asked) (number n : ℕ) (sides : List Side) (source from : ℕ) (wanted : wants choice (1024 * number) n ≡ true) (more : 1024 < n) (known : Known asked number n sides source from) where
    abbrev l : ℕ
    l = left_len n

    abbrev near : List TreeNode
    near = near_nodes choice number n sides source

    abbrev far : List TreeNode
    far = far_nodes choice number n sides source

    abbrev bytes : List ℕ
    bytes = take 64 (drop from outline)

    has : WantsParents own number n
    has = reaches-parents root outline asked number n sides source from known.reaches

    all_whole : AllByRecursion IsMadeWhole (parent_node number n sides source ∷ (near ++ far))
    all_whole = subst (AllByRecursion IsMadeWhole) (subtree_nodes-parent choice number n sides source wanted more) known.whole

    parent_is : made (parent_node number n sides source) ≡ bytes
    parent_is = parent-beside outline chunks first own number n sides source from more has known.finds

    known_near : Known (below left bytes) number l (sides ++ left ∷ []) (source + 64) (from + 64)
    known_near = record {
      reaches = reaches-near more known.reaches;
      finds = Finds-near all_places own number n sides source from more has known.finds;
      whole = All-first IsMadeWhole near far all_whole.1;
    }

    known_far : Known (below right bytes) (number + l / 1024) (n - l) (sides ++ right ∷ []) (source + 64 + subtree_size l) (from + 64 * (l / 1024))
    known_far = record {
      reaches = reaches-far more known.reaches;
      finds = Finds-far all_places own number n sides source from more has known.finds;
      whole = All-second IsMadeWhole near far all_whole.1;
    }

  -- A subtree is good where its chunks have the outline's values.
  module _ (values : (k : ℕ) → first ≤ k → k < after → HasValue root outline k (input_beside k)) where
    -- the outline's parents are good
    record Outlined (asked : Asked) (number n : ℕ) (sides : List Side) (source : ℕ) : Type 0 where
      from : ℕ
      known : Known asked number n sides source from
      good : AreGood asked sides mode outline from (subtree_nodes own number n sides source)

    chunk_beside : (asked : Asked) (number n : ℕ) (sides : List Side) (source : ℕ) → Outlined asked number n sides source → wants choice (1024 * number) n ≡ true → n ≤ 1024 → choice.chunks ≡ true
        → IsChunkMade (made (chunk_node number n sides source)) asked mode number n ⊎ ⊥
    chunk_beside asked number n sides source is wanted one kept =
        let range = wanted_chunk number n wanted one in
        let reaches = is.known.reaches in
        inl (record {
          size = own_chunk asked number n sides source is.from wanted one is.known;
          meets = subst (λ (xs : List ℕ). walk.Meets asked (last_chunk_input mode number xs)) (chunk_bytes number n sides source reaches.inside one)
              ((reaches.one one (input_beside number)).0 (values number range.0 range.1));
        })

    parent_beside : (asked : Asked) (number n : ℕ) (sides : List Side) (source : ℕ) → Outlined asked number n sides source → wants choice (1024 * number) n ≡ true → 1024 < n → Parts n (left_len n)
        → IsParentMade (made (parent_node number n sides source)) asked mode (λ a. Near (Outlined a) number n sides source) (λ a. Far (Outlined a) number n sides source) ⊎ ⊥
    parent_beside asked number n sides source is wanted more parts =
        let l : ℕ = left_len n in
        let all : WantsParents own number n = has asked number n sides source is.from wanted more is.known in
        let split = AreGood-split asked own mode outline is.from number n sides source (wants_whole own (1024 * number) n all.start (omega (arith, all.end))) more is.good in
        let len : nodes_size (near_nodes own number n sides source) + 64 ≡ 64 * (l / 1024) = near-size own number n sides source more all in
        let e : is.from + 64 + nodes_size (near_nodes own number n sides source) ≡ is.from + 64 * (l / 1024) = omega arith in
        let bytes : List ℕ = take 64 (drop is.from outline) in
        let same : bytes ≡ made (parent_node number n sides source) = sym (parent_is asked number n sides source is.from wanted more is.known) in
        let whole : length (made (parent_node number n sides source)) ≡ 64 = (all_whole asked number n sides source is.from wanted more is.known).0 in
        inl (subst (λ (xs : List ℕ). IsParentMade xs asked mode (λ a. Near (Outlined a) number n sides source) (λ a. Far (Outlined a) number n sides source)) same
        (record {
          size = ap length same ∙ whole;
          meets = split.meets;
          in_near = record { from = is.from + 64; known = known_near asked number n sides source is.from wanted more is.known; good = split.near_good };
          in_far = record {
            from = is.from + 64 * (l / 1024);
            known = known_far asked number n sides source is.from wanted more is.known;
            good = subst (λ (k : ℕ). AreGood (below right bytes) (sides ++ right ∷ []) mode outline k (far_nodes own number n sides source)) e split.far_good;
          };
        }))

    pub made_good : AreGood (asked_root root) [] mode outline 8 (outboard_nodes outline) → AllByRecursion IsMadeWhole (chosen_nodes choice total) → At text 8 (flat_map made (chosen_nodes choice total))
        → AreGood (asked_root root) [] mode text 8 (chosen_nodes choice total)
    made_good good whole here =
        let known : Known (asked_root root) 0 total [] 8 8 = record { reaches = reaches-whole root outline; finds = Finds-all total; whole = whole } in
        elim (encoded.made made choice mode text ⊥ Outlined chunk_beside parent_beside 0 total [] 8 (asked_root root) 8 (record { from = 8; known = known; good = good }) here) [
          | inl is ↦ is.good
          | inr none ↦ absurd none
        ]

  -- Its chunks are there and have these values where it is good.
  abbrev HasValues : ℕ → ℕ → List Side → ℕ → Type 0
  HasValues number n sides source = (asked : Asked) (at from : ℕ) → Known asked number n sides source from → At text at (flat_map made (subtree_nodes choice number n sides source))
      → AreGood asked sides mode text at (subtree_nodes choice number n sides source)
      → (k : ℕ) → first ≤ k → k < after → number ≤ k → k < number + chunk_count n → IsGoodBare mode root outline first chunks k

  values_one : (number n : ℕ) (sides : List Side) (source : ℕ) → n ≤ 1024 → HasValues number n sides source
  values_one number n sides source one asked at from known here good k since to low high =
      let node : TreeNode = chunk_node number n sides source in
      let wanted : wants choice (1024 * number) n ≡ true = is_wanted number n k since to low high in
      let reaches = known.reaches in
      let inside : Inside total number n = reaches.inside in
      let is : subtree_nodes choice number n sides source ≡ node ∷ [] = leaf_nodes choice number n sides source wanted one ranges.chunks in
      let there : At text at (made node) = subst (At text at) (ap (flat_map made) is ∙ append-nil (made node)) here in
      let size_is : length (made node) ≡ n = own_chunk asked number n sides source from wanted one known in
      let bytes : take n (drop at text) ≡ bare_chunk total first chunks number = At_bytes text at n (made node) size_is there ∙ sym (chunk_bytes number n sides source inside one) in
      let own_good : AreGood asked sides mode text at (node ∷ []) = subst (AreGood asked sides mode text at) is good in
      let meets : walk.Meets asked (last_chunk_input mode number (take n (drop at text))) = own_good.0.1.0 refl in
      let rest : length (drop (bare_at first number) chunks) ≡ length chunks - bare_at first number = length-drop (bare_at first number) chunks in
      let taken : length (made node) ≡ min n (length (drop (bare_at first number) chunks)) = length-take n (drop (bare_at first number) chunks) in
      let same : number ≡ k = omega arith in
      subst (IsGoodBare mode root outline first chunks) same (
        omega (arith, chunk_size total number n inside one, inside.within, inside.some),
        (reaches.one one (input_beside number)).1 (subst (λ (xs : List ℕ). walk.Meets asked (last_chunk_input mode number xs)) bytes meets),
      )

  values_parts : (number n : ℕ) (sides : List Side) (source : ℕ) → 1024 < n → Parts n (left_len n) → Near HasValues number n sides source → Far HasValues number n sides source → HasValues number n sides source
  values_parts number n sides source more parts in_near in_far asked at from known here good k since to low high =
      let wanted : wants choice (1024 * number) n ≡ true = is_wanted number n k since to low high in
      let nears : List TreeNode = near_nodes choice number n sides source in
      let fars : List TreeNode = far_nodes choice number n sides source in
      let own_bytes : List ℕ = made (parent_node number n sides source) in
      let split = AreGood-split asked choice mode text at number n sides source wanted more good in
      let whole : AllByRecursion IsMadeWhole (parent_node number n sides source ∷ (nears ++ fars)) = all_whole asked number n sides source from wanted more known in
      let both : At text at (own_bytes ++ (flat_map made nears ++ flat_map made fars)) =
      subst (At text at) (ap (flat_map made) (subtree_nodes-parent choice number n sides source wanted more) ∙ ap (λ (xs : List ℕ). own_bytes ++ xs) (flat_map-append made nears fars)) here in
      let there : take 64 (drop at text) ≡ take 64 (drop from outline) =
      At_bytes text at 64 own_bytes whole.0 (At_first text at own_bytes (flat_map made nears ++ flat_map made fars) both) ∙ parent_is asked number n sides source from wanted more known in
      let kids : At text (at + 64) (flat_map made nears ++ flat_map made fars) = At_rest text at 64 own_bytes (flat_map made nears ++ flat_map made fars) whole.0 both in
      let parent : List ℕ = take 64 (drop from outline) in
      elim (cases_lt k (number + left_len n / 1024)) [
        | inl before ↦
            in_near (below left parent) (at + 64) (from + 64) (known_near asked number n sides source from wanted more known) (At_first text (at + 64) (flat_map made nears) (flat_map made fars) kids)
            (subst (λ (xs : List ℕ). AreGood (below left xs) (sides ++ left ∷ []) mode text (at + 64) nears) there split.near_good)
            k since to low (omega (arith, parts.whole, parts.some))
        | inr beyond ↦
            in_far (below right parent) (at + 64 + nodes_size nears) (from + 64 * (left_len n / 1024)) (known_far asked number n sides source from wanted more known)
            (At_rest text (at + 64) (nodes_size nears) (flat_map made nears) (flat_map made fars) (flat-size made nears (All-first IsMadeWhole nears fars whole.1)) kids)
            (subst (λ (xs : List ℕ). AreGood (below right xs) (sides ++ right ∷ []) mode text (at + 64 + nodes_size nears) fars) there split.far_good)
            k since to beyond (omega (arith, parts.whole, parts.below))
      ]

  pub made_values : AllByRecursion IsMadeWhole (chosen_nodes choice total) → At text 8 (flat_map made (chosen_nodes choice total)) → AreGood (asked_root root) [] mode text 8 (chosen_nodes choice total)
      → AreGoodBare mode root outline first chunks after
  made_values whole here good k since to =
      let known : Known (asked_root root) 0 total [] 8 8 = record { reaches = reaches-whole root outline; finds = Finds-all total; whole = whole } in
      by_halves HasValues values_one values_parts 0 total [] 8 (asked_root root) 8 8 known here good k since to (omega arith) (omega (arith, ranges.within))
