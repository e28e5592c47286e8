-- What an encoding has of a subtree, at its top: a chunk, a parent and its two parts, or nothing.
use Rattle.std.proofs.Common.{◌≡◌, ℕ, ◌+◌, ◌-◌, ◌*◌, ◌/◌, ◌<◌, ◌≤◌, None, Some, Bool, List, [], ◌∷◌, ◌++◌, length, take, drop, true, false, refl, sym, ap, subst, ◌∙◌, arith, length-drop}
use Rattle.std.specs.List.{Contains}
use Rattle.std.proofs.lemmas.Bool.{cases_Bool}
use Rattle.std.proofs.lemmas.List.{length-take-le}
use Rattle.std.proofs.lemmas.List.Elements.{Contains-append_left}
use Rattle.b3word.specs.declared.input.Input.{Input}
use Rattle.b3word.specs.Compression.{cv}
use Rattle.b3tree.specs.declared.mode.Mode.{Mode}
use Rattle.b3tree.specs.Bytes.{words_of}
use Rattle.b3tree.specs.Chunk.{last_chunk_input}
use Rattle.b3tree.specs.Tree.{left_len, parent_input}
use Rattle.b3tree.specs.Valid.{AreBytes}
use Rattle.b3tree.proofs.BlockWords.{AreBytes-drop, AreBytes-take}
use Rattle.bao_text.specs.declared.choice.Choice.{Choice}
use Rattle.bao_text.specs.Choice.{chunk_count, of_slice, wants}
use Rattle.bao_text.specs.Cut.{claimed}
use Rattle.bao_text.specs.Nodes.{TreeNode, left, placed_nodes, right, subtree_nodes, subtree_size}
use Rattle.bao_text.proofs.SubtreeNodes.{parent_node, subtree_nodes-parent, subtree_nodes-unwanted}
use Rattle.bao_text.proofs.SubtreeText.{Parts, left_len-Parts}
use Rattle.bao_check.specs.Accepted.{IsAccepted, part_value, places_of, slice_nodes}
use Rattle.bao_check.specs.HasPart.{HasPart, asked_of, part_nodes}
use Rattle.bao_check.specs.Inputs.{is_top, marked, text_inputs, whole_chunk}
use Rattle.bao_check.specs.Parents.{parent_in, parent_place}
use Rattle.bao_check.specs.Pieces.{chunk_in}
use Rattle.bao_check.specs.Spans.{chunk_place}
use Rattle.bao_check.specs.Walk.{AreGood}
use Rattle.bao_check.proofs.Certified.{is_top-below, same_chunk, text_inputs-far, text_inputs-near}
use Rattle.bao_check.proofs.Lists.{Contains-head, Contains-tail, nodes_size}
use Rattle.bao_check.proofs.Locating.{chunk_in-place, count_parts}
use Rattle.bao_check.proofs.Parenting.{parent_in-place, parent_place-here}
use Rattle.bao_check.proofs.Parts.{AreGood-split, PartsGood, placed_nodes-parent}
use Rattle.bao_check.proofs.EachNode.{chunk_node, leaf_nodes, leaf_without}
use Rattle.bao_check.proofs.Presence.{chunk_far, chunk_near, far_unwanted, near_unwanted, parent_far, parent_near}

-- the input that a parent's bytes make
abbrev pub input_of : Mode → List ℕ → Input
input_of mode parent = parent_input mode (part_value left parent) (part_value right parent)

-- an accepted slice has the whole tree of the length that it claims
abbrev pub part_whole : (mode : Mode) (root text : List ℕ) (start len : ℕ) → IsAccepted mode root text (slice_nodes text start len)
    → HasPart mode (of_slice (claimed text) start len) text (places_of (slice_nodes text start len)) true (words_of 8 root) 0 (claimed text)
part_whole mode root text start len accepted = record {
  sides = [];
  source = 8;
  at = 8;
  top_is = refl;
  good = accepted.good;
  chunks_are = λ k low high. refl;
  parents_are = λ m low high. refl;
  inputs_are = λ x h. h;
}

no_inputs : (x : Input) → Contains [] x → ⊥
no_inputs x h = omega (arith, h.1)

-- what is known of a chunk that an encoding has
pub record Leaf (mode : Mode) (top : Bool) (value : List ℕ) (first n : ℕ) (bytes : List ℕ) : Type 0 where
  pub meets : cv (marked top (last_chunk_input mode first bytes)) ≡ value
  pub size : length bytes ≡ n

-- of a parent, and of its two parts
pub record Fork {mode : Mode} {choice : Choice} {text : List ℕ} {places : List (ℕ × TreeNode)} {top : Bool} {value : List ℕ} {first n : ℕ}
    (part : HasPart mode choice text places top value first n) (parent : List ℕ) : Type 0 where
  pub meets : cv (marked top (input_of mode parent)) ≡ value
  pub input_there : Contains (text_inputs mode text places) (marked top (input_of mode parent))
  pub size : length parent ≡ 64
  pub bytes : AreBytes text → AreBytes parent
  pub near : HasPart mode choice text places false (part_value left parent) first (left_len n)
  pub far : HasPart mode choice text places false (part_value right parent) (first + left_len n / 1024) (n - left_len n)
  pub nodes_are : part_nodes part ≡ parent_node first n part.sides part.source ∷ (part_nodes near ++ part_nodes far)

-- of a parent that it hasn't: it has none below, whatever is asked for there
pub record NoFork {mode : Mode} {choice : Choice} {text : List ℕ} {places : List (ℕ × TreeNode)} {top : Bool} {value : List ℕ} {first n : ℕ}
    (part : HasPart mode choice text places top value first n) : Type 0 where
  pub nodes_are : part_nodes part ≡ []
  pub near : (other : List ℕ) → HasPart mode choice text places false other first (left_len n)
  pub far : (other : List ℕ) → HasPart mode choice text places false other (first + left_len n / 1024) (n - left_len n)

module _ (mode : Mode) (choice : Choice) (text : List ℕ) (places : List (ℕ × TreeNode)) (top : Bool) (value : List ℕ) (first n : ℕ)
    (part : HasPart mode choice text places top value first n) where
  abbrev all_nodes : List TreeNode
  all_nodes = subtree_nodes choice first n part.sides part.source

  chunk_same : (k : ℕ) → first ≤ k → k < first + chunk_count n → chunk_in text places k ≡ chunk_in text (placed_nodes part.at all_nodes) k
  chunk_same k low high = grind (arith, chunk_in-place)

  parent_same : (m : ℕ) → first < m → m < first + chunk_count n → parent_in text places m ≡ parent_in text (placed_nodes part.at all_nodes) m
  parent_same m low high = grind (arith, parent_in-place)

  -- at a chunk
  module _ (one : n ≤ 1024) (bytes : List ℕ) (there : chunk_in text places first ≡ Some bytes) where
    some : first < first + chunk_count n
    some = omega arith

    local : chunk_in text (placed_nodes part.at all_nodes) first ≡ Some bytes
    local = sym (chunk_same first (omega arith) some) ∙ there

    node : all_nodes ≡ chunk_node first n part.sides part.source ∷ []
    node = grind (arith, local, cases_Bool, subtree_nodes-unwanted, leaf_without, leaf_nodes)

    own_good : AreGood (asked_of top value) part.sides mode text part.at (chunk_node first n part.sides part.source ∷ [])
    own_good = subst (λ (xs : List TreeNode). AreGood (asked_of top value) part.sides mode text part.at xs) node part.good

    bytes_are : take n (drop part.at text) ≡ bytes
    bytes_are = grind (arith, same_chunk, node, local)

    pub leaf_of : Leaf mode top value first n bytes
    leaf_of = record {
      meets = ap (λ (b : List ℕ). cv (marked top (last_chunk_input mode first b))) (sym bytes_are) ∙ own_good.0.1.0 refl;
      size = sym (ap length bytes_are) ∙ length-take-le n (drop part.at text) (omega (arith, own_good.0.0, length-drop part.at text));
    }

    -- its inputs are the encoding's
    pub leaf_inputs : (x : Input) → Contains (whole_chunk top mode first bytes) x → Contains (text_inputs mode text places) x
    leaf_inputs x h =
        let own : List Input = whole_chunk (is_top part.sides) mode first (take n (drop part.at text)) in
        part.inputs_are x (subst (λ (xs : List TreeNode). Contains (text_inputs mode text (placed_nodes part.at xs)) x) (sym node)
        (Contains-append_left own [] x (subst (λ (xs : List Input). Contains xs x) (λ i. whole_chunk (part.top_is i) mode first (sym bytes_are i)) h)))

  -- at more than a chunk
  module _ (more : 1024 < n) where
    abbrev middle : ℕ
    middle = first + left_len n / 1024

    abbrev near_nodes : List TreeNode
    near_nodes = subtree_nodes choice first (left_len n) (part.sides ++ left ∷ []) (part.source + 64)

    abbrev far_nodes : List TreeNode
    far_nodes = subtree_nodes choice middle (n - left_len n) (part.sides ++ right ∷ []) (part.source + 64 + subtree_size (left_len n))

    abbrev far_at : ℕ
    far_at = part.at + 64 + nodes_size near_nodes

    abbrev near : List (ℕ × TreeNode)
    near = placed_nodes (part.at + 64) near_nodes

    abbrev far : List (ℕ × TreeNode)
    far = placed_nodes far_at far_nodes

    abbrev own : ℕ × TreeNode
    own = (part.at, parent_node first n part.sides part.source)

    parts : Parts n (left_len n)
    parts = left_len-Parts n more

    counts : chunk_count n ≡ left_len n / 1024 + chunk_count (n - left_len n)
    counts = count_parts n more

    near_counts : chunk_count (left_len n) ≡ left_len n / 1024
    near_counts = omega (arith, parts.whole, parts.some)

    some_near : 0 < left_len n / 1024
    some_near = omega (arith, parts.whole, parts.some)

    -- where it has the chunks and parents of the two parts
    near_chunks : (k : ℕ) → first ≤ k → k < first + chunk_count (left_len n) → chunk_place places k ≡ chunk_place near k
    near_chunks k low high = part.chunks_are k low (omega (arith, high, counts, near_counts)) ∙ chunk_near choice first n part.sides part.source part.at more k (omega (arith, high, near_counts))

    near_parents : (m : ℕ) → first < m → m < first + chunk_count (left_len n) → parent_place places m ≡ parent_place near m
    near_parents m low high = part.parents_are m low (omega (arith, high, counts, near_counts)) ∙ parent_near choice first n part.sides part.source part.at more m (omega (arith, high, near_counts))

    far_chunks : (k : ℕ) → middle ≤ k → k < middle + chunk_count (n - left_len n) → chunk_place places k ≡ chunk_place far k
    far_chunks k low high = part.chunks_are k (omega (arith, low)) (omega (arith, high, counts)) ∙ chunk_far choice first n part.sides part.source part.at more k low

    far_parents : (m : ℕ) → middle < m → m < middle + chunk_count (n - left_len n) → parent_place places m ≡ parent_place far m
    far_parents m low high = part.parents_are m (omega (arith, low)) (omega (arith, high, counts)) ∙ parent_far choice first n part.sides part.source part.at more m low

    here : parent_in text places middle ≡ parent_in text (placed_nodes part.at all_nodes) middle
    here = parent_same middle (omega (arith, some_near)) (omega (arith, counts))

    known_here : wants choice (1024 * first) n ≡ true → parent_in text places middle ≡ Some (take 64 (drop part.at text))
    known_here wanted = grind (arith, here, parent_in-place, parent_place-here, wanted)

    -- it has this parent where it has a chunk
    pub fork_there : (number : ℕ) (bytes : List ℕ) → first ≤ number → number < first + chunk_count n → chunk_in text places number ≡ Some bytes
        → parent_in text places middle ≡ Some (take 64 (drop part.at text))
    fork_there number bytes low high there = grind (arith, cases_Bool, known_here, subtree_nodes-unwanted, chunk_same)

    -- where it has no parent
    module _ (none : parent_in text places middle ≡ None) where
      skipped : wants choice (1024 * first) n ≡ false
      skipped = grind (arith, cases_Bool, known_here)

      none_here : all_nodes ≡ []
      none_here = subtree_nodes-unwanted choice first n part.sides part.source skipped

      none_near : near_nodes ≡ []
      none_near = subtree_nodes-unwanted choice first (left_len n) (part.sides ++ left ∷ []) (part.source + 64) (near_unwanted choice first n part.sides part.source part.at more skipped)

      none_far : far_nodes ≡ []
      none_far = grind (arith, subtree_nodes-unwanted, far_unwanted, skipped)

      pub no_fork : NoFork part
      no_fork = record {
        nodes_are = none_here;
        near = λ other. record {
          sides = part.sides ++ left ∷ [];
          source = part.source + 64;
          at = part.at + 64;
          top_is = is_top-below part.sides left;
          good = subst (λ (xs : List TreeNode). AreGood (asked_of false other) (part.sides ++ left ∷ []) mode text (part.at + 64) xs) (sym none_near) tt;
          chunks_are = near_chunks;
          parents_are = near_parents;
          inputs_are = λ x h. absurd (no_inputs x (subst (λ (xs : List TreeNode). Contains (text_inputs mode text (placed_nodes (part.at + 64) xs)) x) none_near h));
        };
        far = λ other. record {
          sides = part.sides ++ right ∷ [];
          source = part.source + 64 + subtree_size (left_len n);
          at = far_at;
          top_is = is_top-below part.sides right;
          good = subst (λ (xs : List TreeNode). AreGood (asked_of false other) (part.sides ++ right ∷ []) mode text far_at xs) (sym none_far) tt;
          chunks_are = far_chunks;
          parents_are = far_parents;
          inputs_are = λ x h. absurd (no_inputs x (subst (λ (xs : List TreeNode). Contains (text_inputs mode text (placed_nodes far_at xs)) x) none_far h));
        };
      }

    -- where it has one
    module _ (parent : List ℕ) (known : parent_in text places middle ≡ Some parent) where
      wanted : wants choice (1024 * first) n ≡ true
      wanted = grind (arith, cases_Bool, skipped, subtree_nodes-unwanted, here)

      parent_is : take 64 (drop part.at text) ≡ parent
      parent_is = let e : Some (take 64 (drop part.at text)) ≡ Some parent = sym (known_here wanted) ∙ known in cc

      split : PartsGood (asked_of top value) part.sides mode text part.at near_nodes far_nodes
      split = AreGood-split (asked_of top value) choice mode text part.at first n part.sides part.source wanted more part.good

      places_are : placed_nodes part.at all_nodes ≡ own ∷ (near ++ far)
      places_are = placed_nodes-parent choice first n part.sides part.source part.at wanted more

      among : (z : Input) → Contains (text_inputs mode text (own ∷ (near ++ far))) z → Contains (text_inputs mode text places) z
      among z h = part.inputs_are z (subst (λ (ps : List (ℕ × TreeNode)). Contains (text_inputs mode text ps) z) (sym places_are) h)

      abbrev own_input : Input
      own_input = marked (is_top part.sides) (input_of mode (take 64 (drop part.at text)))

      further : (z : Input) → Contains (text_inputs mode text (near ++ far)) z → Contains (text_inputs mode text places) z
      further z h = among z (Contains-tail (text_inputs mode text (near ++ far)) own_input z h)

      abbrev near_part : HasPart mode choice text places false (part_value left parent) first (left_len n)
      near_part = record {
        sides = part.sides ++ left ∷ [];
        source = part.source + 64;
        at = part.at + 64;
        top_is = is_top-below part.sides left;
        good = subst (λ (p : List ℕ). AreGood (asked_of false (part_value left p)) (part.sides ++ left ∷ []) mode text (part.at + 64) near_nodes) parent_is split.near_good;
        chunks_are = near_chunks;
        parents_are = near_parents;
        inputs_are = λ x h. further x (text_inputs-near mode text near far x h);
      }

      abbrev far_part : HasPart mode choice text places false (part_value right parent) middle (n - left_len n)
      far_part = record {
        sides = part.sides ++ right ∷ [];
        source = part.source + 64 + subtree_size (left_len n);
        at = far_at;
        top_is = is_top-below part.sides right;
        good = subst (λ (p : List ℕ). AreGood (asked_of false (part_value right p)) (part.sides ++ right ∷ []) mode text far_at far_nodes) parent_is split.far_good;
        chunks_are = far_chunks;
        parents_are = far_parents;
        inputs_are = λ x h. further x (text_inputs-far mode text near far x h);
      }

      pub fork_of : Fork part parent
      fork_of = record {
        meets = ap (λ (p : List ℕ). cv (marked top (input_of mode p))) (sym parent_is) ∙ split.meets;
        input_there = subst (Contains (text_inputs mode text places)) (λ i. marked (sym part.top_is i) (input_of mode (parent_is i)))
            (among own_input (Contains-head (text_inputs mode text (near ++ far)) own_input));
        size = sym (ap length parent_is) ∙ length-take-le 64 (drop part.at text) (omega (arith, split.there, length-drop part.at text));
        bytes = λ valid. subst AreBytes parent_is (AreBytes-take 64 (drop part.at text) (AreBytes-drop part.at text valid));
        near = near_part;
        far = far_part;
        nodes_are = subtree_nodes-parent choice first n part.sides part.source wanted more;
      }
