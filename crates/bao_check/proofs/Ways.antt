-- The way down to a chunk of an accepted encoding: what it has at a chunk and at a parent.
use Rattle.std.proofs.Common.{◌≡◌, ℕ, ◌+◌, ◌-◌, ◌/◌, ◌<◌, ◌≤◌, Some, Option, Bool, List, take, drop, true, false, refl, sym, ap, subst, ◌∙◌, arith}
use Rattle.std.specs.List.{Contains}
use Rattle.b3word.specs.declared.input.Input.{Input}
use Rattle.b3word.specs.Compression.{cv}
use Rattle.b3tree.specs.declared.mode.Mode.{Mode}
use Rattle.b3tree.specs.Bytes.{words_of}
use Rattle.b3tree.specs.Chunk.{last_chunk_input}
use Rattle.b3tree.specs.Tree.{left_len, parent_input}
use Rattle.bao_text.specs.Choice.{chunk_count, of_slice}
use Rattle.bao_text.specs.Cut.{claimed}
use Rattle.bao_text.specs.Nodes.{left, right}
use Rattle.bao_text.proofs.SubtreeText.{Parts, left_len-Parts}
use Rattle.bao_check.specs.Accepted.{IsAccepted, part_value, places_of, slice_nodes}
use Rattle.bao_check.specs.Inputs.{marked, text_inputs, whole_chunk}
use Rattle.bao_check.specs.Parents.{parent_in}
use Rattle.bao_check.specs.Pieces.{chunk_in}
use Rattle.bao_check.specs.Ways.{LeadsTo}
use Rattle.bao_check.proofs.Certified.{IsCertified, certified}
use Rattle.bao_check.proofs.Forks.{Fork, Leaf, fork_of, fork_there, leaf_inputs, leaf_of, part_whole}
use Rattle.bao_check.proofs.Locating.{count_parts}

-- from the top of an accepted encoding
pub way_whole : (mode : Mode) (root text : List ℕ) (start len number : ℕ) (bytes : List ℕ) → IsAccepted mode root text (slice_nodes text start len)
    → chunk_in text (places_of (slice_nodes text start len)) number ≡ Some bytes
    → LeadsTo (parent_in text (places_of (slice_nodes text start len))) (text_inputs mode text (places_of (slice_nodes text start len))) mode true (words_of 8 root) 0 (claimed text) number bytes
way_whole mode root text start len number bytes accepted there =
    let found : IsCertified mode root text (places_of (slice_nodes text start len)) (claimed text) number bytes = certified mode root text start len accepted number bytes there in
    record {
      choice = of_slice (claimed text) start len;
      text = text;
      places = places_of (slice_nodes text start len);
      part = part_whole mode root text start len accepted;
      first = omega arith;
      last = omega (arith, found.within);
      there = there;
      parents_are = λ m low high. refl;
      inputs_are = λ x h. h;
    }

-- what is known of the chunk at the end of the way
pub record AtChunk (inputs : List Input) (mode : Mode) (top : Bool) (value : List ℕ) (from number : ℕ) (bytes : List ℕ) : Type 0 where
  pub here : from ≡ number
  pub value_is : cv (marked top (last_chunk_input mode number bytes)) ≡ value
  pub inputs_are : (x : Input) → Contains (whole_chunk top mode number bytes) x → Contains inputs x

-- and of a parent on it
pub record AtParent (parents : ℕ → Option (List ℕ)) (inputs : List Input) (mode : Mode) (top : Bool) (value : List ℕ) (from n number : ℕ) (bytes : List ℕ) : Type 0 where
  pub parent : List ℕ
  pub there : parents (from + left_len n / 1024) ≡ Some parent
  pub value_is : cv (marked top (parent_input mode (part_value left parent) (part_value right parent))) ≡ value
  pub input_is : Contains inputs (marked top (parent_input mode (part_value left parent) (part_value right parent)))
  pub near : number < from + left_len n / 1024 → LeadsTo parents inputs mode false (part_value left parent) from (left_len n) number bytes
  pub far : from + left_len n / 1024 ≤ number → LeadsTo parents inputs mode false (part_value right parent) (from + left_len n / 1024) (n - left_len n) number bytes

pub way_chunk : (parents : ℕ → Option (List ℕ)) (inputs : List Input) (mode : Mode) (top : Bool) (value : List ℕ) (from n number : ℕ) (bytes : List ℕ) → n ≤ 1024
    → LeadsTo parents inputs mode top value from n number bytes → AtChunk inputs mode top value from number bytes
way_chunk parents inputs mode top value from n number bytes one w =
    let here : from ≡ number = omega (arith, w.first, w.last) in
    let there : chunk_in w.text w.places from ≡ Some bytes = ap (chunk_in w.text w.places) here ∙ w.there in
    let leaf : Leaf mode top value from n bytes = leaf_of mode w.choice w.text w.places top value from n w.part one bytes there in
    record {
      here = here;
      value_is = ap (λ (k : ℕ). cv (marked top (last_chunk_input mode k bytes))) (sym here) ∙ leaf.meets;
      inputs_are = λ x h. w.inputs_are x (leaf_inputs mode w.choice w.text w.places top value from n w.part one bytes there x
          (subst (λ (k : ℕ). Contains (whole_chunk top mode k bytes) x) (sym here) h));
    }

pub way_parent : (parents : ℕ → Option (List ℕ)) (inputs : List Input) (mode : Mode) (top : Bool) (value : List ℕ) (from n number : ℕ) (bytes : List ℕ) → 1024 < n
    → LeadsTo parents inputs mode top value from n number bytes → AtParent parents inputs mode top value from n number bytes
way_parent parents inputs mode top value from n number bytes more w =
    let parts : Parts n (left_len n) = left_len-Parts n more in
    let counts : chunk_count n ≡ left_len n / 1024 + chunk_count (n - left_len n) = count_parts n more in
    let parent : List ℕ = take 64 (drop w.part.at w.text) in
    let known : parent_in w.text w.places (from + left_len n / 1024) ≡ Some parent =
    fork_there mode w.choice w.text w.places top value from n w.part more number bytes w.first w.last w.there in
    let fork : Fork w.part parent = fork_of mode w.choice w.text w.places top value from n w.part more parent known in
    record {
      parent = parent;
      there = w.parents_are (from + left_len n / 1024) (omega (arith, parts.whole, parts.some)) (omega (arith, counts, parts.below)) ∙ known;
      value_is = fork.meets;
      input_is = w.inputs_are (marked top (parent_input mode (part_value left parent) (part_value right parent))) fork.input_there;
      near = λ before. record {
        choice = w.choice;
        text = w.text;
        places = w.places;
        part = fork.near;
        first = w.first;
        last = omega (arith, before, parts.whole, parts.some);
        there = w.there;
        parents_are = λ m low high. w.parents_are m low (omega (arith, high, parts.below));
        inputs_are = w.inputs_are;
      };
      far = λ after. record {
        choice = w.choice;
        text = w.text;
        places = w.places;
        part = fork.far;
        first = after;
        last = omega (arith, w.last, counts);
        there = w.there;
        parents_are = λ m low high. w.parents_are m (omega (arith, low)) (omega (arith, high, counts));
        inputs_are = w.inputs_are;
      };
    }
