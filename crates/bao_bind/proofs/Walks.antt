-- A walk through a blob's tree and a piece's parents together, step by step.
use Rattle.std.proofs.Common.{◌≡◌, ◌≢◌, ℕ, ◌+◌, ◌-◌, ◌/◌, ◌<◌, ◌≤◌, List, length, take, drop, Some, Option, Bool, false, refl, sym, ap, subst, ◌∙◌}
use Rattle.std.specs.Prelude.{Contains}
use Rattle.std.proofs.lemmas.List.{drop_at, take_at}
use Rattle.b3word.specs.declared.input.Input.{Input}
use Rattle.b3word.specs.Compression.{cv}
use Rattle.b3word.proofs.Ranges.{length-cv}
use Rattle.b3tree.specs.declared.mode.Mode.{Mode}
use Rattle.b3tree.specs.Chunk.{last_chunk_input}
use Rattle.b3tree.specs.Tree.{left_len, parent_input, subtree_cv, top_input}
use Rattle.b3tree.proofs.TopInput.{top_input-chunk}
use Rattle.bao_text.specs.Nodes.{left, right}
use Rattle.bao_check.specs.Accepted.{part_value}
use Rattle.bao_check.specs.Inputs.{Names, marked, whole_chunk}
use Rattle.bao_check.specs.Ways.{LeadsTo}
use Rattle.bao_check.proofs.Binding.{left_there, length-part_value, parent_not_chunk, parent_there, right_there, top_parent}
use Rattle.bao_check.proofs.Marked.{SameParts, same_parts}
use Rattle.bao_check.proofs.Naming.{last_there}
use Rattle.bao_check.proofs.SubtreeInputs.{subtree_inputs, subtree_inputs-chunk, subtree_parent}
use Rattle.bao_check.proofs.Ways.{AtChunk, AtParent, way_chunk, way_parent}
use Rattle.bao_bind.specs.declared.pair.Pair.{Pair}
use Rattle.bao_bind.specs.Search.{Finds, TreeHasChunk, part_inputs}
use Rattle.bao_bind.proofs.TreeChunks.{chunk_left, chunk_right, chunk_whole}
use Rattle.bao_bind.proofs.CollidingPairs.{Finds-within, Names-by}

pub part_subtree : (top : Bool) (mode : Mode) (first : ℕ) (s : List ℕ) → subtree_inputs top mode first s ≡ part_inputs top mode first s
unfolding subtree_inputs
part_subtree top mode first s = refl

-- an input of the tree over s is one of the part's
pub part_there : (top : Bool) (mode : Mode) (first : ℕ) (s : List ℕ) (x : Input) → Contains (subtree_inputs top mode first s) x → Contains (part_inputs top mode first s) x
part_there top mode first s x h = subst (λ (xs : List Input). Contains xs x) (part_subtree top mode first s) h

pub there_part : (top : Bool) (mode : Mode) (first : ℕ) (s : List ℕ) (x : Input) → Contains (part_inputs top mode first s) x → Contains (subtree_inputs top mode first s) x
there_part top mode first s x h = subst (λ (xs : List Input). Contains xs x) (sym (part_subtree top mode first s)) h

chunk_there : (top : Bool) (mode : Mode) (first : ℕ) (s : List ℕ) (x : Input) → length s ≤ 1024 → Contains (whole_chunk top mode first s) x → Contains (part_inputs top mode first s) x
chunk_there top mode first s x one h =
    part_there top mode first s x (subst (λ (xs : List Input). Contains xs x) (sym (subtree_inputs-chunk top mode first s one)) h)

-- the input that a parent's bytes make
abbrev pub parent_of : Mode → List ℕ → Input
parent_of mode parent = parent_input mode (part_value left parent) (part_value right parent)

-- what a search through the tree over s and the n bytes from chunk `from` on tells, where the parents lead
-- down to the chunk and both have one value at the top
abbrev pub Searches : (ℕ → Option (List ℕ)) → List Input → Mode → Bool → List ℕ → ℕ → List ℕ → Option Pair → ℕ → List ℕ → ℕ → ℕ → Type 0
Searches parents theirs mode top value number bytes r first s from n =
    LeadsTo parents theirs mode top value from n number bytes → cv (marked top (top_input mode first s)) ≡ value
    → Finds (part_inputs top mode first s) theirs (TreeHasChunk first s from n number bytes) r

-- of a part that is made in another way
pub searches_same : (parents : ℕ → Option (List ℕ)) (theirs : List Input) (mode : Mode) (top : Bool) (value : List ℕ) (number : ℕ) (bytes : List ℕ) (r : Option Pair)
    (a first : ℕ) (t s : List ℕ) (b from m n : ℕ) → a ≡ first → t ≡ s → b ≡ from → m ≡ n
    → Searches parents theirs mode top value number bytes r a t b m → Searches parents theirs mode top value number bytes r first s from n
searches_same parents theirs mode top value number bytes r a first t s b from m n a_is t_is b_is m_is search =
    let F : ℕ → List ℕ → ℕ → ℕ → Type 0 = Searches parents theirs mode top value number bytes r in
    subst (λ (x : ℕ). F x s from n) a_is
    (subst (λ (x : List ℕ). F a x from n) t_is
    (subst (λ (x : ℕ). F a t x n) b_is
    (subst (λ (x : ℕ). F a t b x) m_is search)))

module _ (parents : ℕ → Option (List ℕ)) (theirs : List Input) (mode : Mode) (top : Bool) (value : List ℕ) (from n number : ℕ) (bytes : List ℕ)
    (w : LeadsTo parents theirs mode top value from n number bytes) (first : ℕ) (s : List ℕ) (same : cv (marked top (top_input mode first s)) ≡ value) where
  abbrev ours : List Input
  ours = part_inputs top mode first s

  -- a chunk against a chunk
  pub chunk_chunk : (r : Option Pair) → n ≤ 1024 → length s ≤ 1024
      → (cv (marked top (last_chunk_input mode first s)) ≡ cv (marked top (last_chunk_input mode number bytes))
      → Finds (whole_chunk top mode first s) (whole_chunk top mode number bytes) ((first ≡ number) × (s ≡ bytes)) r)
      → Finds ours theirs (TreeHasChunk first s from n number bytes) r
  chunk_chunk r small one search =
      let at : AtChunk theirs mode top value from number bytes = way_chunk parents theirs mode top value from n number bytes small w in
      let values : cv (marked top (last_chunk_input mode first s)) ≡ cv (marked top (last_chunk_input mode number bytes)) =
      ap (λ (x : Input). cv (marked top x)) (sym (top_input-chunk mode first s one)) ∙ same ∙ sym at.value_is in
      Finds-within (whole_chunk top mode first s) (whole_chunk top mode number bytes) ours theirs ((first ≡ number) × (s ≡ bytes)) (TreeHasChunk first s from n number bytes) r
      (λ x h. chunk_there top mode first s x one h) at.inputs_are (chunk_whole first s from n number bytes one) (search values)

  -- a parent of ours against a chunk
  pub parent_chunk : (x y : Input) → n ≤ 1024 → 1024 < length s → x ≡ marked top (top_input mode first s) → y ≡ marked top (last_chunk_input mode number bytes) → Names ours theirs x y
  parent_chunk x y small many x_is y_is =
      let at : AtChunk theirs mode top value from number bytes = way_chunk parents theirs mode top value from n number bytes small w in
      let own : marked top (top_input mode first s) ≡ marked top (subtree_parent mode first s) = ap (marked top) (top_parent mode first s many) in
      Names-by ours theirs x y (marked top (subtree_parent mode first s)) (marked top (last_chunk_input mode number bytes)) (x_is ∙ own) y_is
      (part_there top mode first s (marked top (subtree_parent mode first s)) (parent_there top mode first s many))
      (at.inputs_are (marked top (last_chunk_input mode number bytes)) (last_there top mode number bytes))
      (ap cv (sym own) ∙ same ∙ sym at.value_is)
      (λ e. parent_not_chunk top mode (subtree_cv mode first (take (left_len (length s)) s)) (subtree_cv mode (first + left_len (length s) / 1024) (drop (left_len (length s)) s)) number bytes e)

  -- at a parent on the way
  pub at_parent : 1024 < n → AtParent parents theirs mode top value from n number bytes
  at_parent more = way_parent parents theirs mode top value from n number bytes more w

  same_parent : (parent : List ℕ) (more : 1024 < n) → parents (from + left_len n / 1024) ≡ Some parent → (at_parent more).parent ≡ parent
  same_parent parent more there = let e : Some (at_parent more).parent ≡ Some parent = sym (at_parent more).there ∙ there in cc

  -- a chunk of ours against a parent
  pub chunk_parent : (parent : List ℕ) (x y : Input) → 1024 < n → parents (from + left_len n / 1024) ≡ Some parent → length s ≤ 1024
      → x ≡ marked top (top_input mode first s) → y ≡ marked top (parent_of mode parent) → Names ours theirs x y
  chunk_parent parent x y more there one x_is y_is =
      let at : AtParent parents theirs mode top value from n number bytes = at_parent more in
      let is : parent_of mode at.parent ≡ parent_of mode parent = ap (parent_of mode) (same_parent parent more there) in
      let own : marked top (top_input mode first s) ≡ marked top (last_chunk_input mode first s) = ap (marked top) (top_input-chunk mode first s one) in
      Names-by ours theirs x y (marked top (last_chunk_input mode first s)) (marked top (parent_of mode at.parent)) (x_is ∙ own) (y_is ∙ ap (marked top) (sym is))
      (chunk_there top mode first s (marked top (last_chunk_input mode first s)) one (last_there top mode first s)) at.input_is
      (ap cv (sym own) ∙ same ∙ sym at.value_is)
      (λ e. parent_not_chunk top mode (part_value left at.parent) (part_value right at.parent) first s (sym e))

  -- two parents that differ
  pub parents_differ : (parent : List ℕ) (x y : Input) → 1024 < n → parents (from + left_len n / 1024) ≡ Some parent → 1024 < length s
      → x ≡ marked top (top_input mode first s) → y ≡ marked top (parent_of mode parent) → x ≢ y → Names ours theirs x y
  parents_differ parent x y more there many x_is y_is differ =
      let at : AtParent parents theirs mode top value from n number bytes = at_parent more in
      let is : parent_of mode at.parent ≡ parent_of mode parent = ap (parent_of mode) (same_parent parent more there) in
      let own : marked top (top_input mode first s) ≡ marked top (subtree_parent mode first s) = ap (marked top) (top_parent mode first s many) in
      Names-by ours theirs x y (marked top (subtree_parent mode first s)) (marked top (parent_of mode at.parent)) (x_is ∙ own) (y_is ∙ ap (marked top) (sym is))
      (part_there top mode first s (marked top (subtree_parent mode first s)) (parent_there top mode first s many)) at.input_is
      (ap cv (sym own) ∙ same ∙ sym at.value_is)
      (λ e. differ (x_is ∙ own ∙ e ∙ ap (marked top) is ∙ sym y_is))

  abbrev l : ℕ
  l = left_len (length s)

  abbrev near : List ℕ
  near = subtree_cv mode first (take l s)

  abbrev far : List ℕ
  far = subtree_cv mode (first + l / 1024) (drop l s)

  -- two that are the same have the same two values
  record SameValues (parent : List ℕ) : Type 0 where
    near_is : near ≡ part_value left parent
    far_is : far ≡ part_value right parent

  same_values : (parent : List ℕ) (x y : Input) → 1024 < length s → x ≡ marked top (top_input mode first s) → y ≡ marked top (parent_of mode parent) → x ≡ y → SameValues parent
  same_values parent x y many x_is y_is equal =
      let own : marked top (top_input mode first s) ≡ marked top (subtree_parent mode first s) = ap (marked top) (top_parent mode first s many) in
      let parts : SameParts (subtree_parent mode first s) (parent_of mode parent) =
      same_parts top (subtree_parent mode first s) (parent_of mode parent) (sym own ∙ sym x_is ∙ equal ∙ y_is) in
      let eight : length near ≡ 8 = length-cv (top_input mode first (take l s)) in
      let eight_left : length (part_value left parent) ≡ 8 = length-part_value left parent in
      record {
        near_is = sym (take_at near far 8 eight) ∙ ap (take 8) parts.m ∙ take_at (part_value left parent) (part_value right parent) 8 eight_left;
        far_is = sym (drop_at near far 8 eight) ∙ ap (drop 8) parts.m ∙ drop_at (part_value left parent) (part_value right parent) 8 eight_left;
      }

  -- then the search goes on at the left
  pub goes_left : (r : Option Pair) (parent : List ℕ) (x y : Input) → 1024 < n → parents (from + left_len n / 1024) ≡ Some parent → 1024 < length s
      → x ≡ marked top (top_input mode first s) → y ≡ marked top (parent_of mode parent) → x ≡ y → number < from + left_len n / 1024
      → Searches parents theirs mode false (part_value left parent) number bytes r first (take l s) from (left_len n)
      → Finds ours theirs (TreeHasChunk first s from n number bytes) r
  goes_left r parent x y more there many x_is y_is equal before search =
      let values : SameValues parent = same_values parent x y many x_is y_is equal in
      let way : LeadsTo parents theirs mode false (part_value left parent) from (left_len n) number bytes =
      subst (λ (p : List ℕ). LeadsTo parents theirs mode false (part_value left p) from (left_len n) number bytes) (same_parent parent more there) ((at_parent more).near before) in
      Finds-within (part_inputs false mode first (take l s)) theirs ours theirs (TreeHasChunk first (take l s) from (left_len n) number bytes) (TreeHasChunk first s from n number bytes) r
      (λ z h. part_there top mode first s z (left_there top mode first s many z (there_part false mode first (take l s) z h)))
      (λ z h. h) (chunk_left first s from n number bytes many more before) (search way values.near_is)

  -- or at the right
  pub goes_right : (r : Option Pair) (parent : List ℕ) (x y : Input) → 1024 < n → parents (from + left_len n / 1024) ≡ Some parent → 1024 < length s
      → x ≡ marked top (top_input mode first s) → y ≡ marked top (parent_of mode parent) → x ≡ y → from + left_len n / 1024 ≤ number
      → Searches parents theirs mode false (part_value right parent) number bytes r (first + l / 1024) (drop l s) (from + left_len n / 1024) (n - left_len n)
      → Finds ours theirs (TreeHasChunk first s from n number bytes) r
  goes_right r parent x y more there many x_is y_is equal after search =
      let values : SameValues parent = same_values parent x y many x_is y_is equal in
      let way : LeadsTo parents theirs mode false (part_value right parent) (from + left_len n / 1024) (n - left_len n) number bytes =
      subst (λ (p : List ℕ). LeadsTo parents theirs mode false (part_value right p) (from + left_len n / 1024) (n - left_len n) number bytes) (same_parent parent more there) ((at_parent more).far after) in
      Finds-within (part_inputs false mode (first + l / 1024) (drop l s)) theirs ours theirs
      (TreeHasChunk (first + l / 1024) (drop l s) (from + left_len n / 1024) (n - left_len n) number bytes) (TreeHasChunk first s from n number bytes) r
      (λ z h. part_there top mode first s z (right_there top mode first s many z (there_part false mode (first + l / 1024) (drop l s) z h)))
      (λ z h. h) (chunk_right first s from n number bytes many more) (search way values.far_is)
