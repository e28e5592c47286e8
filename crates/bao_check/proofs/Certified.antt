-- What an accepted encoding has as a chunk, it certifies.
use Rattle.std.proofs.Common.{◌≡◌, ◌⊎◌, ℕ, ◌+◌, ◌-◌, ◌*◌, ◌/◌, ◌<◌, ◌≤◌, ◌==◌, ◌&&◌, None, Some, Bool, List, [], ◌∷◌, ◌++◌, length, take, drop, true, false, refl, sym, ap, subst, ◌∙◌, arith, inl, inr, length-drop}
use Rattle.std.specs.List.{AllByRecursion, Contains}
use Rattle.std.proofs.lemmas.Bool.{cases_Bool, eqb-true, le-ltb, lt-ltb}
use Rattle.std.proofs.lemmas.List.{append-nil, length-take-le}
use Rattle.std.proofs.lemmas.List.Concat.{flat_map-append}
use Rattle.std.proofs.lemmas.List.Elements.{Contains-append_left, Contains-append_right}
use Rattle.b3word.specs.declared.input.Input.{Input}
use Rattle.b3tree.specs.declared.mode.Mode.{Mode}
use Rattle.b3tree.specs.Bytes.{words_of}
use Rattle.b3tree.specs.Chunk.{last_chunk_input}
use Rattle.b3tree.specs.Tree.{left_len, parent_input}
use Rattle.b3tree.specs.Valid.{AreBytes}
use Rattle.b3tree.proofs.BlockWords.{AreBytes-drop, AreBytes-take}
use Rattle.bao_text.specs.declared.choice.Choice.{Choice}
use Rattle.bao_text.specs.Choice.{chunk_count, wants}
use Rattle.bao_text.specs.Cut.{claimed}
use Rattle.bao_text.specs.Nodes.{TreeNode, Side, chosen_nodes, chunk_nodes, left, placed_nodes, right, size, subtree_nodes, subtree_size}
use Rattle.bao_text.proofs.Halves.{Far, Near, far_nodes, near_nodes}
use Rattle.bao_text.proofs.SubtreeNodes.{parent_node, subtree_nodes-parent}
use Rattle.bao_text.proofs.SubtreeText.{Parts, left_len-Parts}
use Rattle.bao_check.specs.declared.asked.Asked.{Asked}
use Rattle.bao_check.specs.Accepted.{IsAccepted, bytes_at, part_value, places_of, slice_nodes}
use Rattle.bao_check.specs.Certificate.{Begins, Certificate, Follows, IsParent, Step, half, step_input}
use Rattle.bao_check.specs.Inputs.{is_top, marked, place_inputs, text_inputs, way_inputs, whole_chunk}
use Rattle.bao_check.specs.Pieces.{chunk_in}
use Rattle.bao_check.specs.Steps.{steps_to}
use Rattle.bao_check.specs.Walk.{AreGood, Meets}
use Rattle.bao_check.proofs.Lists.{Contains-cons_cases, Contains-head, Contains-tail, nodes_size}
use Rattle.bao_check.proofs.Locating.{count_left, count_parts}
use Rattle.bao_check.proofs.Parts.{AreGood-split, PartsGood, below, placed_nodes-parent}
use Rattle.bao_check.proofs.Stepping.{is_over-parent, steps_outside, steps_to-append}
use Rattle.bao_check.proofs.EachNode.{by_nodes, chunk_node}

-- the way goes to the right there
abbrev pub GoesRight : Step → Type 0
GoesRight step = step.side ≡ right

-- the first input on the way has the value that is asked for, and the others follow
abbrev pub Starts : Asked → Mode → List Step → Input → Type 0
Starts asked mode [] last = Meets asked last
Starts asked mode (step ∷ steps) last = Meets asked (step_input mode step) × Follows mode (half step) steps last

-- below a parent that is the value of its half
Follows-below : (side : Side) (bytes : List ℕ) (mode : Mode) (steps : List Step) (last : Input) → Starts (below side bytes) mode steps last
    → Follows mode (part_value side bytes) steps last
Follows-below side bytes mode [] last h = h
Follows-below side bytes mode (step ∷ steps) last h = h

-- under a root it is the root's
Begins-root : (mode : Mode) (root : List ℕ) (steps : List Step) (last : Input) → Starts (record { top = true; value = record { 0 = words_of 8 root } }) mode steps last
    → Begins mode root steps last
Begins-root mode root [] last h = h
Begins-root mode root (step ∷ steps) last h = h

-- The way down to chunk k, which is `bytes`, in the subtree of n bytes from chunk `number` on that has
-- these places.
record Way (asked : Asked) (mode : Mode) (text : List ℕ) (places : List (ℕ × TreeNode)) (number n k : ℕ) (bytes : List ℕ) : Type 0 where
  steps : List Step
  steps_are : steps ≡ steps_to text places k
  holds : Starts asked mode steps (last_chunk_input mode k bytes)
  inputs : (x : Input) → Contains (way_inputs asked.top mode steps k bytes) x → Contains (text_inputs mode text places) x
  parents : AreBytes text → AllByRecursion IsParent steps
  from : number ≤ k
  within : k + 1 ≤ number + chunk_count n
  size : length bytes ≤ 1024
  full : k + 1 < number + chunk_count n → length bytes ≡ 1024
  last : k + 1 ≡ number + chunk_count n → AllByRecursion GoesRight steps
  ends : k + 1 ≡ number + chunk_count n → 1024 * k + length bytes ≡ 1024 * number + n

-- a chunk among places after one another is among the first or the second
chunk_in-append : (text : List ℕ) (xs ys : List (ℕ × TreeNode)) (k : ℕ) (bytes : List ℕ) → chunk_in text (xs ++ ys) k ≡ Some bytes
    → (chunk_in text xs k ≡ Some bytes) ⊎ (chunk_in text ys k ≡ Some bytes)
chunk_in-append text [] ys k bytes h = inr h
chunk_in-append text (x ∷ xs) ys k bytes h = elim (cases_Bool (x.1.is_chunk && (x.1.number == k))) [
  | inl hit ↦ inl (rw hit (rw hit at h))
  | inr miss ↦
      elim (chunk_in-append text xs ys k bytes (rw miss at h)) [
        | inl first ↦ inl (rw miss first)
        | inr second ↦ inr second
      ]
]

-- no way begins below the top
pub is_top-below : (sides : List Side) (side : Side) → false ≡ is_top (sides ++ side ∷ [])
is_top-below [] side = refl
is_top-below (d ∷ sides) side = refl

-- that chunk is what the encoding has there
pub same_chunk : (text : List ℕ) (at number n : ℕ) (sides : List Side) (source k : ℕ) (bytes : List ℕ)
    → chunk_in text ((at, chunk_node number n sides source) ∷ []) k ≡ Some bytes → (number ≡ k) × (take n (drop at text) ≡ bytes)
same_chunk text at number n sides source k bytes there = grind (arith, cases_Bool, eqb-true)

way-here : (asked : Asked) (mode : Mode) (text : List ℕ) (at number n : ℕ) (sides : List Side) (source : ℕ)
    → asked.top ≡ is_top sides → n ≤ 1024 → at + n ≤ length text → Meets asked (last_chunk_input mode number (take n (drop at text)))
    → Way asked mode text ((at, chunk_node number n sides source) ∷ []) number n number (take n (drop at text))
way-here asked mode text at number n sides source top one fits meets =
    let rest : length (drop at text) ≡ length text - at = length-drop at text in
    let len : length (take n (drop at text)) ≡ n = length-take-le n (drop at text) (omega arith) in
    record {
      steps = [];
      steps_are = refl;
      holds = meets;
      inputs = λ x h. Contains-append_left (whole_chunk (is_top sides) mode number (take n (drop at text))) [] x
          (subst (λ (t : Bool). Contains (whole_chunk t mode number (take n (drop at text))) x) top h);
      parents = λ _. tt;
      from = omega arith;
      within = omega arith;
      size = omega arith;
      full = λ less. omega arith;
      last = λ _. tt;
      ends = λ _. omega arith;
    }

way-one : (asked : Asked) (mode : Mode) (text : List ℕ) (at number n : ℕ) (sides : List Side) (source k : ℕ) (bytes : List ℕ)
    → asked.top ≡ is_top sides → n ≤ 1024
    → AreGood asked sides mode text at (chunk_node number n sides source ∷ [])
    → chunk_in text ((at, chunk_node number n sides source) ∷ []) k ≡ Some bytes
    → Way asked mode text ((at, chunk_node number n sides source) ∷ []) number n k bytes
way-one asked mode text at number n sides source k bytes top one good there =
    let same : (number ≡ k) × (take n (drop at text) ≡ bytes) = same_chunk text at number n sides source k bytes there in
    let places : List (ℕ × TreeNode) = (at, chunk_node number n sides source) ∷ [] in
    subst (λ (j : ℕ). Way asked mode text places number n j bytes) same.0
    (subst (Way asked mode text places number n number) same.1
    (way-here asked mode text at number n sides source top one good.0.0 (good.0.1.0 refl)))

way-chunk : (asked : Asked) (choice : Choice) (mode : Mode) (text : List ℕ) (at number n : ℕ) (sides : List Side) (source k : ℕ) (bytes : List ℕ)
    → asked.top ≡ is_top sides → n ≤ 1024
    → AreGood asked sides mode text at (chunk_nodes choice number n sides source)
    → chunk_in text (placed_nodes at (chunk_nodes choice number n sides source)) k ≡ Some bytes
    → Way asked mode text (placed_nodes at (chunk_nodes choice number n sides source)) number n k bytes
way-chunk asked choice mode text at number n sides source k bytes top one good there =
    let P : List TreeNode → Type 0 = λ nodes. AreGood asked sides mode text at nodes → chunk_in text (placed_nodes at nodes) k ≡ Some bytes
    → Way asked mode text (placed_nodes at nodes) number n k bytes in
    elim (cases_Bool choice.chunks) [
      | inl with_chunks ↦
          let node : chunk_nodes choice number n sides source ≡ chunk_node number n sides source ∷ [] = rw with_chunks refl in
          subst P (sym node) (way-one asked mode text at number n sides source k bytes top one) good there
      | inr without ↦ let none : None ≡ Some bytes = rw without at there in cc
    ]

-- the compressions of a way from a parent on
inputs-step : (asked : Asked) (mode : Mode) (text : List ℕ) (q : ℕ × TreeNode) (near far own : List (ℕ × TreeNode)) (step : Step) (steps : List Step) (k : ℕ) (bytes : List ℕ)
    → ((x : Input) → Contains (text_inputs mode text own) x → Contains (text_inputs mode text (near ++ far)) x)
    → place_inputs mode text q ≡ marked asked.top (step_input mode step) ∷ []
    → ((x : Input) → Contains (way_inputs false mode steps k bytes) x → Contains (text_inputs mode text own) x)
    → (x : Input) → Contains (way_inputs asked.top mode (step ∷ steps) k bytes) x → Contains (text_inputs mode text (q ∷ (near ++ far))) x
inputs-step asked mode text q near far own step steps k bytes further first rest x h =
    subst (λ (xs : List Input). Contains (xs ++ text_inputs mode text (near ++ far)) x) (sym first)
    (elim (Contains-cons_cases (way_inputs false mode steps k bytes) (marked asked.top (step_input mode step)) x h) [
      | inl same ↦ subst (Contains (marked asked.top (step_input mode step) ∷ text_inputs mode text (near ++ far))) (sym same)
          (Contains-head (text_inputs mode text (near ++ far)) (marked asked.top (step_input mode step)))
      | inr later ↦ Contains-tail (text_inputs mode text (near ++ far)) (marked asked.top (step_input mode step)) x (further x (rest x later))
    ])

-- the parts' compressions are among the whole's
pub text_inputs-near : (mode : Mode) (text : List ℕ) (near far : List (ℕ × TreeNode)) (x : Input) → Contains (text_inputs mode text near) x
    → Contains (text_inputs mode text (near ++ far)) x
text_inputs-near mode text near far x h =
    subst (λ (xs : List Input). Contains xs x) (sym (flat_map-append (place_inputs mode text) near far))
    (Contains-append_left (text_inputs mode text near) (text_inputs mode text far) x h)

pub text_inputs-far : (mode : Mode) (text : List ℕ) (near far : List (ℕ × TreeNode)) (x : Input) → Contains (text_inputs mode text far) x
    → Contains (text_inputs mode text (near ++ far)) x
text_inputs-far mode text near far x h =
    subst (λ (xs : List Input). Contains xs x) (sym (flat_map-append (place_inputs mode text) near far))
    (Contains-append_right (text_inputs mode text near) (text_inputs mode text far) x h)

-- a parent's bytes, where it is there
parent_there : (text : List ℕ) (at : ℕ) → at + 64 ≤ length text → AreBytes text → (length (take 64 (drop at text)) ≡ 64) × AreBytes (take 64 (drop at text))
parent_there text at there valid =
    let rest : length (drop at text) ≡ length text - at = length-drop at text in
    (length-take-le 64 (drop at text) (omega arith), AreBytes-take 64 (drop at text) (AreBytes-drop at text valid))

-- from a part of a parent to the whole
way-near : (asked : Asked) (mode : Mode) (text : List ℕ) (at number n : ℕ) (sides : List Side) (source k : ℕ) (bytes : List ℕ) (near far : List (ℕ × TreeNode))
    → asked.top ≡ is_top sides → 1024 < n → at + 64 ≤ length text
    → Meets asked (parent_input mode (part_value left (take 64 (drop at text))) (part_value right (take 64 (drop at text))))
    → (k < number + left_len n / 1024 → steps_to text far k ≡ [])
    → Way (below left (take 64 (drop at text))) mode text near number (left_len n) k bytes
    → Way asked mode text ((at, parent_node number n sides source) ∷ (near ++ far)) number n k bytes
way-near asked mode text at number n sides source k bytes near far top more there meets none way =
    let l : ℕ = left_len n in
    let parts : Parts n l = left_len-Parts n more in
    let bs : List ℕ = take 64 (drop at text) in
    let q : ℕ × TreeNode = (at, parent_node number n sides source) in
    let step : Step = record { parent = bs; side = left } in
    let first : place_inputs mode text q ≡ marked asked.top (step_input mode step) ∷ [] =
    ap (λ (t : Bool). marked t (step_input mode step) ∷ []) (sym top) in
    let near_count : chunk_count l ≡ l / 1024 = count_left n more in
    let count : chunk_count n ≡ l / 1024 + chunk_count (n - l) = count_parts n more in
    let some : 1 ≤ chunk_count (n - l) = omega arith in
    let inner : k + 1 ≤ number + l / 1024 = omega (arith, way.within) in
    let before : k < number + l / 1024 = omega (arith, inner) in
    let over : steps_to text (q ∷ (near ++ far)) k ≡ step ∷ steps_to text (near ++ far) k =
    rw (is_over-parent number n k sides source way.from (omega (arith, inner)), lt-ltb k (number + l / 1024) before) refl in
    let rest : steps_to text (near ++ far) k ≡ steps_to text near k =
    steps_to-append text near far k ∙ ap (λ (more : List Step). steps_to text near k ++ more) (none before) ∙ append-nil (steps_to text near k) in
    record {
      steps = step ∷ way.steps;
      steps_are = ap (λ (more : List Step). step ∷ more) (way.steps_are ∙ sym rest) ∙ sym over;
      holds = (meets, Follows-below left bs mode way.steps (last_chunk_input mode k bytes) way.holds);
      inputs = inputs-step asked mode text q near far near step way.steps k bytes (text_inputs-near mode text near far) first way.inputs;
      parents = λ valid. (parent_there text at there valid, way.parents valid);
      from = way.from;
      within = omega arith;
      size = way.size;
      full = λ _. grind (arith, near_count, parts.whole, way.full, way.ends, inner);
      last = λ same. absurd (omega arith);
      ends = λ same. absurd (omega arith);
    }

way-far : (asked : Asked) (mode : Mode) (text : List ℕ) (at number n : ℕ) (sides : List Side) (source k : ℕ) (bytes : List ℕ) (near far : List (ℕ × TreeNode))
    → asked.top ≡ is_top sides → 1024 < n → at + 64 ≤ length text
    → Meets asked (parent_input mode (part_value left (take 64 (drop at text))) (part_value right (take 64 (drop at text))))
    → (number + left_len n / 1024 ≤ k → steps_to text near k ≡ [])
    → Way (below right (take 64 (drop at text))) mode text far (number + left_len n / 1024) (n - left_len n) k bytes
    → Way asked mode text ((at, parent_node number n sides source) ∷ (near ++ far)) number n k bytes
way-far asked mode text at number n sides source k bytes near far top more there meets none way =
    let l : ℕ = left_len n in
    let parts : Parts n l = left_len-Parts n more in
    let bs : List ℕ = take 64 (drop at text) in
    let q : ℕ × TreeNode = (at, parent_node number n sides source) in
    let step : Step = record { parent = bs; side = right } in
    let first : place_inputs mode text q ≡ marked asked.top (step_input mode step) ∷ [] =
    ap (λ (t : Bool). marked t (step_input mode step) ∷ []) (sym top) in
    let near_count : chunk_count l ≡ l / 1024 = count_left n more in
    let count : chunk_count n ≡ l / 1024 + chunk_count (n - l) = count_parts n more in
    let some : 1 ≤ chunk_count (n - l) = omega arith in
    let over : steps_to text (q ∷ (near ++ far)) k ≡ step ∷ steps_to text (near ++ far) k =
    rw (is_over-parent number n k sides source (omega (arith, way.from)) (omega (arith, way.within)), le-ltb k (number + l / 1024) way.from) refl in
    let rest : steps_to text (near ++ far) k ≡ steps_to text far k =
    steps_to-append text near far k ∙ ap (λ (first : List Step). first ++ steps_to text far k) (none way.from) in
    record {
      steps = step ∷ way.steps;
      steps_are = ap (λ (more : List Step). step ∷ more) (way.steps_are ∙ sym rest) ∙ sym over;
      holds = (meets, Follows-below right bs mode way.steps (last_chunk_input mode k bytes) way.holds);
      inputs = inputs-step asked mode text q near far far step way.steps k bytes (text_inputs-far mode text near far) first way.inputs;
      parents = λ valid. (parent_there text at there valid, way.parents valid);
      from = omega (arith, way.from);
      within = omega (arith, way.within);
      size = way.size;
      full = λ less. way.full (omega arith);
      last = λ same. (refl, way.last (omega arith));
      ends = λ same. let end : 1024 * k + length bytes ≡ 1024 * (number + l / 1024) + (n - l) = way.ends (omega arith) in omega (arith, parts.whole, parts.below);
    }

-- in each subtree
module _ (choice : Choice) (mode : Mode) (text : List ℕ) (k : ℕ) (bytes : List ℕ) where
  abbrev HasWay : ℕ → ℕ → List Side → ℕ → List TreeNode → Type 0
  HasWay number n sides source nodes = (asked : Asked) (at : ℕ) → asked.top ≡ is_top sides → AreGood asked sides mode text at nodes → chunk_in text (placed_nodes at nodes) k ≡ Some bytes
      → Way asked mode text (placed_nodes at nodes) number n k bytes

  way-parent : (number n : ℕ) (sides : List Side) (source : ℕ) → wants choice (1024 * number) n ≡ true → 1024 < n → Parts n (left_len n)
      → Near (λ i m way from. HasWay i m way from (subtree_nodes choice i m way from)) number n sides source → Far (λ i m way from. HasWay i m way from (subtree_nodes choice i m way from)) number n sides source
      → HasWay number n sides source (parent_node number n sides source ∷ (near_nodes choice number n sides source ++ far_nodes choice number n sides source))
  way-parent number n sides source wanted more parts in_near in_far asked at top good there =
      let bs : List ℕ = take 64 (drop at text) in
      let q : ℕ × TreeNode = (at, parent_node number n sides source) in
      let nears : List TreeNode = near_nodes choice number n sides source in
      let fars : List TreeNode = far_nodes choice number n sides source in
      let near : List (ℕ × TreeNode) = placed_nodes (at + 64) nears in
      let far : List (ℕ × TreeNode) = placed_nodes (at + 64 + nodes_size nears) fars in
      let nodes_are : parent_node number n sides source ∷ (nears ++ fars) ≡ subtree_nodes choice number n sides source = sym (subtree_nodes-parent choice number n sides source wanted more) in
      let places_are : placed_nodes at (parent_node number n sides source ∷ (nears ++ fars)) ≡ q ∷ (near ++ far) =
      ap (placed_nodes at) nodes_are ∙ placed_nodes-parent choice number n sides source at wanted more in
      let both : PartsGood asked sides mode text at nears fars = AreGood-split asked choice mode text at number n sides source wanted more (subst (AreGood asked sides mode text at) nodes_are good) in
      let among : chunk_in text (near ++ far) k ≡ Some bytes = ap (λ (ps : List (ℕ × TreeNode)). chunk_in text ps k) (sym places_are) ∙ there in
      subst (λ (ps : List (ℕ × TreeNode)). Way asked mode text ps number n k bytes) (sym places_are)
      (elim (chunk_in-append text near far k bytes among) [
        | inl here ↦
            way-near asked mode text at number n sides source k bytes near far top more both.there both.meets
            (λ before. steps_outside choice text (number + left_len n / 1024) (n - left_len n) (at + 64 + nodes_size nears) k (source + 64 + subtree_size (left_len n)) (sides ++ right ∷ []) (λ h. omega (arith, before, h.0)))
            (in_near (below left bs) (at + 64) (is_top-below sides left) both.near_good here)
        | inr here ↦
            way-far asked mode text at number n sides source k bytes near far top more both.there both.meets
            (λ after. steps_outside choice text number (left_len n) (at + 64) k (source + 64) (sides ++ left ∷ []) (λ h. omega (arith, after, h.1, count_left n more)))
            (in_far (below right bs) (at + 64 + nodes_size nears) (is_top-below sides right) both.far_good here)
      ])

  has_way : (number n : ℕ) (sides : List Side) (source : ℕ) → HasWay number n sides source (subtree_nodes choice number n sides source)
  has_way = by_nodes choice HasWay
      (λ number n sides source unwanted asked at top good there. let none : None ≡ Some bytes = there in cc)
      (λ number n sides source wanted one asked at top good there. way-chunk asked choice mode text at number n sides source k bytes top one good there)
      way-parent

-- A way down to the chunk that the encoding has there, made of the encoding's own compressions. By the length
-- `total` of the blob the last chunk ends it, and each other is whole.
pub record IsCertified (mode : Mode) (root text : List ℕ) (places : List (ℕ × TreeNode)) (total number : ℕ) (bytes : List ℕ) : Type 0 where
  pub steps : List Step
  pub steps_are : steps ≡ steps_to text places number
  pub holds : Begins mode root steps (last_chunk_input mode number bytes)
  pub inputs : (x : Input) → Contains (way_inputs true mode steps number bytes) x → Contains (text_inputs mode text places) x
  pub parents : AreBytes text → AllByRecursion IsParent steps
  pub chunk : AreBytes text → AreBytes bytes
  pub within : number < chunk_count total
  pub size : length bytes ≤ 1024
  pub full : number + 1 < chunk_count total → length bytes ≡ 1024
  pub last : number + 1 ≡ chunk_count total → AllByRecursion GoesRight steps
  pub ends : number + 1 ≡ chunk_count total → 1024 * number + length bytes ≡ total

-- a chunk of an encoding of bytes is of bytes
chunk_in-AreBytes : (text : List ℕ) (places : List (ℕ × TreeNode)) (number : ℕ) (bytes : List ℕ) → AreBytes text → chunk_in text places number ≡ Some bytes → AreBytes bytes
chunk_in-AreBytes text [] number bytes valid there = let none : None ≡ Some bytes = there in cc
chunk_in-AreBytes text (place ∷ places) number bytes valid there = elim (cases_Bool (place.1.is_chunk && (place.1.number == number))) [
  | inl hit ↦
      let found : Some (bytes_at text place) ≡ Some bytes = rw hit at there in
      let same : bytes_at text place ≡ bytes = cc in
      subst AreBytes same (AreBytes-take (size place.1) (drop place.0 text) (AreBytes-drop place.0 text valid))
  | inr miss ↦ chunk_in-AreBytes text places number bytes valid (rw miss at there)
]

-- for any choice of a blob of `total` bytes
pub chosen_certified : (choice : Choice) (mode : Mode) (root text : List ℕ) (total : ℕ) → IsAccepted mode root text (chosen_nodes choice total)
    → (number : ℕ) (bytes : List ℕ) → chunk_in text (places_of (chosen_nodes choice total)) number ≡ Some bytes
    → IsCertified mode root text (places_of (chosen_nodes choice total)) total number bytes
chosen_certified choice mode root text total accepted number bytes there =
    let asked : Asked = record { top = true; value = record { 0 = words_of 8 root } } in
    let way : Way asked mode text (placed_nodes 8 (chosen_nodes choice total)) 0 total number bytes =
    has_way choice mode text number bytes 0 total [] 8 asked 8 refl accepted.good there in
    record {
      steps = way.steps;
      steps_are = way.steps_are;
      holds = Begins-root mode root way.steps (last_chunk_input mode number bytes) way.holds;
      inputs = way.inputs;
      parents = way.parents;
      chunk = λ valid. chunk_in-AreBytes text (places_of (chosen_nodes choice total)) number bytes valid there;
      within = omega (arith, way.within);
      size = way.size;
      full = λ less. way.full (omega arith);
      last = λ same. way.last (omega arith);
      ends = λ same. let whole : 1024 * number + length bytes ≡ 1024 * 0 + total = way.ends (omega arith) in omega arith;
    }

-- for a slice
pub certified : (mode : Mode) (root text : List ℕ) (start len : ℕ) → IsAccepted mode root text (slice_nodes text start len)
    → (number : ℕ) (bytes : List ℕ) → chunk_in text (places_of (slice_nodes text start len)) number ≡ Some bytes
    → IsCertified mode root text (places_of (slice_nodes text start len)) (claimed text) number bytes
certified mode root text start len accepted number bytes there = search (arith, chosen_certified)

-- the certificate of a chunk of an encoding of bytes
abbrev pub certificate_of : {mode : Mode} {root text : List ℕ} {places : List (ℕ × TreeNode)} {total number : ℕ} {bytes : List ℕ} → IsCertified mode root text places total number bytes
    → AreBytes text → Certificate mode root number bytes
certificate_of found valid = record { steps = found.steps; parents = found.parents valid; chunk = found.chunk valid; holds = found.holds }
