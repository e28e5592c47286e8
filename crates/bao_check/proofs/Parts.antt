-- The places of a subtree are those of its parent and of its two parts.
use Rattle.std.specs.List.{AllByRecursion, Contains}
use Rattle.std.proofs.lemmas.List.{append-nil, append_assoc, append_cancel_left}
use Rattle.std.proofs.lemmas.List.Elements.{Contains-append_cases, Contains-append_left, Contains-append_right}
use Rattle.std.proofs.Common.{length-append, subst, inl, inr, ◌⊎◌, ◌≢◌, ◌≡◌, ℕ, ◌+◌, ◌-◌, ◌*◌, ◌/◌, ◌<◌, ◌≤◌, List, [], ◌∷◌, ◌++◌, length, take, drop, true, false, refl, sym, ap, ◌∙◌, arith}
use Rattle.b3tree.specs.declared.mode.Mode.{Mode}
use Rattle.b3tree.specs.Tree.{left_len, parent_input}
use Rattle.bao_text.specs.declared.choice.Choice.{Choice}
use Rattle.bao_text.specs.Choice.{wants}
use Rattle.bao_text.specs.Nodes.{TreeNode, Side, left, right, size, placed_nodes, subtree_nodes, subtree_size}
use Rattle.bao_check.specs.declared.asked.Asked.{Asked}
use Rattle.bao_check.specs.Accepted.{bytes_at, end_of, input_at, part_value}
use Rattle.bao_check.specs.Walk.{AreGood, IsAskedIn, IsGoodIn, Meets}
use Rattle.bao_text.proofs.SubtreeNodes.{parent_node, subtree_nodes-parent}
use Rattle.bao_check.proofs.EachNode.{each_node}
use Rattle.bao_check.proofs.Lists.{All-append, All-from_members, All-member, Contains-cons_cases, Contains-head, Contains-tail, nodes_size, placed_nodes-append}

-- what a parent's 64 bytes ask of its part on a side
abbrev pub below : Side → List ℕ → Asked
below side bytes = record { top = false; value = record { 0 = part_value side bytes } }

-- the way goes on from that of a subtree
pub record Extends (sides more : List Side) : Type 0 where
  pub tail : List Side
  pub is : more ≡ sides ++ tail

pub Extends-further : (sides : List Side) (d : Side) (more : List Side) → Extends (sides ++ d ∷ []) more → Extends sides more
Extends-further sides d more h = record { tail = d ∷ h.tail; is = h.is ∙ append_assoc sides (d ∷ []) h.tail }

-- one more side
Extends-longer : (sides : List Side) (d : Side) (more : List Side) → Extends (sides ++ d ∷ []) more → length sides < length more
Extends-longer sides d more h = grind (arith, length-append)

-- the nodes of a subtree go on from its way
Extends-same : (sides : List Side) → Extends sides sides
Extends-same sides = record { tail = []; is = sym (append-nil sides) }

nodes-Extends : (choice : Choice) (number n : ℕ) (sides : List Side) (source : ℕ) → AllByRecursion (λ node. Extends sides node.sides) (subtree_nodes choice number n sides source)
nodes-Extends choice = search (arith, each_node, Extends-same, Extends-further)

pub placed_nodes-All : (P : TreeNode → Type 0) (at : ℕ) (nodes : List TreeNode) → AllByRecursion P nodes → AllByRecursion (λ place. P place.1) (placed_nodes at nodes)
placed_nodes-All P at [] all = tt
placed_nodes-All P at (node ∷ nodes) all = (all.0, placed_nodes-All P (at + size node) nodes all.1)

-- the places `own` are those of the part on side d of the parent q, among the places ps
pub record IsPart (sides : List Side) (d : Side) (ps : List (ℕ × TreeNode)) (q : ℕ × TreeNode) (own : List (ℕ × TreeNode)) : Type 0 where
  pub parent_there : Contains ps q
  pub parent_sides : q.1.sides ≡ sides
  pub own_there : (a : ℕ × TreeNode) → Contains own a → Contains ps a
  pub on : AllByRecursion (λ place. Extends (sides ++ d ∷ []) place.1.sides) own
  pub others : (a : ℕ × TreeNode) → Contains ps a → (a ≡ q) ⊎ (Contains own a ⊎ ((e : Side) × (e ≢ d) × Extends (sides ++ e ∷ []) a.1.sides))

-- what a place of the part asks for, seen from the whole and seen from the part
down : (asked : Asked) (sides : List Side) (d : Side) (mode : Mode) (text : List ℕ) (ps own : List (ℕ × TreeNode)) (q p : ℕ × TreeNode) → IsPart sides d ps q own
    → IsAskedIn asked sides mode text ps p → IsAskedIn (below d (bytes_at text q)) (sides ++ d ∷ []) mode text own p
down asked sides d mode text ps own q p part h = grind (arith)

-- the node below a parent is the top of one of its parts
only_below : (sides : List Side) (d side : Side) (more : List Side) → Extends (sides ++ d ∷ []) more → more ≡ sides ++ side ∷ [] → d ≡ side
only_below sides d side more h is = grind (arith, append_cancel_left, append_assoc, is)

-- no node of one part is below one of the other
pub apart : (sides : List Side) (d e side : Side) (more upper : List Side) → Extends (sides ++ d ∷ []) more → Extends (sides ++ e ∷ []) upper → more ≡ upper ++ side ∷ [] → d ≡ e
apart sides d e side more upper h k is = grind (arith, append_assoc, append_cancel_left, is)

up : (asked : Asked) (sides : List Side) (d : Side) (mode : Mode) (text : List ℕ) (ps own : List (ℕ × TreeNode)) (q p : ℕ × TreeNode) → IsPart sides d ps q own
    → Extends (sides ++ d ∷ []) p.1.sides → IsAskedIn (below d (bytes_at text q)) (sides ++ d ∷ []) mode text own p → IsAskedIn asked sides mode text ps p
up asked sides d mode text ps own q p part on h = (
  λ top. let longer : length sides < length p.1.sides = Extends-longer sides d p.1.sides on in absurd (omega (arith, ap length top)),
  λ above side there is.
      elim (part.others above there) [
        | inl at_q ↦
            let from_q : p.1.sides ≡ sides ++ side ∷ [] = is ∙ ap (λ (a : ℕ × TreeNode). a.1.sides ++ side ∷ []) at_q ∙ ap (λ (s : List Side). s ++ side ∷ []) part.parent_sides in
            let same : d ≡ side = only_below sides d side p.1.sides on from_q in
            let top : p.1.sides ≡ sides ++ d ∷ [] = from_q ∙ ap (λ (s : Side). sides ++ s ∷ []) (sym same) in
            h.0 top ∙ (λ i. part_value (same i) (bytes_at text (sym at_q i)))
        | inr rest ↦
            elim rest [
              | inl in_own ↦ h.1 above side in_own is
              | inr other ↦ absurd (other.1 (sym (apart sides d other.0 side p.1.sides above.1.sides on other.2 is)))
            ]
      ],
)

top_up : (asked : Asked) (sides : List Side) (mode : Mode) (text : List ℕ) (ps : List (ℕ × TreeNode)) (q : ℕ × TreeNode) → q.1.sides ≡ sides
    → ((a : ℕ × TreeNode) → Contains ps a → Extends sides a.1.sides) → Meets asked (input_at mode text q) → IsAskedIn asked sides mode text ps q
top_up asked sides mode text ps q is on h = (
  λ _. h,
  λ above side there under.
      let k : Extends sides above.1.sides = on above there in
      let longer : length q.1.sides ≡ length above.1.sides + 1 = ap length under ∙ length-append above.1.sides (side ∷ []) in
      let above_is : length above.1.sides ≡ length sides + length k.tail = ap length k.is ∙ length-append sides k.tail in
      absurd (omega (arith, ap length is)),
)

-- the places of a subtree: its parent's, and those of its two parts
pub record Tree (sides : List Side) (q : ℕ × TreeNode) (near far : List (ℕ × TreeNode)) : Type 0 where
  pub top : q.1.sides ≡ sides
  pub near_on : AllByRecursion (λ place. Extends (sides ++ left ∷ []) place.1.sides) near
  pub far_on : AllByRecursion (λ place. Extends (sides ++ right ∷ []) place.1.sides) far

pub left_right : left ≢ right
left_right e = cc

pub near_part : (sides : List Side) (q : ℕ × TreeNode) (near far : List (ℕ × TreeNode)) → Tree sides q near far → IsPart sides left (q ∷ (near ++ far)) q near
near_part sides q near far tree = record {
  parent_there = Contains-head (near ++ far) q;
  parent_sides = tree.top;
  own_there = λ a h. Contains-tail (near ++ far) q a (Contains-append_left near far a h);
  on = tree.near_on;
  others = λ a h. elim (Contains-cons_cases (near ++ far) q a h) [
    | inl same ↦ inl same
    | inr rest ↦
        elim (Contains-append_cases near far a rest) [
          | inl own ↦ inr (inl own)
          | inr other ↦ inr (inr (right, (λ e. left_right (sym e)), All-member (λ place. Extends (sides ++ right ∷ []) place.1.sides) far tree.far_on a other))
        ]
  ];
}

pub far_part : (sides : List Side) (q : ℕ × TreeNode) (near far : List (ℕ × TreeNode)) → Tree sides q near far → IsPart sides right (q ∷ (near ++ far)) q far
far_part sides q near far tree = record {
  parent_there = Contains-head (near ++ far) q;
  parent_sides = tree.top;
  own_there = λ a h. Contains-tail (near ++ far) q a (Contains-append_right near far a h);
  on = tree.far_on;
  others = λ a h. elim (Contains-cons_cases (near ++ far) q a h) [
    | inl same ↦ inl same
    | inr rest ↦
        elim (Contains-append_cases near far a rest) [
          | inr own ↦ inr (inl own)
          | inl other ↦ inr (inr (left, left_right, All-member (λ place. Extends (sides ++ left ∷ []) place.1.sides) near tree.near_on a other))
        ]
  ];
}

all_on : (sides : List Side) (q : ℕ × TreeNode) (near far : List (ℕ × TreeNode)) → Tree sides q near far → (a : ℕ × TreeNode) → Contains (q ∷ (near ++ far)) a → Extends sides a.1.sides
all_on sides q near far tree a h = elim (Contains-cons_cases (near ++ far) q a h) [
  | inl same ↦ record { tail = []; is = ap (λ (p : ℕ × TreeNode). p.1.sides) same ∙ tree.top ∙ sym (append-nil sides) }
  | inr rest ↦
      elim (Contains-append_cases near far a rest) [
        | inl own ↦ Extends-further sides left a.1.sides (All-member (λ place. Extends (sides ++ left ∷ []) place.1.sides) near tree.near_on a own)
        | inr own ↦ Extends-further sides right a.1.sides (All-member (λ place. Extends (sides ++ right ∷ []) place.1.sides) far tree.far_on a own)
      ]
]

module _ (asked : Asked) (sides : List Side) (d : Side) (mode : Mode) (text : List ℕ) (ps own : List (ℕ × TreeNode)) (q : ℕ × TreeNode) (part : IsPart sides d ps q own) where
  abbrev IsOwnGood : ℕ × TreeNode → Type 0
  IsOwnGood p = IsGoodIn (below d (bytes_at text q)) (sides ++ d ∷ []) mode text own p

  -- a good place of a part is one of the whole
  pub part_good : (p : ℕ × TreeNode) → Contains own p → IsOwnGood p → IsGoodIn asked sides mode text ps p
  part_good p there h = (h.0, up asked sides d mode text ps own q p part (All-member (λ place. Extends (sides ++ d ∷ []) place.1.sides) own part.on p there) h.1)

  -- and one that isn't, isn't
  pub part_bad : (p : ℕ × TreeNode) → ¬ IsAskedIn (below d (bytes_at text q)) (sides ++ d ∷ []) mode text own p → ¬ IsAskedIn asked sides mode text ps p
  part_bad p bad h = bad (down asked sides d mode text ps own q p part h)

  -- all places of the part are good where those of the whole are
  part_from_whole : AllByRecursion (IsGoodIn asked sides mode text ps) ps → AllByRecursion IsOwnGood own
  part_from_whole all = All-from_members IsOwnGood own (λ p h.
      let whole = All-member (IsGoodIn asked sides mode text ps) ps all p (part.own_there p h) in
      (whole.0, down asked sides d mode text ps own q p part whole.1))

-- the top is good where it is there and has the value asked for, and isn't where it hasn't
pub top_good : (asked : Asked) (sides : List Side) (mode : Mode) (text : List ℕ) (q : ℕ × TreeNode) (near far : List (ℕ × TreeNode)) → Tree sides q near far
    → end_of q ≤ length text → Meets asked (input_at mode text q) → IsGoodIn asked sides mode text (q ∷ (near ++ far)) q
top_good asked sides mode text q near far tree there meets = search (arith, there, top_up, all_on, meets)

pub top_bad : (asked : Asked) (sides : List Side) (mode : Mode) (text : List ℕ) (q : ℕ × TreeNode) (ps : List (ℕ × TreeNode)) → q.1.sides ≡ sides
    → ¬ Meets asked (input_at mode text q) → ¬ IsAskedIn asked sides mode text ps q
top_bad asked sides mode text q ps top bad h = bad (h.0 top)

-- all places of the whole are good where those of the parts are
pub whole_good : (asked : Asked) (sides : List Side) (mode : Mode) (text : List ℕ) (q : ℕ × TreeNode) (near far : List (ℕ × TreeNode)) → Tree sides q near far
    → end_of q ≤ length text → Meets asked (input_at mode text q)
    → AllByRecursion (IsGoodIn (below left (bytes_at text q)) (sides ++ left ∷ []) mode text near) near
    → AllByRecursion (IsGoodIn (below right (bytes_at text q)) (sides ++ right ∷ []) mode text far) far
    → AllByRecursion (IsGoodIn asked sides mode text (q ∷ (near ++ far))) (q ∷ (near ++ far))
whole_good asked sides mode text q near far tree there meets near_all far_all = (
  top_good asked sides mode text q near far tree there meets,
  All-append (IsGoodIn asked sides mode text (q ∷ (near ++ far))) near far
      (All-from_members (IsGoodIn asked sides mode text (q ∷ (near ++ far))) near
      (λ p h. part_good asked sides left mode text (q ∷ (near ++ far)) near q (near_part sides q near far tree) p h
      (All-member (IsGoodIn (below left (bytes_at text q)) (sides ++ left ∷ []) mode text near) near near_all p h)))
      (All-from_members (IsGoodIn asked sides mode text (q ∷ (near ++ far))) far
      (λ p h. part_good asked sides right mode text (q ∷ (near ++ far)) far q (far_part sides q near far tree) p h
      (All-member (IsGoodIn (below right (bytes_at text q)) (sides ++ right ∷ []) mode text far) far far_all p h))),
)

-- the places of a wanted subtree of more than one chunk
pub placed_nodes-parent : (choice : Choice) (number n : ℕ) (sides : List Side) (source at : ℕ) → wants choice (1024 * number) n ≡ true → 1024 < n
    → placed_nodes at (subtree_nodes choice number n sides source)
    ≡ (at, parent_node number n sides source)
    ∷ (placed_nodes (at + 64) (subtree_nodes choice number (left_len n) (sides ++ left ∷ []) (source + 64))
    ++ placed_nodes (at + 64 + nodes_size (subtree_nodes choice number (left_len n) (sides ++ left ∷ []) (source + 64)))
    (subtree_nodes choice (number + left_len n / 1024) (n - left_len n) (sides ++ right ∷ []) (source + 64 + subtree_size (left_len n))))
placed_nodes-parent choice number n sides source at wanted more = grind (arith, subtree_nodes-parent, placed_nodes-append)

-- they are a tree
pub subtree_Tree : (choice : Choice) (number n : ℕ) (sides : List Side) (source at at_far : ℕ)
    → Tree sides (at, parent_node number n sides source) (placed_nodes (at + 64) (subtree_nodes choice number (left_len n) (sides ++ left ∷ []) (source + 64)))
    (placed_nodes at_far (subtree_nodes choice (number + left_len n / 1024) (n - left_len n) (sides ++ right ∷ []) (source + 64 + subtree_size (left_len n))))
subtree_Tree choice number n sides source at at_far = record {
  top = refl;
  near_on = placed_nodes-All (λ node. Extends (sides ++ left ∷ []) node.sides) (at + 64) (subtree_nodes choice number (left_len n) (sides ++ left ∷ []) (source + 64))
      (nodes-Extends choice number (left_len n) (sides ++ left ∷ []) (source + 64));
  far_on = placed_nodes-All (λ node. Extends (sides ++ right ∷ []) node.sides) at_far
      (subtree_nodes choice (number + left_len n / 1024) (n - left_len n) (sides ++ right ∷ []) (source + 64 + subtree_size (left_len n)))
      (nodes-Extends choice (number + left_len n / 1024) (n - left_len n) (sides ++ right ∷ []) (source + 64 + subtree_size (left_len n)));
}

-- the parent is there and has its value, and its two parts are good after it
pub record PartsGood (asked : Asked) (sides : List Side) (mode : Mode) (text : List ℕ) (at : ℕ) (near far : List TreeNode) : Type 0 where
  pub there : at + 64 ≤ length text
  pub meets : Meets asked (parent_input mode (part_value left (take 64 (drop at text))) (part_value right (take 64 (drop at text))))
  pub near_good : AreGood (below left (take 64 (drop at text))) (sides ++ left ∷ []) mode text (at + 64) near
  pub far_good : AreGood (below right (take 64 (drop at text))) (sides ++ right ∷ []) mode text (at + 64 + nodes_size near) far

pub AreGood-split : (asked : Asked) (choice : Choice) (mode : Mode) (text : List ℕ) (at number n : ℕ) (sides : List Side) (source : ℕ)
    → wants choice (1024 * number) n ≡ true → 1024 < n
    → AreGood asked sides mode text at (subtree_nodes choice number n sides source)
    → PartsGood asked sides mode text at (subtree_nodes choice number (left_len n) (sides ++ left ∷ []) (source + 64))
    (subtree_nodes choice (number + left_len n / 1024) (n - left_len n) (sides ++ right ∷ []) (source + 64 + subtree_size (left_len n)))
AreGood-split asked choice mode text at number n sides source wanted more good =
    let q : ℕ × TreeNode = (at, parent_node number n sides source) in
    let near_nodes : List TreeNode = subtree_nodes choice number (left_len n) (sides ++ left ∷ []) (source + 64) in
    let far_nodes : List TreeNode = subtree_nodes choice (number + left_len n / 1024) (n - left_len n) (sides ++ right ∷ []) (source + 64 + subtree_size (left_len n)) in
    let near : List (ℕ × TreeNode) = placed_nodes (at + 64) near_nodes in
    let far : List (ℕ × TreeNode) = placed_nodes (at + 64 + nodes_size near_nodes) far_nodes in
    let all : AllByRecursion (IsGoodIn asked sides mode text (q ∷ (near ++ far))) (q ∷ (near ++ far)) =
    subst (λ (ps : List (ℕ × TreeNode)). AllByRecursion (IsGoodIn asked sides mode text ps) ps) (placed_nodes-parent choice number n sides source at wanted more) good in
    let tree : Tree sides q near far = subtree_Tree choice number n sides source at (at + 64 + nodes_size near_nodes) in
    record {
      there = all.0.0;
      meets = all.0.1.0 refl;
      near_good = part_from_whole asked sides left mode text (q ∷ (near ++ far)) near q (near_part sides q near far tree) all;
      far_good = part_from_whole asked sides right mode text (q ∷ (near ++ far)) far q (far_part sides q near far tree) all;
    }

pub AreGood-join : (asked : Asked) (choice : Choice) (mode : Mode) (text : List ℕ) (at number n : ℕ) (sides : List Side) (source : ℕ)
    → wants choice (1024 * number) n ≡ true → 1024 < n
    → PartsGood asked sides mode text at (subtree_nodes choice number (left_len n) (sides ++ left ∷ []) (source + 64))
    (subtree_nodes choice (number + left_len n / 1024) (n - left_len n) (sides ++ right ∷ []) (source + 64 + subtree_size (left_len n)))
    → AreGood asked sides mode text at (subtree_nodes choice number n sides source)
AreGood-join asked choice mode text at number n sides source wanted more parts = grind (arith, subtree_Tree, placed_nodes-parent, whole_good)
