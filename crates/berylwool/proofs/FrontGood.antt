-- The front of an encoding before its first fault is accepted as a shorter slice.
use Rattle.std.proofs.Common.{◌≡◌, ℕ, ◌+◌, ◌<◌, ◌≤◌, List, [], ◌∷◌, ◌++◌, length, take, drop, sym, ap, subst, ◌∙◌, arith, inl, inr, length-take-le, length-drop, sum_by}
use Rattle.std.specs.List.{AllByRecursion, Contains}
use Rattle.std.proofs.lemmas.List.{drop-append-le, take-append-drop, take-append-le}
use Rattle.std.proofs.lemmas.List.Elements.{Contains-append_left}
use Rattle.std.proofs.lemmas.List.Sums.{sum_by-append}
use Rattle.b3word.specs.Compression.{cv}
use Rattle.b3tree.specs.declared.mode.Mode.{Mode}
use Rattle.b3tree.specs.Hashing.{rooted}
use Rattle.bao_text.specs.declared.choice.Choice.{Choice}
use Rattle.bao_text.specs.Choice.{of_slice}
use Rattle.bao_text.specs.Cut.{claimed, slice_len}
use Rattle.bao_text.specs.Nodes.{TreeNode, Side, nodes, placed_nodes, size, subtree_nodes}
use Rattle.bao_check.specs.declared.fault.CheckFault.{CheckFault}
use Rattle.bao_check.specs.declared.fault.CheckFault.TheVariants.{Short, Mismatch, Trailing, Memory, Reader}
use Rattle.bao_check.specs.Accepted.{IsAccepted, IsGoodNode, bytes_at, end_of, node_input, part_value, places_of, slice_nodes}
use Rattle.bao_check.specs.Faults.{IsFirstBad, IsFirstFault}
use Rattle.bao_check.proofs.EachNode.{each_node}
use Rattle.bao_check.proofs.Lists.{All-first, All-from_members, All-member, nodes_size, nodes_size-cons, placed_nodes-append}
use Rattle.bao_check.proofs.Subtrees.{claimed-append}
use Rattle.berylwool.specs.Status.{place_of}
use Rattle.berylwool.proofs.ShorterSlices.{Begins, slice_begins}

abbrev Place : Type 0
Place = ℕ × TreeNode

-- each node of a tree over some bytes has bytes
nodes_have : (choice : Choice) (number n : ℕ) (sides : List Side) (source : ℕ) → AllByRecursion (λ node. 0 < n → 0 < size node) (subtree_nodes choice number n sides source)
nodes_have choice = each_node choice (λ number n sides source node. 0 < n → 0 < size node)
    (λ number n sides source wanted one kept some. some) (λ number n sides source wanted more parts some. omega arith)
    (λ number n sides source wanted more parts x member h some. h (omega (arith, parts.some)))
    (λ number n sides source wanted more parts x member h some. h (omega (arith, parts.below)))

-- what ends no later than the first that isn't good is good
earlier_good : (P : Place → Type 0) (at : ℕ) (front rest : List TreeNode) (earlier later : List Place) (place : Place) → AllByRecursion (λ node. 0 < size node) front
    → placed_nodes at (front ++ rest) ≡ earlier ++ place ∷ later → at + nodes_size front ≤ place.0 → AllByRecursion P earlier → AllByRecursion P (placed_nodes at front)
earlier_good P at [] rest earlier later place have is within good = tt
earlier_good P at (x ∷ front) rest [] later place have is within good =
    let first : (at, x) ≡ place = cc in
    let same : at ≡ place.0 = ap (λ (p : Place). p.0) first in
    absurd (omega (arith, have.0, within, same, nodes_size-cons x front))
earlier_good P at (x ∷ front) rest (e ∷ earlier) later place have is within good =
    let first : (at, x) ≡ e = cc in
    let others : placed_nodes (at + size x) (front ++ rest) ≡ earlier ++ place ∷ later = cc in
    (subst P (sym first) good.0, earlier_good P (at + size x) front rest earlier later place have.1 others (omega (arith, within, nodes_size-cons x front)) good.1)

-- nodes that each end within a text end within it together
reach : (n at : ℕ) (front : List TreeNode) → at ≤ n → AllByRecursion (λ place. end_of place ≤ n) (placed_nodes at front) → at + nodes_size front ≤ n
reach n at [] le all = omega (arith, le)
reach n at (x ∷ front) le all = omega (arith, reach n (at + size x) front all.0 all.1, nodes_size-cons x front)

-- each ends no later than the last
within : (at : ℕ) (front : List TreeNode) → AllByRecursion (λ place. end_of place ≤ at + nodes_size front) (placed_nodes at front)
within at [] = tt
within at (x ∷ front) =
    let same : at + size x + nodes_size front ≡ at + nodes_size (x ∷ front) = omega (arith, nodes_size-cons x front) in
    (omega (arith, same), subst (λ (n : ℕ). AllByRecursion (λ (place : Place). end_of place ≤ n) (placed_nodes (at + size x) front)) same (within (at + size x) front))

-- the bytes of a node that is there, whatever follows
bytes_at-append : (text rest : List ℕ) (place : Place) → end_of place ≤ length text → bytes_at (text ++ rest) place ≡ bytes_at text place
bytes_at-append text rest place there = grind (arith, drop-append-le, take-append-le, length-drop)

-- good nodes that all end within the front of a text are good in it
good_of_front : (mode : Mode) (root front more : List ℕ) (outer own : List Place) → ((x : Place) → Contains own x → Contains outer x) → AllByRecursion (λ place. end_of place ≤ length front) own
    → AllByRecursion (IsGoodNode mode root (front ++ more) outer) own → AllByRecursion (IsGoodNode mode root front own) own
good_of_front mode root front more outer own among ends good = All-from_members (IsGoodNode mode root front own) own (λ place member.
    let here : IsGoodNode mode root (front ++ more) outer place = All-member (IsGoodNode mode root (front ++ more) outer) own good place member in
    let there : (x : Place) → Contains own x → bytes_at (front ++ more) x ≡ bytes_at front x = λ x h. bytes_at-append front more x (All-member (λ (p : Place). end_of p ≤ length front) own ends x h) in (
      All-member (λ (p : Place). end_of p ≤ length front) own ends place member,
      (
        λ top. ap (λ (s : List ℕ). cv (rooted (node_input mode place.1 s))) (sym (there place member)) ∙ here.1.0 top,
        λ above side upper below.
            ap (λ (s : List ℕ). cv (node_input mode place.1 s)) (sym (there place member)) ∙ here.1.1 above side (among above upper) below ∙ ap (part_value side) (there above upper),
      ),
    ))

module _ (mode : Mode) (root text : List ℕ) (start len part : ℕ) (le : part ≤ len) (some : 0 < claimed text) where
  abbrev all : List Place
  all = places_of (slice_nodes text start len)

  abbrev own : List TreeNode
  own = nodes (claimed text) start part

  begins : Begins (slice_nodes text start len) own
  begins = slice_begins (claimed text) start part len le

  own_have : AllByRecursion (λ node. 0 < size node) own
  own_have =
      All-from_members (λ (node : TreeNode). 0 < size node) own (λ x h. All-member (λ (node : TreeNode). 0 < claimed text → 0 < size node) own (nodes_have (of_slice (claimed text) start part) 0 (claimed text) [] 8) x h some)

  good_to : (place : Place) → IsFirstBad mode root text all place → slice_len (claimed text) start part ≤ place.0 → AllByRecursion (IsGoodNode mode root text all) (places_of own)
  good_to place bad before = earlier_good (IsGoodNode mode root text all) 8 own begins.rest bad.earlier bad.later place own_have (ap places_of (sym begins.is) ∙ bad.split) before bad.good

  -- the nodes before the first fault are good
  good_before : (fault : CheckFault) → IsFirstFault mode root text (slice_nodes text start len) fault → slice_len (claimed text) start part ≤ place_of fault
      → (8 ≤ length text) × AllByRecursion (IsGoodNode mode root text all) (places_of own)
  good_before (Short at) (inl short) before = absurd (omega (arith, short.1, before))
  good_before (Short at) (inr bad) before = (bad.0, good_to bad.1.0 bad.1.1 (omega (arith, before, bad.1.2)))
  good_before (Mismatch at) bad before = (bad.0, good_to bad.1.0 bad.1.1 (omega (arith, before, bad.1.2)))
  good_before (Trailing at) h before = (
    h.0,
    All-first (IsGoodNode mode root text all) (places_of own) (placed_nodes (8 + nodes_size own) begins.rest)
        (subst (AllByRecursion (IsGoodNode mode root text all)) (ap places_of begins.is ∙ placed_nodes-append 8 own begins.rest) h.1),
  )
  good_before Memory none before = absurd none
  good_before Reader none before = absurd none

  -- so the text begins with an encoding that is accepted as the shorter slice
  pub front_accepted : (fault : CheckFault) → IsFirstFault mode root text (slice_nodes text start len) fault → slice_len (claimed text) start part ≤ place_of fault
      → (slice_len (claimed text) start part ≤ length text)
      × IsAccepted mode root (take (slice_len (claimed text) start part) text) (slice_nodes (take (slice_len (claimed text) start part) text) start part)
  front_accepted fault first before =
      let m : ℕ = slice_len (claimed text) start part in
      let front : List ℕ = take m text in
      let good = good_before fault first before in
      let fits : m ≤ length text = reach (length text) 8 own good.0 (All-from_members (λ (p : Place). end_of p ≤ length text) (places_of own) (λ x h. (All-member (IsGoodNode mode root text all) (places_of own) good.1 x h).0)) in
      let size_is : length front ≡ m = length-take-le m text fits in
      let parted : front ++ drop m text ≡ text = take-append-drop m text in
      let claims : claimed front ≡ claimed text = sym (claimed-append front (drop m text) (omega (arith, size_is))) ∙ ap claimed parted in
      let same : all ≡ places_of own ++ placed_nodes (8 + nodes_size own) begins.rest = ap places_of begins.is ∙ placed_nodes-append 8 own begins.rest in
      let own_good : AllByRecursion (IsGoodNode mode root front (places_of own)) (places_of own) = good_of_front mode root front (drop m text) all (places_of own)
      (λ x h. subst (λ (ps : List Place). Contains ps x) (sym same) (Contains-append_left (places_of own) (placed_nodes (8 + nodes_size own) begins.rest) x h))
      (subst (λ (n : ℕ). AllByRecursion (λ (p : Place). end_of p ≤ n) (places_of own)) (sym size_is) (within 8 own))
      (subst (λ (s : List ℕ). AllByRecursion (IsGoodNode mode root s all) (places_of own)) (sym parted) good.1) in
      let accepted : IsAccepted mode root front own = record { long = omega (arith, size_is); good = own_good; ends = size_is } in
      (fits, subst (λ (n : ℕ). IsAccepted mode root front (nodes n start part)) (sym claims) accepted)

-- the same, of a size that was computed
pub front_of : (mode : Mode) (root text : List ℕ) (start len at part total count : ℕ) (fault : CheckFault) → total ≡ claimed text → count ≡ slice_len total start part → (total ≡ 0 → ⊥)
    → IsFirstFault mode root text (slice_nodes text start len) fault → at ≡ place_of fault → part ≤ len → slice_len total start part ≤ at
    → (count ≡ slice_len (claimed text) start part) × (count ≤ length text) × IsAccepted mode root (take count text) (slice_nodes (take count text) start part)
front_of mode root text start len at part total count fault claims is some first place le before =
    let size_is : count ≡ slice_len (claimed text) start part = is ∙ ap (λ (n : ℕ). slice_len n start part) claims in
    let front = front_accepted mode root text start len part le (omega (arith, some, claims)) fault first (omega (arith, size_is, is, place, before)) in (
      size_is,
      omega (arith, size_is, front.0),
      subst (λ (n : ℕ). IsAccepted mode root (take n text) (slice_nodes (take n text) start part)) (sym size_is) front.1,
    )

-- a longer slice has no shorter encoding
pub slice_len-mono : (total start part len : ℕ) → part ≤ len → slice_len total start part ≤ slice_len total start len
slice_len-mono total start part len le =
    let b : Begins (nodes total start len) (nodes total start part) = slice_begins total start part len le in
    omega (arith, ap (λ (s : List TreeNode). sum_by size s) b.is, sum_by-append size (nodes total start part) b.rest)
