-- The beginning of an outboard encoding, and what its fault says of all of it.
use Rattle.std.specs.List.{AllByRecursion, Contains}
use Rattle.std.proofs.Common.{◌≡◌, ◌⊎◌, ℕ, ◌+◌, ◌-◌, ◌*◌, ◌^◌, ◌<◌, ◌≤◌, min, List, [], ◌∷◌, ◌++◌, length, take, drop, Option, None, Some, IfSome, refl, sym, ap, subst, ◌∙◌, arith, inl, inr, length-append, length-drop}
use Rattle.std.proofs.lemmas.Bool.{cases_lt}
use Rattle.std.proofs.lemmas.List.{append-nil, drop-append-le, drop_all, length-take, length-take-le, take-append-drop, take-append-le, take-take, take_all}
use Rattle.std.proofs.lemmas.List.Elements.{Contains-append_cases, Contains-append_right}
use Rattle.std.specs.Int.{w64, from_le_bytes}
use Rattle.b3word.specs.Compression.{cv}
use Rattle.b3tree.specs.declared.mode.Mode.{Mode}
use Rattle.b3tree.specs.Hashing.{rooted}
use Rattle.bao_text.specs.Choice.{chunk_count, of_outboard}
use Rattle.bao_text.specs.Cut.{claimed}
use Rattle.bao_text.specs.Nodes.{Side, TreeNode, chosen_nodes, placed_nodes, size}
use Rattle.bao_check.specs.declared.fault.CheckFault.{CheckFault}
use Rattle.bao_check.specs.declared.fault.CheckFault.TheVariants.{Short, Mismatch, Trailing, Memory, Reader}
use Rattle.bao_check.specs.Accepted.{IsAccepted, IsAsked, IsGoodNode, bytes_at, end_of, node_input, outboard_nodes, part_value, places_of}
use Rattle.bao_check.specs.Faults.{IsFirstBad, IsFirstFault, IsMismatchAt, IsShortAt, IsTrailingAt}
use Rattle.bao_check.proofs.Lists.{All-from_members, All-member, All-second, Contains-cons_cases, Contains-head, nodes_size, nodes_size-cons}
use Rattle.bao_check.proofs.Sizes.{nodes_size-without_chunks}
use Rattle.bao_decode.specs.Copies.{IsEnough}
use Rattle.bao_decode.proofs.Orders.{AreInOrder, in_order, in_order-front, in_order-next}

-- the bytes of a node that is there, whatever follows
bytes_at-append : (text rest : List ℕ) (place : ℕ × TreeNode) → end_of place ≤ length text → bytes_at (text ++ rest) place ≡ bytes_at text place
bytes_at-append text rest place there =
    ap (take (size place.1)) (drop-append-le place.0 text rest (omega arith))
    ∙ take-append-le (size place.1) (drop place.0 text) rest (omega (arith, length-drop place.0 text))

-- the first of a list that fails is one
one_first : {X : Type 0} (P : X → Type 0) (before also : List X) (x y : X) (after rest : List X) → before ++ x ∷ after ≡ also ++ y ∷ rest
    → AllByRecursion P before → AllByRecursion P also → ¬ P x → ¬ P y → x ≡ y
one_first P [] [] x y after rest e good fine bad worse = cc
one_first P [] (b ∷ also) x y after rest e good fine bad worse =
    let head : x ≡ b = cc in absurd (bad (subst P (sym head) fine.0))
one_first P (a ∷ before) [] x y after rest e good fine bad worse =
    let head : a ≡ y = cc in absurd (worse (subst P head good.0))
one_first P (a ∷ before) (b ∷ also) x y after rest e good fine bad worse =
    let tail : before ++ x ∷ after ≡ also ++ y ∷ rest = cc in one_first P before also x y after rest tail good.1 fine.1 bad worse

module _ (mode : Mode) (root text rest : List ℕ) (places : List (ℕ × TreeNode)) where
  -- a node and the parent above it are there: then what its place asks for is the same, whatever follows
  asked_later : (place : ℕ × TreeNode) → end_of place ≤ length text
      → ((above : ℕ × TreeNode) (side : Side) → Contains places above → place.1.sides ≡ above.1.sides ++ side ∷ [] → end_of above ≤ length text)
      → IsAsked mode root text places place → IsAsked mode root (text ++ rest) places place
  asked_later place there parents asked =
      let same : bytes_at (text ++ rest) place ≡ bytes_at text place = bytes_at-append text rest place there in (
        λ top. ap (λ (s : List ℕ). cv (rooted (node_input mode place.1 s))) same ∙ asked.0 top,
        λ above side member below.
            ap (λ (s : List ℕ). cv (node_input mode place.1 s)) same ∙ asked.1 above side member below
            ∙ ap (part_value side) (sym (bytes_at-append text rest above (parents above side member below))),
      )

  asked_before : (place : ℕ × TreeNode) → end_of place ≤ length text
      → ((above : ℕ × TreeNode) (side : Side) → Contains places above → place.1.sides ≡ above.1.sides ++ side ∷ [] → end_of above ≤ length text)
      → IsAsked mode root (text ++ rest) places place → IsAsked mode root text places place
  asked_before place there parents asked =
      let same : bytes_at (text ++ rest) place ≡ bytes_at text place = bytes_at-append text rest place there in (
        λ top. ap (λ (s : List ℕ). cv (rooted (node_input mode place.1 s))) (sym same) ∙ asked.0 top,
        λ above side member below.
            ap (λ (s : List ℕ). cv (node_input mode place.1 s)) (sym same) ∙ asked.1 above side member below
            ∙ ap (part_value side) (bytes_at-append text rest above (parents above side member below)),
      )

  good_later : (place : ℕ × TreeNode)
      → ((above : ℕ × TreeNode) (side : Side) → Contains places above → place.1.sides ≡ above.1.sides ++ side ∷ [] → end_of above ≤ length text)
      → IsGoodNode mode root text places place → IsGoodNode mode root (text ++ rest) places place
  good_later place parents good = (omega (arith, good.0, length-append text rest), asked_later place good.0 parents good.1)

  -- the first bad node stays the first bad one
  bad_later : AreInOrder places → (place : ℕ × TreeNode) → end_of place ≤ length text → IsFirstBad mode root text places place → IsFirstBad mode root (text ++ rest) places place
  bad_later order place there bad =
      let good : (x : ℕ × TreeNode) → Contains bad.earlier x → IsGoodNode mode root text places x = All-member (IsGoodNode mode root text places) bad.earlier bad.good in
      let sorted : AreInOrder (bad.earlier ++ place ∷ bad.later) = subst AreInOrder bad.split order in
      let cases : (above : ℕ × TreeNode) → Contains places above → Contains bad.earlier above ⊎ Contains (place ∷ bad.later) above =
      λ above member. Contains-append_cases bad.earlier (place ∷ bad.later) above (subst (λ (ps : List (ℕ × TreeNode)). Contains ps above) bad.split member) in
      let front_parents : (x : ℕ × TreeNode) → Contains bad.earlier x → (above : ℕ × TreeNode) (side : Side) → Contains places above → x.1.sides ≡ above.1.sides ++ side ∷ []
      → end_of above ≤ length text =
      λ x here above side member below. elim (cases above member) [
        | inl first ↦ (good above first).0
        | inr last ↦ absurd (in_order-front bad.earlier (place ∷ bad.later) x above sorted here last (side, below))
      ] in
      let parents : (above : ℕ × TreeNode) (side : Side) → Contains places above → place.1.sides ≡ above.1.sides ++ side ∷ [] → end_of above ≤ length text =
      λ above side member below. elim (cases above member) [
        | inl first ↦ (good above first).0
        | inr last ↦ absurd (in_order-next bad.earlier bad.later place above sorted last (side, below))
      ] in
      record {
        earlier = bad.earlier;
        later = bad.later;
        split = bad.split;
        good = All-from_members (IsGoodNode mode root (text ++ rest) places) bad.earlier (λ x here. good_later x (front_parents x here) (good x here));
        bad = λ all. bad.bad (there, asked_before place there parents all.1);
      }

  all_later : AllByRecursion (IsGoodNode mode root text places) places → AllByRecursion (IsGoodNode mode root (text ++ rest) places) places
  all_later all =
      let good : (x : ℕ × TreeNode) → Contains places x → IsGoodNode mode root text places x = All-member (IsGoodNode mode root text places) places all in
      All-from_members (IsGoodNode mode root (text ++ rest) places) places (λ x here. good_later x (λ above side member below. (good above member).0) (good x here))

-- more bytes don't change what an encoding claims
claims_same : (text rest : List ℕ) → 8 ≤ length text → claimed (text ++ rest) ≡ claimed text
claims_same text rest long = ap (from_le_bytes w64) (take-append-le 8 text rest long)

nodes_same : (text rest : List ℕ) → 8 ≤ length text → outboard_nodes text ≡ outboard_nodes (text ++ rest)
nodes_same text rest long = ap (λ (n : ℕ). chosen_nodes (of_outboard n) n) (sym (claims_same text rest long))

-- a node that is refused, or what comes after all nodes, is the first fault whatever follows
mismatch_later : (mode : Mode) (root text rest : List ℕ) (at : ℕ) → IsMismatchAt mode root text (outboard_nodes text) at
    → IsMismatchAt mode root (text ++ rest) (outboard_nodes (text ++ rest)) at
mismatch_later mode root text rest at h =
    let nodes : List TreeNode = outboard_nodes text in
    let place : ℕ × TreeNode = h.1.0 in
    let order : AreInOrder (places_of nodes) = in_order (of_outboard (claimed text)) 0 (claimed text) [] 8 8 in
    subst (λ (ns : List TreeNode). IsMismatchAt mode root (text ++ rest) ns at) (nodes_same text rest h.0)
    (omega (arith, h.0, length-append text rest), (place, bad_later mode root text rest (places_of nodes) order place h.1.3 h.1.1, h.1.2, omega (arith, h.1.3, length-append text rest)))

trailing_later : (mode : Mode) (root text rest : List ℕ) (at : ℕ) → IsTrailingAt mode root text (outboard_nodes text) at
    → IsTrailingAt mode root (text ++ rest) (outboard_nodes (text ++ rest)) at
trailing_later mode root text rest at h =
    let nodes : List TreeNode = outboard_nodes text in
    subst (λ (ns : List TreeNode). IsTrailingAt mode root (text ++ rest) ns at) (nodes_same text rest h.0)
    (omega (arith, h.0, length-append text rest), all_later mode root text rest (places_of nodes) h.1, h.2, omega (arith, h.3, length-append text rest))

fault_later : (mode : Mode) (root text rest : List ℕ) (fault : CheckFault) → ((at : ℕ) → IsShortAt mode root text (outboard_nodes text) at → rest ≡ [])
    → IsFirstFault mode root text (outboard_nodes text) fault → IsFirstFault mode root (text ++ rest) (outboard_nodes (text ++ rest)) fault
fault_later mode root text rest (Short at) none h =
    let same : text ++ rest ≡ text = ap (λ (r : List ℕ). text ++ r) (none at h) ∙ append-nil text in
    subst (λ (t : List ℕ). IsShortAt mode root t (outboard_nodes t) at) (sym same) h
fault_later mode root text rest (Mismatch at) none h = mismatch_later mode root text rest at h
fault_later mode root text rest (Trailing at) none h = trailing_later mode root text rest at h
fault_later mode root text rest Memory none h = h
fault_later mode root text rest Reader none h = h

-- a beginning is enough, where more of it would have been read if that mattered
pub enough : (mode : Mode) (root s text : List ℕ) (n : ℕ) → text ≡ take n s → ((at : ℕ) → IsShortAt mode root text (outboard_nodes text) at → length s ≤ n)
    → (IsAccepted mode root text (outboard_nodes text) → length s ≤ n) → IsEnough mode root s text
enough mode root s text n is short accepted =
    let split : text ++ drop n s ≡ s = ap (λ (t : List ℕ). t ++ drop n s) is ∙ take-append-drop n s in
    record {
      whole = λ h. is ∙ take_all n s (accepted h);
      fault = λ f h.
          subst (λ (t : List ℕ). IsFirstFault mode root t (outboard_nodes t) f) split
          (fault_later mode root text (drop n s) f (λ at h. drop_all n s (short at h)) h);
    }

-- an outboard encoding's nodes are its parents
nodes_len : (text : List ℕ) → nodes_size (outboard_nodes text) ≡ 64 * (chunk_count (claimed text) - 1)
nodes_len text = nodes_size-without_chunks (of_outboard (claimed text)) 0 (claimed text) [] 8 (omega arith) (omega arith) refl

-- each of them ends no later than the last
pub place_within : (at : ℕ) (nodes : List TreeNode) (p : ℕ × TreeNode) → Contains (placed_nodes at nodes) p → end_of p ≤ at + nodes_size nodes
place_within at [] p there = let none : 0 < 0 = omega (arith, there.1) in absurd (omega arith)
place_within at (node ∷ nodes) p there = elim (Contains-cons_cases (placed_nodes (at + size node) nodes) (at, node) p there) [
  | inl same ↦ omega (arith, ap end_of same, nodes_size-cons node nodes)
  | inr rest ↦ omega (arith, place_within (at + size node) nodes p rest, nodes_size-cons node nodes)
]

bad_member : (mode : Mode) (root text : List ℕ) (places : List (ℕ × TreeNode)) (p : ℕ × TreeNode) → IsFirstBad mode root text places p → Contains places p
bad_member mode root text places p bad =
    subst (λ (ps : List (ℕ × TreeNode)). Contains ps p) (sym bad.split) (Contains-append_right bad.earlier (p ∷ bad.later) p (Contains-head bad.later p))

-- one that ends too early is shorter than it claims
short_len : (mode : Mode) (root text : List ℕ) (at : ℕ) → IsShortAt mode root text (outboard_nodes text) at → (length text < 8) ⊎ (length text < 8 + 64 * (chunk_count (claimed text) - 1))
short_len mode root text at (inl h) = inl h.0
short_len mode root text at (inr h) =
    inr (omega (arith, h.1.3, place_within 8 (outboard_nodes text) h.1.0 (bad_member mode root text (places_of (outboard_nodes text)) h.1.0 h.1.1), nodes_len text))

pub accepted_len : (mode : Mode) (root text : List ℕ) → IsAccepted mode root text (outboard_nodes text) → length text ≡ 8 + 64 * (chunk_count (claimed text) - 1)
accepted_len mode root text accepted = omega (arith, accepted.ends, nodes_len text)

-- the first bytes were refused, or are all
pub first_enough : (mode : Mode) (root s text : List ℕ) (limit : ℕ) → text ≡ take 65536 s → limit ≤ length text
    → (IsAccepted mode root text (outboard_nodes text) → length text < limit)
    → (0 < limit → (8 ≤ length text) × (limit ≡ 8 + 64 * (chunk_count (claimed text) - 1) + 1))
    → (limit ≡ 0 → 8 ≤ length text → (at : ℕ) → ¬ IsShortAt mode root text (outboard_nodes text) at) → IsEnough mode root s text
first_enough mode root s text limit is within whole claims refused =
    let none : (at : ℕ) → IsShortAt mode root text (outboard_nodes text) at → length text < 8 =
    λ at short. elim (cases_lt (length text) 8) [
      | inl less ↦ less
      | inr long ↦ elim (cases_lt 0 limit) [
        | inr zero ↦ absurd (refused (omega (arith, zero)) long at short)
        | inl some ↦ elim (short_len mode root text at short) [
          | inl less ↦ less
          | inr early ↦ absurd (omega (arith, early, within, (claims some).1))
        ]
      ]
    ] in
    enough mode root s text 65536 is (λ at short. omega (arith, none at short, ap length is, length-take 65536 s)) (λ accepted. absurd (omega (arith, whole accepted, within)))

-- as many bytes as it claims to have, and one, or all
pub rest_enough : (mode : Mode) (root s first text : List ℕ) (limit n : ℕ) → first ≡ take 65536 s → text ≡ take n s → n ≡ min limit (min (length s + 1) (2 ^ 64 - 1)) → length first < limit → length s < 2 ^ 64
    → (0 < limit → (8 ≤ length first) × (limit ≡ 8 + 64 * (chunk_count (claimed first) - 1) + 1)) → IsEnough mode root s text
rest_enough mode root s first text limit n first_is is n_is more low claims =
    let claim = claims (omega (arith, more)) in
    let long : 8 ≤ length s = omega (arith, claim.0, ap length first_is, length-take 65536 s) in
    let deep : 8 ≤ n = omega (arith, n_is, long, claim.0, more) in
    let same : claimed text ≡ claimed first =
    ap (from_le_bytes w64) (ap (take 8) is ∙ take-take 8 n s deep ∙ sym (take-take 8 65536 s (omega arith)) ∙ sym (ap (take 8) first_is)) in
    let ends : (length s ≤ n) ⊎ (n < length s) = elim (cases_lt n (length s)) [ inl less ↦ inr less | inr all ↦ inl all ] in
    let len : n < length s → length text ≡ n = λ less. ap length is ∙ length-take-le n s (omega (arith, less)) in
    enough mode root s text n is
    (λ at short. elim ends [
      | inl all ↦ all
      | inr less ↦ elim (short_len mode root text at short) [
        | inl early ↦ absurd (omega (arith, early, len less, deep))
        | inr early ↦ absurd (omega (arith, early, len less, ap (λ (k : ℕ). chunk_count k) same, claim.1, n_is, less, low))
      ]
    ])
    (λ accepted. elim ends [
      | inl all ↦ all
      | inr less ↦ absurd (omega (arith, accepted_len mode root text accepted, len less, ap (λ (k : ℕ). chunk_count k) same, claim.1, n_is, less, low))
    ])

-- one that ends too early has no other fault
pub first_bad_one : (mode : Mode) (root text : List ℕ) (places : List (ℕ × TreeNode)) (p q : ℕ × TreeNode) → IsFirstBad mode root text places p → IsFirstBad mode root text places q → p ≡ q
first_bad_one mode root text places p q a b =
    one_first (IsGoodNode mode root text places) a.earlier b.earlier p q a.later b.later (sym a.split ∙ b.split) a.good b.good a.bad b.bad

pub mismatch-not_short : (mode : Mode) (root text : List ℕ) (nodes : List TreeNode) (at other : ℕ) → IsMismatchAt mode root text nodes at → IsShortAt mode root text nodes other → ⊥
mismatch-not_short mode root text nodes at other h (inl short) = absurd (omega (arith, short.0, h.0))
mismatch-not_short mode root text nodes at other h (inr short) =
    let same = first_bad_one mode root text (places_of nodes) h.1.0 short.1.0 h.1.1 short.1.1 in
    absurd (omega (arith, ap end_of same, h.1.3, short.1.3))

pub trailing-not_short : (mode : Mode) (root text : List ℕ) (nodes : List TreeNode) (at other : ℕ) → IsTrailingAt mode root text nodes at → IsShortAt mode root text nodes other → ⊥
trailing-not_short mode root text nodes at other h (inl short) = absurd (omega (arith, short.0, h.0))
trailing-not_short mode root text nodes at other h (inr short) =
    let P : ℕ × TreeNode → Type 0 = IsGoodNode mode root text (places_of nodes) in
    let bad = short.1.1 in bad.bad (All-second P bad.earlier (short.1.0 ∷ bad.later) (subst (AllByRecursion P) bad.split h.1)).0

-- the same of contents, where they are known
pub first_known : (mode : Mode) (root : List ℕ) (contents : Option (List ℕ)) (size : ℕ) (text seen : List ℕ) (limit : ℕ) → seen ≡ text → limit ≤ length seen
    → IfSome contents (λ s. text ≡ take 65536 s)
    → (IsAccepted mode root seen (outboard_nodes seen) → length seen < limit)
    → (0 < limit → (8 ≤ length seen) × (limit ≡ 8 + 64 * (chunk_count (claimed seen) - 1) + 1))
    → (limit ≡ 0 → 8 ≤ length seen → (at : ℕ) → IsShortAt mode root seen (outboard_nodes seen) at → ⊥) → IfSome contents (λ s. length s ≡ size → IsEnough mode root s text)
first_known mode root None size text seen limit same within front whole claims refused = tt
first_known mode root (Some s) size text seen limit same within front whole claims refused = λ _.
    subst (IsEnough mode root s) same (first_enough mode root s seen limit (same ∙ front) within whole claims refused)

pub rest_known : (mode : Mode) (root : List ℕ) (contents : Option (List ℕ)) (size : ℕ) (first seen text : List ℕ) (limit n : ℕ) → seen ≡ first
    → n ≡ min limit (min (size + 1) (2 ^ 64 - 1)) → length seen < limit → size < 2 ^ 64
    → IfSome contents (λ s. first ≡ take 65536 s) → IfSome contents (λ s. text ≡ take n s)
    → (0 < limit → (8 ≤ length seen) × (limit ≡ 8 + 64 * (chunk_count (claimed seen) - 1) + 1)) → IfSome contents (λ s. length s ≡ size → IsEnough mode root s text)
rest_known mode root None size first seen text limit n same n_is more low front rest claims = tt
rest_known mode root (Some s) size first seen text limit n same n_is more low front rest claims = λ said.
    rest_enough mode root s seen text limit n (same ∙ front) rest (n_is ∙ ap (λ (k : ℕ). min limit (min (k + 1) (2 ^ 64 - 1))) (sym said)) more (omega (arith, said, low)) claims

-- What has more than it is said to have hasn't as many as that.
pub none_more : (contents : Option (List ℕ)) (P : List ℕ → Type 0) (size n : ℕ) (text : List ℕ) → IfSome contents (λ s. text ≡ take n s) → size < length text
    → IfSome contents (λ s. length s ≡ size → P s)
none_more None P size n text front more = tt
none_more (Some s) P size n text front more = λ said. absurd (omega (arith, more, said, ap length front, length-take n s))
