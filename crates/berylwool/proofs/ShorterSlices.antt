-- The nodes of a shorter slice with the same start are the first of a longer one's, so what an encoding begins with is an encoding.
use Rattle.std.proofs.Common.{◌≡◌, ℕ, ◌+◌, ◌-◌, ◌*◌, ◌/◌, ◌<◌, ◌≤◌, max, List, [], ◌∷◌, ◌++◌, true, false, sym, ap, ◌∙◌, arith, inl, inr, append_assoc}
use Rattle.std.proofs.lemmas.Bool.{cases_Bool, cases_lt}
use Rattle.std.proofs.lemmas.List.{append-nil}
use Rattle.b3tree.specs.Tree.{left_len}
use Rattle.bao_text.specs.declared.choice.Choice.{Choice}
use Rattle.bao_text.specs.Choice.{slice_end, slice_start, wants}
use Rattle.bao_text.specs.Nodes.{TreeNode, Side, nodes, subtree_nodes}
use Rattle.bao_text.proofs.Halves.{by_halves, far_nodes, near_nodes}
use Rattle.bao_text.proofs.SubtreeNodes.{parent_node, subtree_nodes-leaf, subtree_nodes-parent, subtree_nodes-unwanted}
use Rattle.bao_text.proofs.SubtreeText.{Parts}
use Rattle.bao_check.proofs.Presence.{Meets, Meets-from_wants, wants-from_Meets}

-- the first list begins with the second
pub record Begins {X : Type 0} (all front : List X) : Type 0 where
  pub rest : List X
  pub is : all ≡ front ++ rest

abbrev choice : ℕ → ℕ → Choice
choice start end = record { start = start; end = end; chunks = true }

-- positions up to a later one are wanted too
wants_more : (start low high at n : ℕ) → low ≤ high → wants (choice start low) at n ≡ true → wants (choice start high) at n ≡ true
wants_more start low high at n le wanted =
    let m : Meets (choice start low) at n = Meets-from_wants (choice start low) at n wanted in
    wants-from_Meets (choice start high) at n (record { before = omega (arith, m.before, le); after = m.after })

-- where both end later than a subtree, both want it or neither does
wants_same : (start low high at n : ℕ) → low ≤ high → at + max n 1 ≤ low → wants (choice start high) at n ≡ wants (choice start low) at n
wants_same start low high at n le within = elim (cases_Bool (wants (choice start high) at n)) [
  | inl wanted ↦
      let m : Meets (choice start high) at n = Meets-from_wants (choice start high) at n wanted in
      wanted ∙ sym (wants-from_Meets (choice start low) at n (record { before = omega arith; after = m.after }))
  | inr skipped ↦ elim (cases_Bool (wants (choice start low) at n)) [
    | inl wanted ↦ wants_more start low high at n le wanted ∙ sym wanted
    | inr both ↦ skipped ∙ sym both
  ]
]

-- what begins where the positions end isn't wanted
wants_past : (start end at n : ℕ) → end ≤ at → wants (choice start end) at n ≡ false
wants_past start end at n past = elim (cases_Bool (wants (choice start end) at n)) [
  | inl wanted ↦ absurd (omega (arith, (Meets-from_wants (choice start end) at n wanted).before, past))
  | inr skipped ↦ skipped
]

module _ (start low high : ℕ) (le : low ≤ high) where
  abbrev Some : ℕ → ℕ → List Side → ℕ → Type 0
  Some number n sides source = Begins (subtree_nodes (choice start high) number n sides source) (subtree_nodes (choice start low) number n sides source)
      × (1024 * number + max n 1 ≤ low → subtree_nodes (choice start high) number n sides source ≡ subtree_nodes (choice start low) number n sides source)

  leaf : (number n : ℕ) (sides : List Side) (source : ℕ) → n ≤ 1024 → Some number n sides source
  leaf number n sides source one = elim (cases_Bool (wants (choice start low) (1024 * number) n)) [
    | inl wanted ↦
        let same = subtree_nodes-leaf (choice start high) number n sides source (wants_more start low high (1024 * number) n le wanted) one
        ∙ sym (subtree_nodes-leaf (choice start low) number n sides source wanted one) in
        (record { rest = []; is = same ∙ sym (append-nil _) }, λ _. same)
    | inr skipped ↦
        let none = subtree_nodes-unwanted (choice start low) number n sides source skipped in (
          record { rest = subtree_nodes (choice start high) number n sides source; is = ap (λ (s : List TreeNode). s ++ subtree_nodes (choice start high) number n sides source) (sym none) },
          λ within. subtree_nodes-unwanted (choice start high) number n sides source (wants_same start low high (1024 * number) n le within ∙ skipped) ∙ sym none,
        )
  ]

  both : (number n : ℕ) (sides : List Side) (source : ℕ) → 1024 < n → Parts n (left_len n) → wants (choice start low) (1024 * number) n ≡ true
      → Begins (near_nodes (choice start high) number n sides source ++ far_nodes (choice start high) number n sides source)
      (near_nodes (choice start low) number n sides source ++ far_nodes (choice start low) number n sides source)
      → Begins (subtree_nodes (choice start high) number n sides source) (subtree_nodes (choice start low) number n sides source)
  both number n sides source more parts wanted begins = record {
    rest = begins.rest;
    is = subtree_nodes-parent (choice start high) number n sides source (wants_more start low high (1024 * number) n le wanted) more
        ∙ ap (λ (s : List TreeNode). parent_node number n sides source ∷ s) begins.is
        ∙ ap (λ (s : List TreeNode). s ++ begins.rest) (sym (subtree_nodes-parent (choice start low) number n sides source wanted more));
  }

  parted : {X : Type 0} (a b a' b' : List X) → Begins a a' → b' ≡ [] → Begins (a ++ b) (a' ++ b')
  parted a b a' b' begins none = record {
    rest = begins.rest ++ b;
    is = ap (λ s. s ++ b) begins.is ∙ append_assoc a' begins.rest b ∙ ap (λ s. s ++ (begins.rest ++ b)) (sym (append-nil a') ∙ ap (λ s. a' ++ s) (sym none));
  }

  joined : {X : Type 0} (a b a' b' : List X) → a ≡ a' → Begins b b' → Begins (a ++ b) (a' ++ b')
  joined a b a' b' same begins = record {
    rest = begins.rest;
    is = ap (λ s. s ++ b) same ∙ ap (λ s. a' ++ s) begins.is ∙ sym (append_assoc a' b' begins.rest);
  }

  shorter : (number n : ℕ) (sides : List Side) (source : ℕ) → Some number n sides source
  shorter = by_halves Some leaf (λ number n sides source more parts near far.
      let l : ℕ = left_len n in
      let near_high : List TreeNode = near_nodes (choice start high) number n sides source in
      let far_high : List TreeNode = far_nodes (choice start high) number n sides source in
      let near_low : List TreeNode = near_nodes (choice start low) number n sides source in
      let far_low : List TreeNode = far_nodes (choice start low) number n sides source in
      elim (cases_Bool (wants (choice start low) (1024 * number) n)) [
        | inl wanted ↦ (
          both number n sides source more parts wanted (elim (cases_lt low (1024 * number + l)) [
            | inl before ↦ parted near_high far_high near_low far_low near.0
                (subtree_nodes-unwanted (choice start low) (number + l / 1024) (n - l) _ _ (wants_past start low (1024 * (number + l / 1024)) (n - l) (omega (arith, before, parts.whole))))
            | inr after ↦ joined near_high far_high near_low far_low (near.1 (omega (arith, after, parts.some))) far.0
          ]),
          λ within.
              subtree_nodes-parent (choice start high) number n sides source (wants_more start low high (1024 * number) n le wanted) more
              ∙ (λ i. parent_node number n sides source ∷ (near.1 (omega (arith, within, parts.some, parts.below)) i ++ far.1 (omega (arith, within, parts.whole, parts.below)) i))
              ∙ sym (subtree_nodes-parent (choice start low) number n sides source wanted more),
        )
        | inr skipped ↦
            let none = subtree_nodes-unwanted (choice start low) number n sides source skipped in (
              record { rest = subtree_nodes (choice start high) number n sides source; is = ap (λ (s : List TreeNode). s ++ subtree_nodes (choice start high) number n sides source) (sym none) },
              λ within. subtree_nodes-unwanted (choice start high) number n sides source (wants_same start low high (1024 * number) n le within ∙ skipped) ∙ sym none,
            )
      ])

-- a slice begins with each shorter one
pub slice_begins : (total start part len : ℕ) → part ≤ len → Begins (nodes total start len) (nodes total start part)
slice_begins total start part len le = (shorter (slice_start total start) (slice_end total start part) (slice_end total start len) (omega arith) 0 total [] 8).0
