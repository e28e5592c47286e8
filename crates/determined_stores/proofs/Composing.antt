-- What a peer gives whose store has every node of a blob, and what comes of it.
use Rattle.std.proofs.Common.{◌≡◌, ◌∙◌, ◌⊎◌, zero, suc, ℕ, ◌-◌, ◌*◌, ◌/◌, ◌^◌, ◌<◌, ◌≤◌, true, false, List, [], ◌∷◌, ◌++◌, length, Option, None, Some, slice_get, is_some, inl, inr, refl, sym, ap, subst, arith, below_more}
use Rattle.std.specs.Prelude.{Contains}
use Rattle.b3tree.specs.Valid.{IsKeyed}
use Rattle.bao_check.proofs.Lists.{Contains-head, Contains-tail}
use Rattle.bao_text.specs.Choice.{chunk_count}
use Rattle.bao_text.specs.NodeNames.{slice_names}
use Rattle.bao_text.specs.Texts.{length_text}
use Rattle.bao_text.specs.declared.walk.Node.{Node}
use Rattle.gather.specs.Peers.{MayServe, Peered, text_of}
use Rattle.gather.proofs.Binding.{pair_of, some_bytes}
use Rattle.holders.proofs.Same.{pair_wider}
use Rattle.gather.proofs.Handing.{large_pair}
use Rattle.gather.specs.Filled.{HasAllParents, IsFilled}
use Rattle.holders.specs.Available.{GivesSlice, HasSlice, HaveSlices, IsAskedBy}
use Rattle.gather.specs.Counts.{HasFailed, IsToldTooLarge}
use Rattle.holders.specs.Holders.{IsGiven, IsHanded}
use Rattle.holders.specs.Blobs.{HasCollision, IsTooLarge}
use Rattle.gather.specs.Lasting.{HasParent, HoldsChunk, IsBusy, Records}
use Rattle.gather.specs.Worked.{Gains}
use Rattle.holders.specs.declared.grain.Grain.TheVariants.{Group as ByGroup}
use Rattle.gather.specs.declared.report.Report.{Report}
use Rattle.store_core.proofs.Bound.{record_binds}
use Rattle.store_core.proofs.Lasting.{held_lasts, record_lasts}
use Rattle.store_core.proofs.ParentOrigins.{parent_lasts}
use Rattle.store_core.proofs.ServingLaws.{collision_for, served_nodes_bind}
use Rattle.store_core.specs.Histories.{AreLegalFrom, IsLegal, run, state_after}
use Rattle.store_core.specs.Laws.{CollisionOf}
use Rattle.holders.specs.Blobs.{IsBlob}
use Rattle.store_core.specs.Serves.{after_bytes, node_and, node_held, served, serving, serving_of}
use Rattle.store_core.specs.States.{State, empty, is_claimed}
use Rattle.store_core.specs.Stores.{fixed_of, state_of}
use Rattle.holders.specs.declared.fixed.Fixed.{Fixed}
use Rattle.store_core.specs.declared.history.Event.{Event}
use Rattle.holders.specs.declared.piece.Piece.{Piece}
use Rattle.store_core.specs.declared.history.Serving.{Serving}
use Rattle.store_core.specs.declared.store.Store.{Store}
use Rattle.store_shared.proofs.ServedSlices.{all_served}
use Rattle.determined_stores.proofs.PieceNodes.{each_node}
use Rattle.determined_stores.specs.Serves.{HasEveryNode, IsAnyNode}

-- nodes of which two states hold the same are served alike
same_served : (s t : State) (nodes : List Node) → ((node : Node) → Contains nodes node → node_held t node ≡ node_held s node) → served t nodes ≡ served s nodes
same_served s t [] same = refl
same_served s t (node ∷ nodes) same =
    ap (λ (o : Option (List ℕ)). node_and node o (served t nodes)) (same node (Contains-head nodes node))
    ∙ ap (λ (rest : Serving). node_and node (node_held s node) rest) (same_served s t nodes (λ x there. same x (Contains-tail nodes node x there)))

same_serving : (s t : State) (l start len : ℕ) → s.recorded ≡ Some l → t.recorded ≡ Some l
    → ((node : Node) → Contains (slice_names l start len) node → node_held t node ≡ node_held s node) → serving t start len ≡ serving s start len
same_serving s t l start len before after same =
    ap (λ (o : Option ℕ). serving_of o t start len) after ∙ ap (λ (rest : Serving). after_bytes (length_text l) rest) (same_served s t (slice_names l start len) same)
    ∙ sym (ap (λ (o : Option ℕ). serving_of o s start len) before)

join_or : (P : ℕ → Type 0) (K : Type 0) (n : ℕ) → ((i : ℕ) → i < n → P i) ⊎ K → P n ⊎ K → ((i : ℕ) → i < suc n → P i) ⊎ K
join_or P K n (inl before) (inl here) = inl (λ i below. below_more P n before here i (omega (arith, below)))
join_or P K n (inl before) (inr k) = inr k
join_or P K n (inr k) here = inr k

-- each number below a limit has a property, or there is an exception for all
all_or : (P : ℕ → Type 0) (K : Type 0) (n : ℕ) → ((i : ℕ) → P i ⊎ K) → ((i : ℕ) → i < n → P i) ⊎ K
all_or P K zero each = inl (λ i below. absurd (omega (arith, below)))
all_or P K (suc n) each = join_or P K n (all_or P K n each) (each n)

one_there : (peer holder : Peered) (place : ℕ) → slice_get (peer ∷ []) place ≡ Some holder → holder ≡ peer
one_there peer holder zero e = let same : Some peer ≡ Some holder = e in cc
one_there peer holder (suc place) e = let no : None ≡ Some holder = e in cc

-- what the one holder hands over it may give
handed_one : (peer : Peered) (piece : Piece) → IsHanded MayServe (peer ∷ []) piece → IsGiven MayServe peer piece
handed_one peer piece from = subst (λ (holder : Peered). IsGiven MayServe holder piece) (one_there peer from.holder from.place from.there) from.given

module _ (peer : Peered) (blob : List ℕ) (keyed : IsKeyed peer.seat.view.fixed.mode) (is : IsBlob peer.seat.view.fixed blob)
    (legal : IsLegal peer.seat.view.fixed peer.seat.view.seen) (has : HasEveryNode (state_after peer.seat.view.seen) blob) where
  abbrev seen : List Event
  seen = peer.seat.view.seen

  abbrev fixed : Fixed
  fixed = peer.seat.view.fixed

  abbrev Collides : Type 0
  Collides = CollisionOf fixed seen blob IsAnyNode

  -- its store holds the same of them later
  later_nodes : (more : List Event) → IsLegal fixed (seen ++ more) → (start len : ℕ) (x : Node) → Contains (slice_names (length blob) start len) x
      → node_held (state_after (seen ++ more)) x ≡ node_held (state_after seen) x
  later_nodes more further start len =
      each_node (length blob) start len (λ (x : Node). node_held (state_after (seen ++ more)) x ≡ node_held (state_after seen) x)
      (λ c below. let there = some_bytes ((state_after seen).held c) (has.chunks c below) in held_lasts fixed seen more c there.0 further there.1 ∙ sym there.1)
      (λ m low below. let there = some_bytes ((state_after seen).parents m) (has.parents m low below) in parent_lasts fixed seen more m there.0 further there.1 ∙ sym there.1)

  -- it gives nothing else as a slice than the blob's
  gives_or : (start len : ℕ) → GivesSlice MayServe fixed.mode blob start len peer ⊎ Collides
  gives_or start len =
      let w = all_served (state_after seen) (length blob) start len has.recorded
      (each_node (length blob) start len (λ (x : Node). is_some (node_held (state_after seen) x) ≡ true) has.chunks has.parents) in
      elim (served_nodes_bind fixed seen blob start len w.0 keyed is legal w.1) [
        | inr pair ↦ inr (collision_for fixed seen blob _ IsAnyNode (λ node of. tt) pair)
        | inl same ↦
            inl (λ text may.
            may.is
            ∙ ap text_of (same_serving (state_after seen) (state_after (seen ++ may.more)) (length blob) start len has.recorded
            (record_lasts fixed seen may.more (length blob) may.legal has.recorded) (later_nodes may.more may.legal start len) ∙ w.1)
            ∙ same)
      ]

  slice_here : (start len : ℕ) → GivesSlice MayServe fixed.mode blob start len peer → HasSlice MayServe fixed.mode blob start len (peer ∷ [])
  slice_here start len gives = record { place = 0; holder = peer; there = refl; gives_slice = gives }

  asked_here : (c start len : ℕ) → IsAskedBy ByGroup c start len → GivesSlice MayServe fixed.mode blob (65536 * (c / 64)) 65536 peer
      → HasSlice MayServe fixed.mode blob start len (peer ∷ [])
  asked_here c start len asked gives =
      subst (λ (n : ℕ). HasSlice MayServe fixed.mode blob n len (peer ∷ [])) (sym asked.0)
      (subst (λ (n : ℕ). HasSlice MayServe fixed.mode blob (65536 * (c / 64)) n (peer ∷ [])) (sym asked.1) (slice_here (65536 * (c / 64)) 65536 gives))

  slices_or : HaveSlices ByGroup MayServe fixed.mode blob (peer ∷ []) ⊎ Collides
  slices_or = elim (gives_or (2 ^ 64 - 1) 1) [
    | inr pair ↦ inr pair
    | inl end ↦ elim (all_or (λ c. GivesSlice MayServe fixed.mode blob (65536 * (c / 64)) 65536 peer) Collides (chunk_count (length blob)) (λ c. gives_or (65536 * (c / 64)) 65536)) [
      | inr pair ↦ inr pair
      | inl each ↦ inl (record { end = slice_here (2 ^ 64 - 1) 1 end; each = λ c start len below asked. asked_here c start len asked (each c below) })
    ]
  ]

  -- a new store that one worker filled from it alone
  module _ (capacity : ℕ) (old new : Store) (report : Report) (gains : Gains (IsHanded MayServe (peer ∷ [])) old new report)
      (same : fixed_of old ≡ record { root = fixed.root; mode = fixed.mode; capacity = capacity; base = 0 }) (fresh : state_of old ≡ empty)
      (room : chunk_count (length blob) ≤ capacity) where
    abbrev empty_fixed : Fixed
    empty_fixed = record { root = fixed.root; mode = fixed.mode; capacity = capacity; base = 0 }

    abbrev Named : Type 0
    Named = HasCollision (IsGiven MayServe peer) (fixed_of new) blob

    its : IsBlob empty_fixed blob
    its = record { bytes = is.bytes; root = is.root }

    named : HasCollision (IsHanded MayServe (peer ∷ [])) empty_fixed blob → Named
    named pair =
        subst (λ (f : Fixed). HasCollision (IsGiven MayServe peer) f blob) (sym (gains.worked.fixed ∙ same))
        (pair_wider (IsHanded MayServe (peer ∷ [])) (IsGiven MayServe peer) (handed_one peer) empty_fixed blob pair)

    there : state_of new ≡ state_after gains.worked.events
    there = gains.worked.after ∙ ap (λ (s : State). run s gains.worked.events) fresh

    legal_there : IsLegal empty_fixed gains.worked.events
    legal_there = subst (λ (f : Fixed). IsLegal f gains.worked.events) same (subst (λ (s : State). AreLegalFrom (fixed_of old) s gains.worked.events) fresh gains.worked.legal)

    whole : IsFilled Records HoldsChunk IsBusy old new blob → HasAllParents Records HasParent new blob → HasEveryNode (state_of new) blob ⊎ Named
    whole filled full =
        let events : List Event = gains.worked.events in
        let l : ℕ = full.recorded in
        elim (record_binds empty_fixed events blob l keyed its legal_there (subst (λ (s : State). s.recorded ≡ Some l) there full.is)) [
          | inr from ↦ inr (named (pair_of (IsHanded MayServe (peer ∷ [])) empty_fixed events blob gains.worked.from (inr (l, record { settled = from.0; pair = from.1 }))))
          | inl long ↦
              let one : Some filled.recorded ≡ Some l = sym filled.is ∙ full.is in
              let both : filled.recorded ≡ l = cc in
              inl (record {
                recorded = subst (λ (n : ℕ). (state_of new).recorded ≡ Some n) long full.is;
                chunks = λ c below. elim (filled.chunks (both ∙ long) c below) [
                  | inl held ↦ held
                  | inr busy ↦ let no : false ≡ true = subst (λ (s : State). is_claimed s c ≡ true) fresh busy in cc
                ];
                parents = full.parents long;
              })
        ]

    too_large : IsTooLarge (IsHanded MayServe (peer ∷ [])) (fixed_of old) → Named
    too_large large =
        named (large_pair (IsHanded MayServe (peer ∷ [])) empty_fixed blob keyed its refl room (subst (λ (f : Fixed). IsTooLarge (IsHanded MayServe (peer ∷ [])) f) same large))

    pub peer_filled : ((b : List ℕ) → IsBlob (fixed_of old) b → (fixed_of old).base ≡ 0 → chunk_count (length b) ≤ (fixed_of old).capacity
        → HaveSlices ByGroup MayServe (fixed_of old).mode b (peer ∷ [])
        → HasFailed report ⊎ IsToldTooLarge report (IsHanded MayServe (peer ∷ [])) (fixed_of old) ⊎ IsFilled Records HoldsChunk IsBusy old new b)
        → ((b : List ℕ) → IsBlob (fixed_of old) b → (fixed_of old).base ≡ 0 → chunk_count (length b) ≤ (fixed_of old).capacity
        → HaveSlices ByGroup MayServe (fixed_of old).mode b (peer ∷ [])
        → HasFailed report ⊎ IsToldTooLarge report (IsHanded MayServe (peer ∷ [])) (fixed_of old) ⊎ HasAllParents Records HasParent new b)
        → HasFailed report ⊎ HasEveryNode (state_of new) blob ⊎ Named ⊎ Collides
    peer_filled available complete = elim slices_or [
      | inr pair ↦ inr (inr (inr pair))
      | inl have ↦
          let of : IsBlob (fixed_of old) blob = subst (λ (f : Fixed). IsBlob f blob) (sym same) its in
          let first : (fixed_of old).base ≡ 0 = ap (λ (f : Fixed). f.base) same in
          let fits : chunk_count (length blob) ≤ (fixed_of old).capacity = subst (λ (f : Fixed). chunk_count (length blob) ≤ f.capacity) (sym same) room in
          let given : HaveSlices ByGroup MayServe (fixed_of old).mode blob (peer ∷ []) =
          subst (λ (f : Fixed). HaveSlices ByGroup MayServe f.mode blob (peer ∷ [])) (sym same) have in
          elim (available blob of first fits given) [
            | inl failed ↦ inl failed
            | inr (inl large) ↦ inr (inr (inl (too_large large.1)))
            | inr (inr filled) ↦ elim (complete blob of first fits given) [
              | inl failed ↦ inl failed
              | inr (inl large) ↦ inr (inr (inl (too_large large.1)))
              | inr (inr full) ↦ elim (whole filled full) [ inl every ↦ inr (inl every) | inr pair ↦ inr (inr (inl pair)) ]
            ]
          ]
    ]
