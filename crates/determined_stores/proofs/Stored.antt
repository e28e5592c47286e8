-- What two stores gained of a chunk.
use Rattle.std.proofs.Common.{◌≡◌, ◌⊎◌, ℕ, ◌+◌, ◌-◌, ◌^◌, List, ◌++◌, Option, None, Some, min, sym, ap, subst, ◌∙◌, inl, inr, arith}
use Rattle.std.proofs.lemmas.List.Sums.{sum_by-append}
use Rattle.bao_check.specs.Pieces.{chunk_of}
use Rattle.holders.specs.Blobs.{HasCollision}
use Rattle.gather.specs.declared.report.Report.{Report}
use Rattle.gather.specs.Worked.{AddsBlobs, Gains, HasWorked, chunks_in}
use Rattle.holders.specs.declared.fixed.Fixed.{Fixed}
use Rattle.holders.specs.declared.piece.Piece.{Piece}
use Rattle.store_core.specs.declared.store.Store.{Store}
use Rattle.store_core.specs.declared.history.Event.{Event}
use Rattle.store_core.specs.Histories.{AreLegalFrom, IsLegal, run, state_after}
use Rattle.store_core.specs.Laws.{chunks_of}
use Rattle.holders.specs.Blobs.{IsBlob}
use Rattle.store_core.specs.Reached.{IsReached}
use Rattle.store_core.specs.States.{State, empty, held_count}
use Rattle.store_core.specs.Stores.{IsSame, fixed_of, state_of}
use Rattle.store_core.proofs.Adding.{committed_add_up}
use Rattle.store_core.proofs.Lasting.{legal-join, run-append}

-- a chunk gained is the blob's, counted from the store's first
gained_is : (handed : Piece → Type 0) (old new : Store) → AddsBlobs handed old new → (blob : List ℕ) → IsBlob (fixed_of old) blob → (c : ℕ) (x : List ℕ)
    → (state_of old).held c ≡ None → (state_of new).held c ≡ Some x → (chunk_of blob ((fixed_of old).base + c) ≡ Some x) ⊎ HasCollision handed (fixed_of old) blob
gained_is handed old new adds blob is c x before after = elim (adds blob is c x after) [
  | inl had ↦ let no : None ≡ Some x = sym before ∙ had in cc
  | inr (inl same) ↦ inl same
  | inr (inr pair) ↦ inr (record { piece = pair.0.piece; from = pair.0.from; accepted = pair.0.accepted; pair = pair.1 })
]

same_bytes : (o : Option (List ℕ)) (x y : List ℕ) → o ≡ Some x → o ≡ Some y → x ≡ y
same_bytes o x y one other = let same : Some x ≡ Some y = sym one ∙ other in cc

pub gains_agree : {H : Type 0} (handed : List H → Piece → Type 0) (a a' b b' : Store) (ours theirs : List H) → IsSame a b → ours ≡ theirs
    → AddsBlobs (handed ours) a a' → AddsBlobs (handed theirs) b b' → (blob : List ℕ) → IsBlob (fixed_of a) blob → (c : ℕ) (x y : List ℕ)
    → (state_of a).held c ≡ None → (state_of a').held c ≡ Some x → (state_of b').held c ≡ Some y → (x ≡ y) ⊎ HasCollision (handed ours) (fixed_of a) blob
gains_agree handed a a' b b' ours theirs same equal one other blob is c x y before after then =
    let there : IsBlob (fixed_of b) blob = subst (λ (f : Fixed). IsBlob f blob) (sym same.fixed) is in
    let free : (state_of b).held c ≡ None = subst (λ (s : State). s.held c ≡ None) (sym same.state) before in
    elim (gained_is (handed ours) a a' one blob is c x before after) [
      | inr pair ↦ inr pair
      | inl mine ↦ elim (gained_is (handed theirs) b b' other blob there c y free then) [
        | inl too ↦
            inl (same_bytes (chunk_of blob ((fixed_of a).base + c)) x y mine (subst (λ (f : Fixed). chunk_of blob (f.base + c) ≡ Some y) same.fixed too))
        | inr pair ↦
            inr (subst (λ (hs : _). HasCollision (handed hs) (fixed_of a) blob) (sym equal) (subst (λ (f : Fixed). HasCollision (handed theirs) f blob) same.fixed pair))
      ]
    ]

-- how many chunks are held afterwards, by what a worker's calls stored
counted : (handed : Piece → Type 0) (old new : Store) (chunks parents : ℕ) → IsReached (fixed_of old) (state_of old) → HasWorked handed old new chunks parents
    → chunks + held_count (state_of old) (fixed_of old).capacity ≡ held_count (state_of new) (fixed_of old).capacity
counted handed old new chunks parents by worked =
    let fixed = fixed_of old in
    let n = fixed.capacity in
    let there : AreLegalFrom fixed (state_after by.history) worked.events =
    subst (λ (s : State). AreLegalFrom fixed s worked.events) (sym by.is) worked.legal in
    let whole : IsLegal fixed (by.history ++ worked.events) = legal-join fixed empty by.history worked.events by.legal there in
    let before : chunks_in by.history ≡ held_count (state_of old) n =
    committed_add_up fixed by.history by.legal ∙ ap (λ (s : State). held_count s n) by.is in
    let is : state_after (by.history ++ worked.events) ≡ state_of new =
    run-append empty by.history worked.events ∙ ap (λ (s : State). run s worked.events) by.is ∙ sym worked.after in
    let after : chunks_in (by.history ++ worked.events) ≡ held_count (state_of new) n =
    committed_add_up fixed (by.history ++ worked.events) whole ∙ ap (λ (s : State). held_count s n) is in
    let sum : chunks_in (by.history ++ worked.events) ≡ chunks_in by.history + chunks_in worked.events =
    sum_by-append (λ (e : Event). chunks_of e.call) by.history worked.events in
    omega (arith, worked.counts, before, after, sum)

pub committed_agree : {H : Type 0} (handed : List H → Piece → Type 0) (a a' b b' : Store) (ours theirs : List H) (r s : Report) → IsSame a b
    → Gains (handed ours) a a' r → Gains (handed theirs) b b' s → IsReached (fixed_of a) (state_of a)
    → held_count (state_of a') (fixed_of a).capacity ≡ held_count (state_of b') (fixed_of a).capacity → r.committed ≡ s.committed
committed_agree handed a a' b b' ours theirs r s same one other by equal =
    let there : IsReached (fixed_of b) (state_of b) =
    subst (λ (f : Fixed). IsReached f (state_of b)) (sym same.fixed) (subst (λ (t : State). IsReached (fixed_of a) t) (sym same.state) by) in
    let mine = counted (handed ours) a a' one.chunks one.parents by one.worked in
    let its = counted (handed theirs) b b' other.chunks other.parents there other.worked in
    let room : (fixed_of b).capacity ≡ (fixed_of a).capacity = ap (λ (f : Fixed). f.capacity) same.fixed in
    let old : held_count (state_of b) (fixed_of b).capacity ≡ held_count (state_of a) (fixed_of a).capacity =
    ap (λ (t : State). held_count t (fixed_of b).capacity) same.state ∙ ap (λ (n : ℕ). held_count (state_of a) n) room in
    let new : held_count (state_of b') (fixed_of b).capacity ≡ held_count (state_of b') (fixed_of a).capacity = ap (λ (n : ℕ). held_count (state_of b') n) room in
    let chunks : one.chunks ≡ other.chunks = omega (arith, mine, its, old, new, equal) in
    one.committed ∙ ap (λ (n : ℕ). min n (2 ^ 64 - 1)) chunks ∙ sym other.committed
