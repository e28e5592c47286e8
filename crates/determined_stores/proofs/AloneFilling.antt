-- What a seat that is alone has seen after its rounds.
use Rattle.std.proofs.Common.{◌≡◌, ◌∙◌, ◌⊎◌, ℕ, true, false, List, [], ◌++◌, Contains, Some, is_some, inl, inr, sym, subst, append-nil}
use Rattle.std.proofs.lemmas.Bool.{both_ways}
use Rattle.b3tree.specs.Valid.{IsKeyed}
use Rattle.gather.specs.Filling.{IsBusyBeside}
use Rattle.gather.specs.SeatLasting.{HasParentOn, HoldsOn, IsFromNow, RecordsOn}
use Rattle.gather.specs.declared.crew.Crew.{Crew}
use Rattle.gather.specs.Seats.{GoneOn}
use Rattle.gather.specs.Filled.{HasAllParents, IsFilled}
use Rattle.store_core.proofs.Bound.{record_binds}
use Rattle.store_core.specs.Histories.{IsLegal, state_after}
use Rattle.store_core.specs.Knowledge.{AreAllNames}
use Rattle.holders.specs.Blobs.{IsBlob}
use Rattle.store_core.specs.States.{State, is_held}
use Rattle.store_core.specs.Stores.{CollisionSettled}
use Rattle.store_core.specs.Views.{seat_claims}
use Rattle.holders.specs.declared.fixed.Fixed.{Fixed}
use Rattle.store_core.specs.declared.history.Event.{Event}
use Rattle.holders.specs.declared.piece.Piece.{Piece}
use Rattle.store_core.specs.declared.view.Named.{Named}
use Rattle.store_shared.specs.Seats.{Gripped}
use Rattle.determined_stores.specs.Serves.{HasChunksBeside, HasEveryNode}

-- what is so from now on is so now
now_of : (P : State → Type 0) (seat : Gripped) → IsLegal seat.view.fixed seat.view.seen → IsFromNow P seat → P (state_after seat.view.seen)
now_of P seat legal is =
    let same : seat.view.seen ++ [] ≡ seat.view.seen = append-nil seat.view.seen in
    subst (λ (h : List Event). P (state_after h)) same (is [] (subst (λ (h : List Event). IsLegal seat.view.fixed h) (sym same) legal))

pub every_node : (handed : Piece → Type 0) (fixed : Fixed) (old new : Gripped) (n q : ℕ) (blob : List ℕ) (busy : Gripped → Gripped → ℕ → Type 0) → IsKeyed fixed.mode → IsBlob fixed blob
    → new.view.fixed ≡ fixed → IsLegal new.view.fixed new.view.seen → GoneOn handed old new n q → AreAllNames old.view.names → ((c : ℕ) → busy old new c → ⊥)
    → IsFilled RecordsOn HoldsOn busy old new blob → HasAllParents RecordsOn HasParentOn new blob
    → HasEveryNode (state_after new.view.seen) blob ⊎ ((l : ℕ) × CollisionSettled fixed new.view.seen blob l)
every_node handed fixed old new n q blob busy keyed is of legal gone all never filled full =
    let l : ℕ = full.recorded in
    let recorded : (state_after new.view.seen).recorded ≡ Some l = now_of (λ (s : State). s.recorded ≡ Some l) new legal full.is in
    elim (record_binds fixed new.view.seen blob l keyed is (subst (λ (f : Fixed). IsLegal f new.view.seen) of legal) recorded) [
      | inr from ↦ inr (l, record { settled = from.0; pair = from.1 })
      | inl long ↦
          let one : Some filled.recorded ≡ Some l = sym (now_of (λ (s : State). s.recorded ≡ Some filled.recorded) new legal filled.is) ∙ recorded in
          let both : filled.recorded ≡ l = cc in
          let names : AreAllNames new.view.names = subst (λ (ns : List Named). AreAllNames ns) (sym gone.names_are) all in
          inl (record {
            recorded = subst (λ (m : ℕ). (state_after new.view.seen).recorded ≡ Some m) long recorded;
            chunks = λ c below. elim (filled.chunks (both ∙ long) c below) [
              | inl holds ↦ now_of (λ (s : State). is_held s c ≡ true) new legal holds
              | inr claimed ↦ absurd (never c claimed)
            ];
            parents = λ m low below. now_of (λ (s : State). is_some (s.parents m) ≡ true) new legal (full.parents long m low below names);
          })
    ]

-- What a seat beside crews that claimed nothing before has seen.
pub every_chunk : {H : Type 0} (crews : List (Crew H)) (fixed : Fixed) (old new : Gripped) (blob : List ℕ) → IsKeyed fixed.mode → IsBlob fixed blob → new.view.fixed ≡ fixed
    → IsLegal new.view.fixed new.view.seen → ((crew : Crew H) (c : ℕ) → Contains crews crew → seat_claims crew.seat.view c ≡ false) → ((c : ℕ) → seat_claims old.view c ≡ false)
    → IsFilled RecordsOn HoldsOn (IsBusyBeside crews) old new blob
    → HasChunksBeside crews old.view new.view blob ⊎ ((l : ℕ) × CollisionSettled fixed new.view.seen blob l)
every_chunk crews fixed old new blob keyed is of legal free own filled =
    let recorded : (state_after new.view.seen).recorded ≡ Some filled.recorded = now_of (λ (s : State). s.recorded ≡ Some filled.recorded) new legal filled.is in
    elim (record_binds fixed new.view.seen blob filled.recorded keyed is (subst (λ (f : Fixed). IsLegal f new.view.seen) of legal) recorded) [
      | inr from ↦ inr (filled.recorded, record { settled = from.0; pair = from.1 })
      | inl long ↦ inl (record {
        recorded = subst (λ (m : ℕ). (state_after new.view.seen).recorded ≡ Some m) long recorded;
        chunks = λ c below. elim (filled.chunks long c below) [
          | inl holds ↦ inl (now_of (λ (s : State). is_held s c ≡ true) new legal holds)
          | inr (inl claims) ↦ absurd (both_ways _ (own c) claims)
          | inr (inr (others, inl by)) ↦ absurd (both_ways _ (free by.crew c by.among) by.claims)
          | inr (inr (others, inr outside)) ↦ inr outside
        ];
      })
    ]
