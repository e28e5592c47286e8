-- What a seat that has all names finishes: no call of others comes between its own, and its own leave the state.
use Rattle.std.proofs.Common.{◌≡◌, ◌+◌, List, [], ◌∷◌, ◌++◌, length, Some, inl, inr, refl, sym, ap, subst, ◌∙◌, arith, length-append, append-nil}
use Rattle.std.proofs.lemmas.List.{nil_from_length}
use Rattle.gather.specs.FinishCalls.{Asks}
use Rattle.store_core.specs.declared.history.Call.{Call}
use Rattle.store_core.specs.declared.history.Call.TheVariants.{Length, Read}
use Rattle.store_core.specs.declared.history.Event.{Event}
use Rattle.store_core.specs.declared.view.Named.{Named}
use Rattle.store_core.specs.declared.view.SeatView.{SeatView}
use Rattle.store_core.specs.Events.{after_call}
use Rattle.store_core.specs.Histories.{state_after}
use Rattle.store_core.specs.Knowledge.{AreAllNames, Called, LooksRound, event_of}
use Rattle.store_core.specs.Names.{Name}
use Rattle.store_core.specs.States.{State, empty}
use Rattle.store_core.specs.Views.{mine, names_of}
use Rattle.store_core.proofs.Lasting.{run-append}
use Rattle.determined_stores.specs.Alone.{IsLone}

-- the call leaves any state
abbrev IsQuiet : Call → Type 0
IsQuiet call = (who : List Name) (s : State) → after_call who call s ≡ s

quiet_after : (h between : List Event) (view : SeatView) (call : Call) → length between ≡ 0 → IsQuiet call → state_after ((h ++ between) ++ event_of view call ∷ []) ≡ state_after h
quiet_after h between view call gap quiet =
    run-append empty (h ++ between) (event_of view call ∷ []) ∙ quiet (names_of view) (state_after (h ++ between))
    ∙ ap (λ (xs : List Event). state_after (h ++ xs)) (nil_from_length between gap) ∙ ap (λ (xs : List Event). state_after xs) (append-nil h)

-- how much a seat has seen that made one more call
seen_long : (old new : SeatView) (call : Call) → (did : Called call old new) → length new.seen ≡ length old.seen + length did.between + 1
seen_long old new call did = omega (
  arith,
  ap length did.goes_on.seen_is,
  length-append (old.seen ++ did.between) (event_of old call ∷ []),
  length-append old.seen did.between,
)

own_long : (old new : SeatView) (call : Call) → Called call old new → length (mine new) ≡ length (mine old) + 1
own_long old new call did = omega (arith, ap length did.goes_on.mine_is, length-append (mine old) (event_of old call ∷ []))

-- all that it has seen is its own
all_own : (new later : SeatView) → AreAllNames new.names → (looked : LooksRound new later) → length (mine new) ≡ length new.seen + length looked.sees.between
all_own new later all looked = omega (
  arith,
  ap length (looked.alone all),
  ap length looked.sees.goes_on.mine_is,
  length-append (mine new) [],
  ap length looked.sees.goes_on.seen_is,
  length-append (new.seen ++ looked.sees.between) [],
  length-append new.seen looked.sees.between,
)

pub asked_alone : (old new later : SeatView) → IsLone old → Asks old new → LooksRound new later → state_after new.seen ≡ state_after old.seen
asked_alone old new later lone (inl asks) looked =
    let did = asks.length in
    let names : AreAllNames new.names = subst (λ (ns : List Named). AreAllNames ns) (sym did.goes_on.names_are) lone.all in
    let no : length did.between ≡ 0 = omega (
      arith,
      all_own new later names looked,
      seen_long old new (Length asks.recorded) did,
      own_long old new (Length asks.recorded) did,
      ap length lone.own,
    ) in
    ap (λ (xs : List Event). state_after xs) did.goes_on.seen_is ∙ quiet_after old.seen did.between old (Length asks.recorded) no (λ who s. refl)
asked_alone old new later lone (inr asks) looked =
    let first = asks.length in
    let then = asks.then in
    let did = asks.read in
    let names : AreAllNames new.names =
    subst (λ (ns : List Named). AreAllNames ns) (sym did.goes_on.names_are) (subst (λ (ns : List Named). AreAllNames ns) (sym first.goes_on.names_are) lone.all) in
    let long = all_own new later names looked in
    let sum : length first.between + length did.between ≡ 0 = omega (
      arith,
      long,
      seen_long old then (Length (Some asks.len)) first,
      own_long old then (Length (Some asks.len)) first,
      seen_long then new (Read 0 asks.len asks.bytes) did,
      own_long then new (Read 0 asks.len asks.bytes) did,
      ap length lone.own,
    ) in
    ap (λ (xs : List Event). state_after xs) did.goes_on.seen_is
    ∙ quiet_after then.seen did.between then (Read 0 asks.len asks.bytes) (omega (arith, sum)) (λ who s. refl)
    ∙ ap (λ (xs : List Event). state_after xs) first.goes_on.seen_is
    ∙ quiet_after old.seen first.between old (Length (Some asks.len)) (omega (arith, sum)) (λ who s. refl)
