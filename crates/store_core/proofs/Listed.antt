-- The pieces of a run's events are pieces of the list.
use Rattle.std.proofs.lemmas.Bool.Decides.{nat_tests}
use Rattle.std.proofs.Common.{arith, ◌≡◌, ℕ, false, List, [], ◌∷◌, Option, None, Some, option_map, slice_get, refl, sym, subst, inl, inr}
use Rattle.std.specs.List.{AllByRecursion}
use Rattle.b3tree.specs.Valid.{IsKeyed}
use Rattle.bao_check.specs.declared.checked.Checked.{Checked}
use Rattle.bao_check.proofs.Lists.{All-append, All-member}
use Rattle.holders.specs.declared.fixed.Fixed.{Fixed}
use Rattle.store_core.specs.declared.history.Call.{Call}
use Rattle.store_core.specs.declared.history.Call.TheVariants.{Commit, Settle as SettleCall}
use Rattle.store_core.specs.declared.history.Event.{Event}
use Rattle.holders.specs.declared.piece.Piece.{Piece}
use Rattle.store_core.specs.declared.history.Settling.TheVariants.{Settled}
use Rattle.store_core.specs.declared.micro.MicroStep.{MicroStep}
use Rattle.store_core.specs.declared.micro.MicroStep.TheVariants.{Hash, Write, GiveBack, Load}
use Rattle.store_core.specs.declared.micro.Reply.{Reply}
use Rattle.store_core.specs.declared.store.Store.{Store}
use Rattle.store_core.specs.Machine.{Machine, MachineSeat, start, with_seat}
use Rattle.holders.specs.Pieces.{piece_of}
use Rattle.store_core.specs.Replays.{IsListed, ReplayBinds}
use Rattle.store_core.specs.Schedules.{Runs, after_step, step_events}
use Rattle.store_core.specs.States.{State}
use Rattle.store_core.proofs.Bound.{held_binds, record_binds}

-- each seat's current piece is one of the list
abbrev AreListed : Fixed → List Checked → Machine → Type 0
AreListed fixed pieces m = (n : ℕ) (piece : Piece) → (m.seat n).piece ≡ Some piece → IsListed fixed pieces piece

-- the piece that an event commits or settles a length by is one of the list
abbrev pub IsCallOf : Fixed → List Checked → Call → Type 0
IsCallOf fixed pieces (Commit group piece committed) = IsListed fixed pieces piece
IsCallOf fixed pieces (SettleCall piece answer) = IsListed fixed pieces piece
IsCallOf fixed pieces call = Unit {0}

abbrev pub IsEventOf : Fixed → List Checked → Event → Type 0
IsEventOf fixed pieces e = IsCallOf fixed pieces e.call

pub start_listed : (fixed : Fixed) (pieces : List Checked) → AreListed fixed pieces start
start_listed fixed pieces n piece h = let none : None ≡ Some piece = h in cc

-- the piece that a Hash makes current
hash_listed : (fixed : Fixed) (pieces : List Checked) (i : ℕ) (o : Option Checked) (piece : Piece) → slice_get pieces i ≡ o → option_map (piece_of fixed.base) o ≡ Some piece → IsListed fixed pieces piece
hash_listed fixed pieces i None piece e h = let none : None ≡ Some piece = h in cc
hash_listed fixed pieces i (Some checked) piece e h =
    let some : Some (piece_of fixed.base checked) ≡ Some piece = h in
    let same : piece ≡ piece_of fixed.base checked = cc in
    record { index = i; checked = checked; there = e; is = same }

-- a seat that is changed
seat_listed : (fixed : Fixed) (pieces : List Checked) (m : Machine) (n : ℕ) (seat : MachineSeat) → AreListed fixed pieces m → ((piece : Piece) → seat.piece ≡ Some piece → IsListed fixed pieces piece)
    → AreListed fixed pieces (with_seat m n seat)
seat_listed fixed pieces m n seat are its k piece h = grind (arith, nat_tests)

step_listed : (fixed : Fixed) (pieces : List Checked) (m : Machine) (step : MicroStep) (reply : Option Reply) → AreListed fixed pieces m
    → AreListed fixed pieces (after_step fixed pieces m step reply)
step_listed fixed pieces m (Hash n i) reply are =
    seat_listed fixed pieces m n (record (m.seat n) { piece = option_map (piece_of fixed.base) (slice_get pieces i); written = λ c w. false }) are
    (λ piece h. hash_listed fixed pieces i (slice_get pieces i) piece refl h)
step_listed fixed pieces m (Write n c w) reply are = seat_listed fixed pieces m n _ are (are n)
step_listed fixed pieces m (GiveBack n group mask) reply are = seat_listed fixed pieces m n _ are (are n)
step_listed fixed pieces m (Load n at len) reply are = seat_listed fixed pieces m n _ are (are n)
step_listed fixed pieces m step reply are = are

-- the events of a step
events_listed : (fixed : Fixed) (pieces : List Checked) (m : Machine) (step : MicroStep) (reply : Option Reply) → AreListed fixed pieces m
    → AllByRecursion (IsEventOf fixed pieces) (step_events fixed m step reply)
events_listed fixed pieces m step reply are = grind (arith, nat_tests)

pub runs_listed : (fixed : Fixed) (pieces : List Checked) (m : Machine) (steps : List MicroStep) (replies : List Reply) (history : List Event) (last : Machine)
    → AreListed fixed pieces m → Runs fixed pieces m steps replies history last → AllByRecursion (IsEventOf fixed pieces) history
runs_listed fixed pieces m [] replies history last are runs = subst (λ (h : List Event). AllByRecursion (IsEventOf fixed pieces) h) (sym runs.1) tt
runs_listed fixed pieces m (step ∷ steps) replies history last are runs =
    subst (λ (h : List Event). AllByRecursion (IsEventOf fixed pieces) h) (sym runs.6)
    (All-append (IsEventOf fixed pieces) (step_events fixed m step runs.0) runs.2 (events_listed fixed pieces m step runs.0 are)
    (runs_listed fixed pieces (after_step fixed pieces m step runs.0) steps runs.1 runs.2 last (step_listed fixed pieces m step runs.0 are) runs.7))

pub replay_binds : (fixed : Fixed) (pieces : List Checked) (steps : List MicroStep) (replies : List Reply) (store : Store) → IsKeyed fixed.mode
    → ReplayBinds fixed pieces steps replies store
replay_binds fixed pieces steps replies store keyed blob is by =
    let all : AllByRecursion (IsEventOf fixed pieces) by.history = runs_listed fixed pieces start steps replies by.history by.last (start_listed fixed pieces) by.runs in (
      λ c bytes h. elim (held_binds fixed by.history blob c bytes keyed is by.legal (subst (λ (s : State). s.held c ≡ Some bytes) by.events h)) [
        | inl same ↦ inl same
        | inr named ↦ inr (record {
          committed = named.0;
          listed = All-member (IsEventOf fixed pieces) by.history all (record { who = named.0.who; call = Commit named.0.group named.0.piece named.0.mask }) named.0.there;
          pair = named.1;
        })
      ],
      λ l h. elim (record_binds fixed by.history blob l keyed is by.legal (subst (λ (s : State). s.recorded ≡ Some l) by.events h)) [
        | inl same ↦ inl same
        | inr named ↦ inr (record {
          settled = named.0;
          listed = All-member (IsEventOf fixed pieces) by.history all (record { who = named.0.who; call = SettleCall named.0.piece Settled }) named.0.there;
          pair = named.1;
        })
      ],
    )
