-- Loads of a read, settled lengths, and whole runs of the machine of schedules.
use Rattle.std.proofs.lemmas.Grind.{common_steps}
use Rattle.std.proofs.lemmas.Bool.Decides.{nat_tests}
use Rattle.std.proofs.Common.{◌≡◌, ℕ, zero, suc, ◌+◌, ◌-◌, ◌*◌, ◌/◌, ◌%◌, ◌<◌, ◌≤◌, ◌≢◌, IfSome, option_and_then, ◌==◌, Bool, true, false, ◌&&◌, if◌then◌else◌, List, [], ◌∷◌, ◌++◌, length, slice_get, slice_index, Option, None, Some, is_some, refl, sym, ap, subst, ◌∙◌, option_to_list, append-nil, append_assoc, arith, inl, inr, length-append, get_or-append-add}
use Rattle.std.proofs.lemmas.Bool.{cases_Bool}
use Rattle.std.proofs.lemmas.List.{get_or_append_left}
use Rattle.bao_check.specs.declared.checked.Checked.{Checked}
use Rattle.holders.specs.declared.fixed.Fixed.{Fixed}
use Rattle.store_core.specs.declared.history.Call.TheVariants.{Read, Length as LengthCall}
use Rattle.store_core.specs.declared.history.Event.{Event}
use Rattle.holders.specs.declared.piece.Piece.{Piece}
use Rattle.store_core.specs.declared.micro.MicroStep.{MicroStep}
use Rattle.store_core.specs.declared.micro.MicroStep.TheVariants.{Claim, Hash, Write, Publish, GiveBack, Load, Settle, Length}
use Rattle.store_core.specs.declared.micro.Reply.{Reply}
use Rattle.store_core.specs.declared.micro.Reply.TheVariants.{Committed}
use Rattle.store_core.specs.Events.{recorded_after}
use Rattle.store_core.specs.Histories.{AreLegalFrom, run}
use Rattle.store_core.specs.Laws.{IsSound, RunsAreLegal}
use Rattle.store_core.specs.Machine.{Machine, ReadUnderWay, MachineSeat, copied, current_holds, seat_has, is_over, loaded, loaded_group, position, read_of, shown_byte, start, store_of, with_seat}
use Rattle.store_core.specs.Schedules.{AreTexts, HasTail, IsLegalStep, IsReply, IsWritten, Runs, after_step, commit_by, current_length, event_by, is_last_load, length_answer, read_after, read_before, settle_by, step_events, TakesBytes}
use Rattle.store_core.specs.States.{State, byte_and, byte_at, empty, read_bytes}
use Rattle.store_core.proofs.Bits.{has_bit-zero}
use Rattle.store_core.proofs.Lasting.{legal-join, run-append, sound_empty}
use Rattle.store_core.proofs.ReadLaws.{is_read}
use Rattle.store_core.specs.MachineInvariant.{IsKept, IsReadSoFar, IsSoundMachine}
use Rattle.store_core.proofs.MachineInvariants.{IsStep, keeps, shown_is}
use Rattle.store_core.specs.Masks.{IsMaskOf}
use Rattle.store_core.proofs.StepEvents.{claim_step, give_step, hash_step, publish_step, write_step}
use Rattle.store_core.proofs.SlotStates.{same_state}

-- What is copied of a group is what a read of the positions of the group gives.
copied_none : (m : Machine) (group p n : ℕ) → p / 65536 ≢ group → copied m group p n ≡ []
copied_none m group p n other = grind (arith, nat_tests)

pub copied_is : (m : Machine) (group p n k : ℕ) → k ≤ n → p + k ≤ 65536 * group + 65536 → 65536 * group ≤ p → (k < n → p + k ≡ 65536 * group + 65536)
    → copied m group p n ≡ read_bytes (store_of m) p k
copied_is m group p zero zero fits within from end = refl
copied_is m group p zero (suc k) fits within from end = absurd (omega arith)
copied_is m group p (suc n) zero fits within from end = copied_none m group p (suc n) (λ here. omega (arith, here, end (omega arith)))
copied_is m group p (suc n) (suc k) fits within from end = grind (arith, nat_tests, shown_is, copied_is m group (p + 1) n k)

-- what is copied is held, and no more than was asked for
record IsHeldFrom (s : State) (p n : ℕ) (bytes : List ℕ) : Type 0 where
  within : length bytes ≤ n
  held : (i : ℕ) → i < length bytes → byte_at s (p + i) ≡ Some (slice_index bytes i)

held_nothing : (s : State) (p n : ℕ) → IsHeldFrom s p n []
held_nothing s p n = record { within = omega arith; held = λ i h. absurd (omega arith) }

held_and : (s : State) (p n : ℕ) (rest : List ℕ) (o : Option ℕ) → byte_at s p ≡ o → IsHeldFrom s (p + 1) n rest → IsHeldFrom s p (suc n) (byte_and o rest)
held_and s p n rest o e next = grind (arith, nat_tests, held_nothing)

copied_held : (m : Machine) (group p n : ℕ) → IsHeldFrom (store_of m) p n (copied m group p n)
copied_held m group p zero = held_nothing (store_of m) p 0
copied_held m group p (suc n) = elim (cases_Bool (p / 65536 == group)) [
  | inl hit ↦ rw hit (held_and (store_of m) p n (copied m group (p + 1) n) (shown_byte m p) (sym (shown_is m p)) (copied_held m group (p + 1) n))
  | inr miss ↦ rw miss (held_nothing (store_of m) p (suc n))
]

-- bytes held after those that were copied
part_more : (s : State) (r : ReadUnderWay) (more : List ℕ) → IsReadSoFar s r → IsHeldFrom s (position r) (r.len - length r.bytes) more
    → IsReadSoFar s (record r { bytes = r.bytes ++ more })
part_more s r more part next = grind (arith, common_steps, nat_tests, length-append, get_or_append_left, get_or-append-add)

pub loaded_part : (fixed : Fixed) (m : Machine) (r : ReadUnderWay) → IsReadSoFar (store_of m) r → IsReadSoFar (store_of m) (loaded fixed m r)
loaded_part fixed m r part = part_more (store_of m) r _ part (copied_held m (loaded_group fixed r) (position r) (r.len - length r.bytes))

-- no position at or above 1,024 times the capacity is held
above_none : (s : State) (o : Option (List ℕ)) (k : ℕ) → (is_some o ≡ true → ⊥) → option_and_then (λ bytes. slice_get bytes k) o ≡ None
above_none s o k none = grind (arith, nat_tests)

pub past_none : (fixed : Fixed) (s : State) (q : ℕ) → IsSound fixed s → 1024 * fixed.capacity ≤ q → byte_at s q ≡ None
past_none fixed s q sound past = above_none s (s.held (q / 1024)) (q % 1024) (λ held. omega (arith, sound.held_below (q / 1024) held, past))

-- where a read is over, its bytes are those of an event
over_missing : (fixed : Fixed) (m : Machine) (group : ℕ) (r : ReadUnderWay) → IsSound fixed (store_of m) → is_over fixed m group r ≡ true
    → length r.bytes < r.len → byte_at (store_of m) (r.at + length r.bytes) ≡ None
over_missing fixed m group r sound over less = grind (arith, nat_tests, shown_is, past_none)

pub over_read : (fixed : Fixed) (m : Machine) (group : ℕ) (r : ReadUnderWay) → IsSound fixed (store_of m) → IsReadSoFar (store_of m) r → is_over fixed m group r ≡ true
    → r.bytes ≡ read_bytes (store_of m) r.at r.len
over_read fixed m group r sound part over = grind (arith, nat_tests, is_read, over_missing)

-- the read that a load goes on with
pub record IsBefore (s : State) (at len : ℕ) (r : ReadUnderWay) : Type 0 where
  pub part : IsReadSoFar s r
  pub at_is : r.at ≡ at
  pub len_is : r.len ≡ len

pub before_is : (s : State) (o : Option ReadUnderWay) (at len : ℕ) → ((r : ReadUnderWay) → o ≡ Some r → IsReadSoFar s r) → IfSome o (λ r. (r.at ≡ at) × (r.len ≡ len))
    → IsBefore s at len (read_of o at len)
before_is s o at len each same = grind (arith, nat_tests)

-- a seat that is changed, but neither its piece nor what it wrote
seat_kept : (fixed : Fixed) (m : Machine) (n : ℕ) (seat : MachineSeat) → IsKept fixed m → seat.written ≡ (m.seat n).written → seat.piece ≡ (m.seat n).piece
    → IsKept fixed (with_seat m n seat)
seat_kept fixed m n seat kept written piece = record {
  known = λ k c w wrote dark. grind (arith, nat_tests, kept.known k c w);
  cells = λ k c w wrote has. grind (arith, nat_tests, kept.cells k c w);
  accepted = λ k p is. grind (arith, nat_tests, kept.accepted k p);
}

-- Load, at its end or not
load_with : (fixed : Fixed) (m : Machine) (n at len : ℕ) (last : Bool) (r : ReadUnderWay) → IsSoundMachine fixed m → IsReadSoFar (store_of m) r
    → (last ≡ true → r.bytes ≡ read_bytes (store_of m) at len)
    → IsStep fixed m (with_seat m n (record (m.seat n) { reading = if last then None else Some r })) (if last then event_by n (Read at len r.bytes) else [])
load_with fixed m n at len true r served part right = grind (arith, common_steps, nat_tests, seat_kept)
load_with fixed m n at len false r served part right = record {
  served = record {
    sound = served.sound;
    kept = seat_kept fixed m n (record (m.seat n) { reading = Some r }) served.kept refl refl;
    reads = λ k x is. grind (arith, nat_tests, served.reads k x);
  };
  legal = tt;
  state = refl;
}

pub load_step : (fixed : Fixed) (pieces : List Checked) (m : Machine) (n at len : ℕ) (reply : Option Reply) → IsSoundMachine fixed m
    → IfSome (m.seat n).reading (λ r. (r.at ≡ at) × (r.len ≡ len))
    → IsStep fixed m (after_step fixed pieces m (Load n at len) reply) (step_events fixed m (Load n at len) reply)
load_step fixed pieces m n at len reply served same =
    let before : IsBefore (store_of m) at len (read_before m n at len) = before_is (store_of m) (m.seat n).reading at len (served.reads n) same in
    let part : IsReadSoFar (store_of m) (read_after fixed m n at len) = loaded_part fixed m (read_before m n at len) before.part in
    load_with fixed m n at len (is_last_load fixed m n at len) (read_after fixed m n at len) served part (λ last.
    over_read fixed m (loaded_group fixed (read_before m n at len)) (read_after fixed m n at len) served.sound part last
    ∙ ap (λ (q : ℕ). read_bytes (store_of m) q (read_before m n at len).len) before.at_is ∙ ap (λ (k : ℕ). read_bytes (store_of m) at k) before.len_is)

-- Settle: an event where the length isn't too large
settle_at : (fixed : Fixed) (m : Machine) (n : ℕ) (o : Option Piece) → IsSoundMachine fixed m → (m.seat n).piece ≡ o → HasTail o
    → IsStep fixed m (record m { recorded = recorded_after (length_answer fixed m.recorded (current_length o)) (current_length o) m.recorded })
    (settle_by n o (length_answer fixed m.recorded (current_length o)))
settle_at fixed m n o served is ends = grind (arith, nat_tests, keeps, same_state)

pub settle_step : (fixed : Fixed) (pieces : List Checked) (m : Machine) (n : ℕ) (reply : Option Reply) → IsSoundMachine fixed m → HasTail (m.seat n).piece
    → IsStep fixed m (after_step fixed pieces m (Settle n) reply) (step_events fixed m (Settle n) reply)
settle_step fixed pieces m n reply served ends = settle_at fixed m n (m.seat n).piece served refl ends

-- Publish, of a seat with a current piece
publish_at : (fixed : Fixed) (pieces : List Checked) (m : Machine) (n group mask : ℕ) (o : Option Piece) → IsSoundMachine fixed m → (m.seat n).piece ≡ o → is_some o ≡ true
    → IsWritten m n group → IsMaskOf group mask (λ c. seat_has m n c && current_holds (m.seat n).piece c)
    → IsStep fixed m (after_step fixed pieces m (Publish n group) (Some (Committed mask))) (commit_by n group o mask)
publish_at fixed pieces m n group mask None served is some wrote right = cc
publish_at fixed pieces m n group mask (Some piece) served is some wrote right = publish_step fixed pieces m n group mask piece served is wrote right

-- each step
pub one_step : (fixed : Fixed) (pieces : List Checked) (m : Machine) (step : MicroStep) (reply : Option Reply) → TakesBytes pieces step → IsSoundMachine fixed m
    → IsLegalStep fixed pieces m step → IsReply fixed m step reply → IsStep fixed m (after_step fixed pieces m step reply) (step_events fixed m step reply)
one_step fixed pieces m (Claim n group want) reply texts served legal right =
    subst (λ (r : Option Reply). IsStep fixed m (after_step fixed pieces m (Claim n group want) r) (step_events fixed m (Claim n group want) r)) (sym right.1)
    (claim_step fixed pieces m n group want right.0 served right.2)
one_step fixed pieces m (Hash n i) reply texts served legal right = hash_step fixed pieces m n i texts served legal
one_step fixed pieces m (Write n c w) reply texts served legal right = write_step fixed pieces m n c w served legal.1
one_step fixed pieces m (Publish n group) reply texts served legal right =
    subst (λ (r : Option Reply). IsStep fixed m (after_step fixed pieces m (Publish n group) r) (step_events fixed m (Publish n group) r)) (sym right.1)
    (publish_at fixed pieces m n group right.0 (m.seat n).piece served refl legal.1 legal.2 right.2)
one_step fixed pieces m (GiveBack n group mask) reply texts served legal right =
    subst (λ (r : Option Reply). IsStep fixed m (after_step fixed pieces m (GiveBack n group mask) r) (step_events fixed m (GiveBack n group mask) r)) (sym right.1)
    (give_step fixed pieces m n group mask right.0 served right.2)
one_step fixed pieces m (Load n at len) reply texts served legal right = load_step fixed pieces m n at len reply served legal.1
one_step fixed pieces m (Settle n) reply texts served legal right = settle_step fixed pieces m n reply served legal
one_step fixed pieces m (Length n) reply texts served legal right =
    keeps fixed m m (event_by n (LengthCall m.recorded)) served (refl, tt) refl served.kept (λ k. refl)

-- a step over texts of bytes
takes_bytes : (pieces : List Checked) (step : MicroStep) → AreTexts pieces → TakesBytes pieces step
takes_bytes pieces step texts = grind (arith, nat_tests)

-- whole runs
pub start_empty : store_of start ≡ empty
start_empty = grind (arith, nat_tests, same_state, has_bit-zero)

pub start_served : (fixed : Fixed) → IsSoundMachine fixed start
start_served fixed = grind (arith, nat_tests, start_empty, sound_empty)

-- one more step of a run
pub runs_more : (fixed : Fixed) (pieces : List Checked) (m : Machine) (steps : List MicroStep) (replies : List Reply) (history : List Event) (last : Machine) (step : MicroStep) (reply : Option Reply)
    → Runs fixed pieces m steps replies history last → IsLegalStep fixed pieces last step → IsReply fixed last step reply
    → Runs fixed pieces m (steps ++ step ∷ []) (replies ++ option_to_list reply) (history ++ step_events fixed last step reply) (after_step fixed pieces last step reply)
runs_more fixed pieces m [] replies history last step reply runs = grind (arith, common_steps, nat_tests, append-nil)
runs_more fixed pieces m (first ∷ steps) replies history last step reply runs = λ legal right. (
  runs.0,
  runs.1 ++ option_to_list reply,
  runs.2 ++ step_events fixed last step reply,
  runs.3,
  runs.4,
  ap (λ (xs : List Reply). xs ++ option_to_list reply) runs.5 ∙ append_assoc (option_to_list runs.0) runs.1 (option_to_list reply),
  ap (λ (xs : List Event). xs ++ step_events fixed last step reply) runs.6 ∙ append_assoc (step_events fixed m first runs.0) runs.2 (step_events fixed last step reply),
  runs_more fixed pieces (after_step fixed pieces m first runs.0) steps runs.1 runs.2 last step reply runs.7 legal right,
)

pub record IsRun (fixed : Fixed) (m last : Machine) (history : List Event) : Type 0 where
  pub served : IsSoundMachine fixed last
  pub legal : AreLegalFrom fixed (store_of m) history
  pub state : run (store_of m) history ≡ store_of last

pub whole_run : (fixed : Fixed) (pieces : List Checked) (m : Machine) (steps : List MicroStep) (replies : List Reply) (history : List Event) (last : Machine)
    → AreTexts pieces → IsSoundMachine fixed m → Runs fixed pieces m steps replies history last → IsRun fixed m last history
whole_run fixed pieces m [] replies history last texts served runs = grind (arith, common_steps, nat_tests)
whole_run fixed pieces m (step ∷ steps) replies history last texts served runs =
    let next : Machine = after_step fixed pieces m step runs.0 in
    let done : IsStep fixed m next (step_events fixed m step runs.0) = one_step fixed pieces m step runs.0 (takes_bytes pieces step texts) served runs.3 runs.4 in
    let rest : IsRun fixed next last runs.2 = whole_run fixed pieces next steps runs.1 runs.2 last texts done.served runs.7 in
    subst (λ (events : List Event). IsRun fixed m last events) (sym runs.6) (record {
      served = rest.served;
      legal = legal-join fixed (store_of m) (step_events fixed m step runs.0) runs.2 done.legal
          (subst (λ (s : State). AreLegalFrom fixed s runs.2) (sym done.state) rest.legal);
      state = run-append (store_of m) (step_events fixed m step runs.0) runs.2 ∙ ap (λ (s : State). run s runs.2) done.state ∙ rest.state;
    })

pub runs_are_legal : RunsAreLegal
runs_are_legal fixed pieces steps replies history last texts runs = grind (arith, nat_tests, whole_run, start_served, start_empty)
