-- What a run stands for after the steps that change no word: Settle, Load and Length.
use Rattle.std.proofs.lemmas.Bool.Decides.{nat_tests}
use Rattle.std.proofs.Common.{arith, ◌≡◌, ℕ, ◌*◌, ◌/◌, ◌≤◌, nat_le, ◌==◌, Bool, ◌||◌, if◌then◌else◌, List, [], Option, None, Some, IfSome, option_map, sym, ap, ◌∙◌}
use Rattle.bao_check.specs.declared.checked.Checked.{Checked}
use Rattle.bao_check.specs.Checked.{HoldsLast}
use Rattle.holders.specs.declared.fixed.Fixed.{Fixed}
use Rattle.store_core.specs.declared.history.Call.TheVariants.{Settle as SettleCall, Length as LengthCall}
use Rattle.holders.specs.declared.piece.Piece.{Piece}
use Rattle.store_core.specs.declared.history.Settling.{Settling as Answer}
use Rattle.store_core.specs.declared.history.Settling.TheVariants.{OtherRoot, TooLarge}
use Rattle.store_core.specs.declared.micro.MicroStep.TheVariants.{Load, Settle, Length}
use Rattle.store_core.specs.declared.micro.Reply.{Reply}
use Rattle.store_core.specs.declared.micro.Reply.TheVariants.{Settling, LengthIs}
use Rattle.store_core.specs.declared.schedule.Player.{Player}
use Rattle.store_core.specs.declared.schedule.ScheduleRun.{ScheduleRun}
use Rattle.store_core.specs.declared.store.Store.{Store}
use Rattle.store_core.specs.Events.{recorded_after, settling}
use Rattle.store_core.specs.Machine.{Machine, ReadUnderWay, is_whole, position, read_of, store_of}
use Rattle.store_core.specs.Names.{Name}
use Rattle.holders.specs.Pieces.{length_of, piece_of}
use Rattle.store_core.specs.Schedules.{IsLegalStep, current_length, end_reply, is_last_load, length_answer, read_after, read_before, settle_answer}
use Rattle.store_core.specs.MachineInvariant.{IsSoundMachine}
use Rattle.store_core.specs.ScheduleRuns.{IsPlayer, IsTakenPlayer, Stands, StandsFor, carried_on, player_in, reading_of}
use Rattle.store_core.specs.States.{State}
use Rattle.store_core.specs.Stores.{IsEvent, IsOf, Settles, fixed_of, state_of}
use Rattle.store_core.proofs.Running.{IsBefore, before_is}
use Rattle.store_core.proofs.Loading.{carried_loaded, over_same}
use Rattle.store_core.proofs.RunSteps.{IsNext, IsPut, current, kept_seats, may_settle, own, put_seats}

-- Settle
record IsSettling (from to : Store) (piece : Checked) (answer : Answer) : Type 0 where
  fixed_is : fixed_of to ≡ fixed_of from
  answer_is : answer ≡ length_answer (fixed_of from) (state_of from).recorded (length_of (piece_of (fixed_of from).base piece))
  after : state_of to ≡ record (state_of from) { recorded = recorded_after answer (length_of (piece_of (fixed_of from).base piece)) (state_of from).recorded }

by_event : (from to : Store) (piece : Checked) (answer : Answer) → ((who : List Name) → IsEvent from to who (SettleCall (piece_of (fixed_of from).base piece) answer)) → IsSettling from to piece answer
by_event from to piece answer each =
    let e : IsEvent from to [] (SettleCall (piece_of (fixed_of from).base piece) answer) = each [] in
    record {
      fixed_is = e.fixed;
      answer_is = e.right.3 ∙ sym (ap (λ (b : Bool). if b then settling (state_of from).recorded (length_of (piece_of (fixed_of from).base piece)) else TooLarge)
          e.right.2);
      after = e.after;
    }

settle_is : (from to : Store) (piece : Checked) (answer : Answer) → IsOf (fixed_of from) piece → Settles from to piece answer → IsSettling from to piece answer
settle_is from to piece OtherRoot of_store h = absurd (h.0 of_store)
settle_is from to piece TooLarge of_store h = grind (arith, nat_tests)
settle_is from to piece answer of_store h = by_event from to piece answer h

-- the store's root, mode and capacity stay
pub settle_fixed : (from to : Store) (piece : Checked) (answer : Answer) → Settles from to piece answer → fixed_of to ≡ fixed_of from
settle_fixed from to piece OtherRoot h = h.1.fixed
settle_fixed from to piece TooLarge h = h.2.fixed
settle_fixed from to piece answer h = (h []).fixed

pub settle_next : (pieces : List Checked) (from to : Store) (player : Player) {old new : List Player} {written : List Bool} {m : Machine} {n : ℕ} {piece : Checked} {answer : Answer}
    → IsSoundMachine (fixed_of from) m → StandsFor (fixed_of from) (state_of from) old written m → IsTakenPlayer (player_in old n) player → IsPut n player old new → player.piece ≡ Some piece
    → HoldsLast piece → Settles from to piece answer → IsNext (fixed_of from) pieces (state_of to) new written m (Settle n) (Some (Settling answer))
settle_next pieces from to player {old} {new} {written} {m} {n} {piece} {answer} served is taken put has last settles =
    let fixed : Fixed = fixed_of from in
    let was : IsPlayer fixed player (m.seat n) = own pieces n served is player taken in
    let seat_piece : (m.seat n).piece ≡ Some (piece_of fixed.base piece) = current pieces n served is player taken piece has in
    let done : IsSettling from to piece answer = settle_is from to piece answer (was.of piece has) settles in
    let l : ℕ = length_of (piece_of fixed.base piece) in
    let reply : answer ≡ settle_answer fixed m n =
    done.answer_is ∙ ap (λ (x : State). length_answer fixed x.recorded l) is.state
    ∙ ap (λ (o : Option Piece). length_answer fixed m.recorded (current_length o)) (sym seat_piece) in
    let record_in : State → State = λ x. record x { recorded = recorded_after answer l x.recorded } in
    let record_as : Answer → State = λ a. record (store_of m) { recorded = recorded_after a l m.recorded } in
    let record_by : Option Piece → State = λ o. record (store_of m) { recorded = recorded_after (settle_answer fixed m n) (current_length o) m.recorded } in
    record {
      legal = may_settle pieces n served is player taken has last;
      right = ap (λ (a : Answer). Some (Settling a)) reply;
      stands = record {
        state = done.after ∙ ap record_in is.state ∙ ap record_as reply ∙ ap record_by (sym seat_piece);
        seats = kept_seats fixed old new m n player is.seats put was;
        wrote = is.wrote;
        clean = is.clean;
      };
    }

-- Load
legal_read : (o : Option ReadUnderWay) (r : ReadUnderWay) (at len : ℕ) → r ≡ read_of o at len → r.at ≡ at → r.len ≡ len → IfSome o (λ x. (x.at ≡ at) × (x.len ≡ len))
legal_read o r at len e a l = grind (arith, nat_tests)

pub load_next : {fixed : Fixed} (pieces : List Checked) {s : State} {old new : List Player} {written : List Bool} {m : Machine} {n at len : ℕ} (was player : Player)
    (before after : ReadUnderWay) {last : Bool} {reply : Option Reply}
    → IsSoundMachine fixed m → StandsFor fixed s old written m → IsTakenPlayer (player_in old n) was → IsPut n player old new → len ≤ 65536
    → before ≡ read_of (option_map reading_of was.reading) at len → before.at ≡ at → before.len ≡ len → after ≡ carried_on fixed s before
    → last ≡ (is_whole after || ((position after / 65536 == position before / 65536) || nat_le (1024 * fixed.capacity) (position after)))
    → player.piece ≡ was.piece → option_map reading_of player.reading ≡ (if last then None else Some after)
    → reply ≡ (if last then Some (end_reply after) else None) → IsNext fixed pieces s new written m (Load n at len) reply
load_next {fixed} pieces {s} {old} {new} {written} {m} {n} {at} {len} was player before after {last} {reply} served is taken put short begins at_is len_is carried over piece read answers =
    let old_seat : IsPlayer fixed was (m.seat n) = own pieces n served is was taken in
    let b : before ≡ read_before m n at len = begins ∙ ap (λ (o : Option ReadUnderWay). read_of o at len) (sym old_seat.reading) in
    let legal : IsLegalStep fixed pieces m (Load n at len) = (short, legal_read (m.seat n).reading before at len b at_is len_is) in
    let first : IsBefore (store_of m) at len (read_before m n at len) = before_is (store_of m) (m.seat n).reading at len (served.reads n) legal.1 in
    let a : after ≡ read_after fixed m n at len =
    carried ∙ ap (λ (x : State). carried_on fixed x before) is.state ∙ ap (λ (r : ReadUnderWay). carried_on fixed (store_of m) r) b
    ∙ carried_loaded fixed m (read_before m n at len) served.sound in
    let ends : ReadUnderWay → ReadUnderWay → Bool = λ r x. is_whole x || ((position x / 65536 == position r / 65536) || nat_le (1024 * fixed.capacity) (position x)) in
    let l : last ≡ is_last_load fixed m n at len =
    over ∙ ap (λ (x : ReadUnderWay). ends before x) a ∙ ap (λ (r : ReadUnderWay). ends r (read_after fixed m n at len)) b
    ∙ sym (over_same fixed m (read_before m n at len) served.sound first.part) in
    record {
      legal = legal;
      right = answers ∙ ap (λ (x : Bool). if x then Some (end_reply after) else None) l
          ∙ ap (λ (r : ReadUnderWay). if is_last_load fixed m n at len then Some (end_reply r) else None) a;
      stands = record {
        state = is.state;
        seats = put_seats fixed old new m n player _ is.seats put (record {
          piece = old_seat.piece ∙ sym (ap (λ (o : Option Checked). option_map (piece_of fixed.base) o) piece);
          reading = sym (read ∙ ap (λ (x : Bool). if x then None else Some after) l
              ∙ ap (λ (r : ReadUnderWay). if is_last_load fixed m n at len then None else Some r) a);
          of = λ p there. old_seat.of p (sym piece ∙ there);
        });
        wrote = λ k c w below dark. grind (arith, nat_tests, is.wrote k c w below dark);
        clean = is.clean;
      };
    }

-- Length
pub length_next : (pieces : List Checked) (run : ScheduleRun) (m : Machine) (n : ℕ) (recorded : Option ℕ) → Stands run m
    → ((who : List Name) → IsEvent run.store run.store who (LengthCall recorded))
    → IsNext (fixed_of run.store) pieces (state_of run.store) run.players.items run.written.items m (Length n) (Some (LengthIs recorded))
length_next pieces run m n recorded is each = record {
  legal = tt;
  right = ap (λ (o : Option ℕ). Some (LengthIs o)) ((each []).right ∙ ap (λ (s : State). s.recorded) is.state);
  stands = is;
}
