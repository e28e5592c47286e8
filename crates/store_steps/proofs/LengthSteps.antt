-- Settle and Length are the machine's.
use Rattle.std.proofs.Common.{◌≡◌, ℕ, ◌+◌, ◌*◌, ◌/◌, ◌%◌, ◌==◌, if◌then◌else◌, List, Option, Some, refl, sym, ap, subst, ◌∙◌, arith}
use prog.Atomic.{either}
use Rattle.holders.specs.declared.piece.Piece.{Piece}
use Rattle.store_core.specs.declared.history.Settling.{Settling as Answer}
use Rattle.store_core.specs.declared.history.Settling.TheVariants.{TooLarge}
use Rattle.store_core.specs.declared.micro.MicroStep.{MicroStep}
use Rattle.store_core.specs.declared.micro.MicroStep.TheVariants.{Settle}
use Rattle.store_core.specs.declared.micro.Reply.{Reply}
use Rattle.store_core.specs.declared.micro.Reply.TheVariants.{LengthIs, Settling}
use Rattle.store_core.specs.declared.view.StoredWord.{StoredWord}
use Rattle.store_core.specs.Events.{recorded_after, settling}
use Rattle.store_core.specs.Machine.{Machine}
use Rattle.store_core.specs.Masks.{has_bit}
use Rattle.holders.specs.Pieces.{length_of}
use Rattle.store_core.specs.Schedules.{HasTail, IsLegalStep, IsReply, after_step, current_length, length_answer, settle_answer}
use Rattle.store_core.specs.Views.{stored}
use Rattle.store_core.proofs.Running.{one_step}
use Rattle.store_steps.specs.Layout.{cell_place, claim_place, length_code, length_place, length_word}
use Rattle.store_steps.specs.Machines.{StandsForMachine}
use Rattle.store_steps.specs.Plays.{length_in}
use Rattle.store_steps.specs.Simulates.{LengthIsLength, LookIsTooLarge, SettleIsSettle, after_load}
use Rattle.store_steps.proofs.Looking.{length_back}
use Rattle.store_steps.proofs.Settling.{word_then}
use Rattle.store_steps.proofs.SideSteps.{look_stays}
use Rattle.store_steps.proofs.Simulating.{read_on, seat_is, stands_after, stays_after, stored_is}
use Rattle.store_steps.proofs.WrittenWords.{left, put}

pub settle_is_settle : SettleIsSettle
settle_is_settle fixed pieces s m id piece view new here current ends fits did =
    let found : ℕ = length_word fixed s.words in
    let len : ℕ = length_of piece in
    let word : ℕ = either (found == 0) (len + 1) found in
    let step : MicroStep = Settle id in
    let reply : Option Reply = Some (Settling (settling (length_in found) len)) in
    let next : Machine = after_step fixed pieces m step reply in
    let recorded : length_in found ≡ m.recorded = ap (λ (n : ℕ). length_in n) here.stands.recorded ∙ length_back m.recorded in
    let length_is : current_length (m.seat id).piece ≡ len = ap (λ (o : Option Piece). current_length o) current in
    let answer : settle_answer fixed m id ≡ settling m.recorded len =
    ap (λ (l : ℕ). length_answer fixed m.recorded l) length_is
    ∙ ap (λ b. if b then settling m.recorded len else TooLarge) fits in
    let legal : IsLegalStep fixed pieces m step = subst (λ (o : Option Piece). HasTail o) (sym current) ends in
    let right : IsReply fixed m step reply =
    ap (λ (a : Answer). Some (Settling a)) (ap (λ (o : Option ℕ). settling o len) recorded ∙ sym answer) in
    record {
      legal = legal;
      right = right;
      stands = stands_after fixed pieces s m id view here new next
          (λ c. seat_is fixed pieces s m id view here c ∙ sym (did.claims_are c))
          (λ k c other. refl)
          (length_place fixed) word (one_step fixed pieces m step reply tt here.stands.served legal right).served
          (λ c w below cell. left s.words (length_place fixed) word (cell_place fixed (129 * c + w)) (λ e. omega (arith, e, below, cell)) ∙ here.stands.cells c w below cell)
          (λ g there. left s.words (length_place fixed) word g (λ e. omega (arith, e, there)) ∙ here.stands.held g there)
          (λ c there. ap (λ (n : ℕ). has_bit n (c % 64)) (left s.words (length_place fixed) word (claim_place fixed (c / 64)) (λ e. omega (arith, e, there)))
          ∙ here.stands.claimed c there)
          (put s.words (length_place fixed) word (omega (arith, here.kept.words.count))
          ∙ ap (λ (n : ℕ). either (n == 0) (len + 1) n) here.stands.recorded ∙ word_then m.recorded len
          ∙ ap (λ (a : Answer). length_code (recorded_after a len m.recorded)) (sym answer)
          ∙ ap (λ (l : ℕ). length_code (recorded_after (settle_answer fixed m id) l m.recorded)) (sym length_is))
          (λ c w wrote by below. ap (λ (words : List StoredWord). stored words (129 * c + w)) did.written_are ∙ stored_is fixed pieces s m id view here c w wrote by below)
          (λ k c w other wrote by below. (wrote, refl))
          (read_on fixed pieces s m id view here new did.between _ did.goes_on) (λ k other. refl);
    }

-- the machine after an answer to a Settle
abbrev settled_machine : Machine → Answer → ℕ → Machine
settled_machine m answer len = record m { recorded = recorded_after answer len m.recorded }

pub length_is_length : LengthIsLength
length_is_length fixed pieces s m id view new here did =
    let found : ℕ = length_word fixed s.words in
    let recorded : length_in found ≡ m.recorded = ap (λ (n : ℕ). length_in n) here.stands.recorded ∙ length_back m.recorded in
    record {
      legal = tt;
      right = ap (λ (o : Option ℕ). Some (LengthIs o)) recorded;
      stands = stays_after fixed pieces s m id view here new (length_place fixed) did.claims_are (λ n. ap (λ (words : List StoredWord). stored words n) did.written_are)
          (read_on fixed pieces s m id view here new did.between _ did.goes_on);
    }

pub look_is_too_large : LookIsTooLarge
look_is_too_large fixed pieces s m id place piece view new events here current ends large looked =
    let answer : settle_answer fixed m id ≡ TooLarge =
    ap (λ (l : ℕ). length_answer fixed m.recorded l) (ap (λ (o : Option Piece). current_length o) current)
    ∙ ap (λ b. if b then settling m.recorded (length_of piece) else TooLarge) large in
    let next : settled_machine m (settle_answer fixed m id) (current_length (m.seat id).piece) ≡ m =
    ap (λ (a : Answer). settled_machine m a (current_length (m.seat id).piece)) answer in
    record {
      legal = subst (λ (o : Option Piece). HasTail o) (sym current) ends;
      right = ap (λ (a : Answer). Some (Settling a)) (sym answer);
      stands = subst (λ (x : Machine). StandsForMachine fixed (after_load s place id new) x) (sym next)
          (look_stays fixed pieces s m id place view new events here looked);
    }
