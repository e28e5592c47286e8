-- Take and Give are the machine's Claim and GiveBack.
use Rattle.std.proofs.lemmas.Bool.Decides.{nat_tests}
use Rattle.std.proofs.Common.{◌≡◌, ◌≢◌, ℕ, ◌+◌, ◌*◌, ◌/◌, ◌%◌, nat_lt, Bool, true, false, not, ◌&&◌, ◌||◌, List, Option, None, Some, is_some, refl, sym, ap, subst, ◌∙◌, arith, inl, inr, eq-eqb}
use Rattle.std.specs.Int.{bit_not, w64}
use Rattle.std.specs.Int.Bits.{bit_and, bit_or}
use Rattle.std.proofs.lemmas.Bool.{and_parts, both_ways, cases_Bool, ne_eqb, not-true, or_parts}
use Rattle.store_core.specs.declared.micro.MicroStep.{MicroStep}
use Rattle.store_core.specs.declared.micro.MicroStep.TheVariants.{Claim, GiveBack}
use Rattle.store_core.specs.declared.micro.Reply.{Reply}
use Rattle.store_core.specs.declared.micro.Reply.TheVariants.{Given, Granted}
use Rattle.store_core.specs.declared.view.StoredWord.{StoredWord}
use Rattle.store_core.specs.Machine.{Machine, is_number, is_shown, seat_has}
use Rattle.store_core.specs.Masks.{has_bit, in_mask}
use Rattle.store_core.specs.Schedules.{IsReply, after_step}
use Rattle.store_core.specs.Views.{stored}
use Rattle.store_core.proofs.Running.{one_step}
use Rattle.store_core.proofs.MachineInvariants.{claim_seat}
use Rattle.store_core.proofs.Tells.{masked}
use Rattle.store_steps.specs.Layout.{cell_place, claim_place, claim_word, length_place}
use Rattle.store_steps.specs.Simulates.{GiveIsGiveBack, TakeIsClaim}
use Rattle.store_steps.proofs.Simulating.{hidden, others_not, read_on, seat_is, stands_after, stored_is}
use Rattle.store_steps.proofs.WrittenWords.{bits_given, bits_granted, left, stays_stored, mask_granted}
use Rattle.store_steps.proofs.Calls.{if_ended, if_taken}

other_number : (k n : ℕ) → k ≢ n → is_number k (Some n) ≡ false
other_number k n other = ne_eqb n k (λ e. other (sym e))

none_of : (n : ℕ) (claim : Option ℕ) → is_some claim ≡ false → is_number n claim ≡ false
none_of n claim h = grind (arith, nat_tests)

pub take_is_claim : TakeIsClaim
take_is_claim fixed pieces s m id group want asked view new here there asks small took =
    let found : ℕ = claim_word fixed s.words group in
    let granted : ℕ = bit_and asked (bit_not w64 found) in
    let step : MicroStep = Claim id group want in
    let reply : Option Reply = Some (Granted granted) in
    let next : Machine = after_step fixed pieces m step reply in
    let right : IsReply fixed m step reply = (
      granted,
      refl,
      mask_granted fixed (claim_place fixed) (λ g h e. omega (arith, e)) s.words (is_shown m) m.claim here.stands.claimed group there asked want fixed.capacity small asks,
    ) in
    let neither : (c : ℕ) → in_mask group granted c ≡ true → (is_shown m c ≡ false) × (is_some (m.claim c) ≡ false) = λ c hit.
    let free = and_parts (nat_lt c fixed.capacity) (not (is_shown m c || is_some (m.claim c)))
    (and_parts (has_bit want (c % 64)) (nat_lt c fixed.capacity && not (is_shown m c || is_some (m.claim c)))
    (masked group granted (λ c. has_bit want (c % 64) && (nat_lt c fixed.capacity && not (is_shown m c || is_some (m.claim c)))) c right.2 hit)).1 in
    or_parts (is_shown m c) (is_some (m.claim c)) (not-true _ free.1) in
    record {
      legal = there;
      right = right;
      stands = stands_after fixed pieces s m id view here new next
          (λ c. if_taken (is_number id) (in_mask group granted c) (Some id) (m.claim c) (claim_seat id) ∙ ap (λ (b : Bool). in_mask group granted c || b) (seat_is fixed pieces s m id view here c)
          ∙ sym (took.claims_are c))
          (λ k c other. elim (cases_Bool (in_mask group granted c)) [
            | inl hit ↦ rw hit (other_number k id other ∙ sym (none_of k (m.claim c) (neither c hit).1))
            | inr miss ↦ rw miss refl
          ])
          (claim_place fixed group) (bit_or found asked) (one_step fixed pieces m step reply tt here.stands.served there right).served
          (λ c w below cell. left s.words (claim_place fixed group) (bit_or found asked) (cell_place fixed (129 * c + w)) (λ e. omega (arith, e, there)) ∙ here.stands.cells c w below cell)
          (λ g below. left s.words (claim_place fixed group) (bit_or found asked) g (λ e. omega (arith, e, below)) ∙ here.stands.held g below)
          (bits_granted fixed (claim_place fixed) (λ g h e. omega (arith, e)) s.words (is_shown m) m.claim here.stands.claimed group there asked (Some id) refl small
          (omega (arith, there, here.kept.words.count)))
          (left s.words (claim_place fixed group) (bit_or found asked) (length_place fixed) (λ e. omega (arith, e, there)) ∙ here.stands.recorded)
          (λ c w wrote by below. elim (cases_Bool (in_mask group granted c)) [
            | inl hit ↦
                absurd (both_ways _ (none_of id (m.claim c) (neither c hit).1) (here.stands.served.kept.known id c w wrote (neither c hit).0))
            | inr miss ↦
                ap (λ (words : List StoredWord). stored words (129 * c + w)) took.written_are
                ∙ stored_is fixed pieces s m id view here c w wrote (rw miss at by) below
          ])
          (λ k c w other wrote by below. (wrote, refl))
          (read_on fixed pieces s m id view here new took.between _ took.goes_on) (λ k other. refl);
    }

pub give_is_give_back : GiveIsGiveBack
give_is_give_back fixed pieces s m id group mask given view new here there ours small gave =
    let found : ℕ = claim_word fixed s.words group in
    let step : MicroStep = GiveBack id group mask in
    let reply : Option Reply = Some (Given given) in
    let next : Machine = after_step fixed pieces m step reply in
    let right : IsReply fixed m step reply = (
      given,
      refl,
      record {
        small = ours.small;
        bits = λ c of. ours.bits c of ∙ ap (λ (b : Bool). has_bit mask (c % 64) && b) (sym (seat_is fixed pieces s m id view here c));
      },
    ) in
    let its : (c : ℕ) → in_mask group given c ≡ true → seat_has m id c ≡ true = λ c hit.
    (and_parts (has_bit mask (c % 64)) (seat_has m id c) (masked group given (λ c. has_bit mask (c % 64) && seat_has m id c) c right.2 hit)).1 in
    record {
      legal = there;
      right = right;
      stands = stands_after fixed pieces s m id view here new next
          (λ c. if_ended (is_number id) (in_mask group given c) (m.claim c) refl ∙ ap (λ (b : Bool). not (in_mask group given c) && b) (seat_is fixed pieces s m id view here c)
          ∙ sym (gave.claims_are c))
          (λ k c other. elim (cases_Bool (in_mask group given c)) [
            | inl hit ↦ rw hit (sym (others_not fixed pieces s m id view here k c other (its c hit)))
            | inr miss ↦ rw miss refl
          ])
          (claim_place fixed group) (bit_and found (bit_not w64 given)) (one_step fixed pieces m step reply tt here.stands.served there right).served
          (λ c w below cell. left s.words (claim_place fixed group) (bit_and found (bit_not w64 given)) (cell_place fixed (129 * c + w)) (λ e. omega (arith, e, there))
          ∙ here.stands.cells c w below cell)
          (λ g below. left s.words (claim_place fixed group) (bit_and found (bit_not w64 given)) g (λ e. omega (arith, e, below)) ∙ here.stands.held g below)
          (bits_given fixed (claim_place fixed) (λ g h e. omega (arith, e)) s.words (is_shown m) m.claim here.stands.claimed group there given ours.small
          (λ c hit. hidden fixed pieces s m id view here c (its c hit)) (omega (arith, there, here.kept.words.count)))
          (left s.words (claim_place fixed group) (bit_and found (bit_not w64 given)) (length_place fixed) (λ e. omega (arith, e, there)) ∙ here.stands.recorded)
          (λ c w wrote by below. elim (cases_Bool (in_mask group given c)) [
            | inl hit ↦ let none : None ≡ Some id = rw hit at by in cc
            | inr miss ↦
                let parts = and_parts (not (in_mask group given c)) ((m.seat id).written c w) (rw (eq-eqb id id refl) at wrote) in
                let same : c ≡ (129 * c + w) / 129 = omega (arith, below) in
                ap (λ (words : List StoredWord). stored words (129 * c + w)) gave.written_are
                ∙ stays_stored group given (129 * c + w) view.written (subst (λ (x : ℕ). in_mask group given x ≡ false) same miss)
                ∙ stored_is fixed pieces s m id view here c w parts.1 (rw miss at by) below
          ])
          (λ k c w other wrote by below. (rw (ne_eqb k id other) at wrote, refl))
          (λ r is. read_on fixed pieces s m id view here new gave.between _ gave.goes_on r (rw (eq-eqb id id refl) at is)) (λ k other. rw (ne_eqb k id other) refl);
    }
