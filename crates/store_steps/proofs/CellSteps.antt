-- A store of a piece's word and a publish are the machine's Write and Publish.
use Rattle.std.proofs.lemmas.Bool.Decides.{nat_tests}
use Rattle.std.proofs.Common.{List, ◌≡◌, ◌≢◌, ℕ, ◌+◌, ◌*◌, ◌/◌, ◌%◌, ◌<◌, ◌==◌, Bool, true, false, not, ◌&&◌, ◌||◌, if◌then◌else◌, ◌∷◌, Option, None, Some, is_some, set, slice_index, refl, sym, ap, subst, ◌∙◌, arith, inl, inr, eq-eqb, eqb-true}
use Rattle.std.specs.Int.Bits.{bit_or}
use Rattle.std.proofs.lemmas.Bool.{and_from, and_parts, both_ways, cases_Bool, cases_eq, false_from_ne_true, ne_eqb}
use Rattle.holders.specs.declared.piece.Piece.{Piece}
use Rattle.store_core.specs.declared.micro.MicroStep.{MicroStep}
use Rattle.store_core.specs.declared.micro.MicroStep.TheVariants.{Publish, Write}
use Rattle.store_core.specs.declared.micro.Reply.{Reply}
use Rattle.store_core.specs.declared.micro.Reply.TheVariants.{Committed}
use Rattle.store_core.specs.declared.view.SeatView.{SeatView}
use Rattle.store_core.specs.declared.view.StoredWord.{StoredWord}
use Rattle.store_core.specs.Cells.{cell_word}
use Rattle.store_core.specs.Machine.{Machine, bytes_or_none, current_bytes, current_holds, is_shown, seat_has, is_number}
use Rattle.store_core.specs.Masks.{has_bit, in_mask}
use Rattle.holders.specs.Pieces.{holds_chunk}
use Rattle.store_core.specs.Schedules.{IsLegalStep, IsReply, after_step}
use Rattle.store_core.specs.Views.{seat_claims, stored}
use Rattle.store_core.proofs.Running.{one_step}
use Rattle.store_core.proofs.MachineInvariants.{seat_claim}
use Rattle.store_core.proofs.StepEvents.{shown_or}
use Rattle.store_core.proofs.Tells.{masked}
use Rattle.store_steps.specs.Asks.{AreWordsStored}
use Rattle.store_steps.specs.Kinds.{chunk_kind}
use Rattle.store_steps.specs.Layout.{cell_at, cell_place, claim_place, held_word, length_place}
use Rattle.store_steps.specs.Simulates.{PublishIsPublish, StoreIsWrite}
use Rattle.store_steps.proofs.Simulating.{low, others_not, read_on, seat_is, stands_after, stored_is, unseen_read}
use Rattle.store_steps.proofs.WrittenWords.{left, put, stays_stored}
use Rattle.store_steps.proofs.Calls.{if_ended}

pub store_is_write : StoreIsWrite
store_is_write fixed pieces s m id c w value view new here below ours holds value_is stores =
    let step : MicroStep = Write id c w in
    let next : Machine = after_step fixed pieces m step None in
    let has : seat_has m id c ≡ true = seat_is fixed pieces s m id view here c ∙ ours in
    let legal : IsLegalStep fixed pieces m step = (below, has, holds) in
    let cap : c < fixed.capacity = low fixed pieces s m id view here c has in
    let place : ℕ = cell_place fixed (129 * c + w) in
    -- another word of a cell
    let apart : (d v : ℕ) → v < 129 → ((d == c) && (v == w)) ≡ false → 129 * d + v ≢ 129 * c + w = λ d v cell miss e.
    let chunk : d ≡ c = omega (arith, e, cell, below) in
    let word : v ≡ w = omega (arith, e, cell, below) in
    both_ways _ miss (and_from _ _ (eq-eqb d c chunk) (eq-eqb v w word)) in
    let written : new.written ≡ record { number = 129 * c + w; value = value } ∷ view.written = ap (λ (v : SeatView). v.written) stores in
    record {
      legal = legal;
      right = refl;
      stands = stands_after fixed pieces s m id view here new next
          (λ d. seat_is fixed pieces s m id view here d ∙ sym (ap (λ (v : SeatView). seat_claims v d) stores))
          (λ k d other. refl)
          place value (one_step fixed pieces m step None tt here.stands.served legal refl).served
          (λ d v low cell. elim (cases_Bool ((d == c) && (v == w))) [
            | inl both ↦
                let parts = and_parts (d == c) (v == w) both in
                let same : 129 * d + v ≡ 129 * c + w = omega (arith, eqb-true d c parts.0, eqb-true v w parts.1) in
                ap (λ (n : ℕ). cell_at fixed (set s.words place value) n) same ∙ put s.words place value (omega (arith, cap, below, here.kept.words.count))
                ∙ value_is ∙ rw both refl
            | inr miss ↦
                let differ = apart d v cell miss in
                left s.words place value (cell_place fixed (129 * d + v)) (λ e. differ (omega (arith, e)))
                ∙ here.stands.cells d v low cell ∙ rw miss refl
          ])
          (λ g there. left s.words place value g (λ e. omega (arith, e, there)) ∙ here.stands.held g there)
          (λ d there. ap (λ (n : ℕ). has_bit n (d % 64)) (left s.words place value (claim_place fixed (d / 64)) (λ e. omega (arith, e, there))) ∙ here.stands.claimed d there)
          (left s.words place value (length_place fixed) (λ e. omega (arith, e, cap, below)) ∙ here.stands.recorded)
          (λ d v wrote by cell. elim (cases_Bool ((d == c) && (v == w))) [
            | inl both ↦
                let parts = and_parts (d == c) (v == w) both in
                let same : 129 * c + w ≡ 129 * d + v = omega (arith, eqb-true d c parts.0, eqb-true v w parts.1) in
                ap (λ (words : List StoredWord). stored words (129 * d + v)) written ∙ rw (eq-eqb (129 * c + w) (129 * d + v) same) (ap (λ (n : ℕ). Some n) value_is ∙ rw both refl)
            | inr miss ↦
                let differ = apart d v cell miss in
                let old : (m.seat id).written d v ≡ true = rw (eq-eqb id id refl, miss) at wrote in
                ap (λ (words : List StoredWord). stored words (129 * d + v)) written ∙ rw (ne_eqb (129 * c + w) (129 * d + v) (λ e. differ (sym e)))
                (stored_is fixed pieces s m id view here d v old by cell ∙ rw miss refl)
          ])
          (λ k d v other wrote by cell.
          let old : (m.seat k).written d v ≡ true = rw (ne_eqb k id other) at wrote in
          let miss : ((d == c) && (v == w)) ≡ false = false_from_ne_true _ (λ both.
          let chunk : d ≡ c = eqb-true d c (and_parts (d == c) (v == w) both).0 in
          let same : Some k ≡ Some id = sym by ∙ ap (λ (x : ℕ). m.claim x) chunk ∙ seat_claim id (m.claim c) has in
          let never : k ≡ id = cc in
          other never) in
          (old, rw miss refl))
          (λ r is. unseen_read fixed pieces s m id view here new (ap (λ (v : SeatView). v.seen) stores) r (rw (eq-eqb id id refl) at is))
          (λ k other. rw (ne_eqb k id other) refl);
    }

-- a bit of the claim word, which stays: chunks that are published were claimed
publish_bit : (hit shown : Bool) (claim : Option ℕ) → (hit ≡ true → is_some claim ≡ true)
    → (shown || is_some claim) ≡ ((shown || hit) || is_some (if hit then None else claim))
publish_bit hit shown claim had = grind (arith, nat_tests)

pub publish_is_publish : PublishIsPublish
publish_is_publish fixed pieces s m id group mask piece view new here there current wrote_all ours did =
    let step : MicroStep = Publish id group in
    let reply : Option Reply = Some (Committed mask) in
    let next : Machine = after_step fixed pieces m step reply in
    let some_piece : is_some (m.seat id).piece ≡ true = ap (λ (o : Option Piece). is_some o) current in
    let legal : IsLegalStep fixed pieces m step = (there, some_piece, wrote_all) in
    let holds : (c : ℕ) → current_holds (m.seat id).piece c ≡ holds_chunk piece c = λ c. ap (λ (o : Option Piece). current_holds o c) current in
    let right : IsReply fixed m step reply = (
      mask,
      refl,
      record {
        small = ours.small;
        bits = λ c of.
            ours.bits c of ∙ ap (λ (b : Bool). b && holds_chunk piece c) (sym (seat_is fixed pieces s m id view here c))
            ∙ ap (λ (b : Bool). seat_has m id c && b) (sym (holds c));
      },
    ) in
    let both : (c : ℕ) → in_mask group mask c ≡ true → (seat_has m id c ≡ true) × (current_holds (m.seat id).piece c ≡ true) = λ c hit.
    let parts = and_parts (seat_has m id c) (current_holds (m.seat id).piece c) (masked group mask (λ c. seat_has m id c && current_holds (m.seat id).piece c) c right.2 hit) in
    (parts.0, parts.1) in
    let all_written : AreWordsStored chunk_kind view group mask piece = λ c w bytes hit has below.
    let its = both c hit in
    let of : c / 64 ≡ group = eqb-true (c / 64) group (and_parts (c / 64 == group) (has_bit mask (c % 64)) hit).0 in
    let wrote : (m.seat id).written c w ≡ true = wrote_all c w of its.0 its.1 below in
    let bytes_are : current_bytes (m.seat id).piece c ≡ bytes = ap (λ (o : Option Piece). current_bytes o c) current ∙ ap bytes_or_none has in
    stored_is fixed pieces s m id view here c w wrote (seat_claim id (m.claim c) its.0) below
    ∙ ap (λ (n : ℕ). Some n) (here.stands.served.kept.cells id c w wrote its.0 ∙ ap (λ (xs : List ℕ). cell_word xs w) bytes_are) in (
      all_written,
      record {
        legal = legal;
        right = right;
        stands = stands_after fixed pieces s m id view here new next
            (λ c. if_ended (is_number id) (in_mask group mask c) (m.claim c) refl ∙ ap (λ (b : Bool). not (in_mask group mask c) && b) (seat_is fixed pieces s m id view here c)
            ∙ sym (did.claims_are c))
            (λ k c other. elim (cases_Bool (in_mask group mask c)) [
              | inl hit ↦ rw hit (sym (others_not fixed pieces s m id view here k c other (both c hit).0))
              | inr miss ↦ rw miss refl
            ])
            group (bit_or (held_word s.words group) mask) (one_step fixed pieces m step reply tt here.stands.served legal right).served
            (λ c w below cell. left s.words group (bit_or (held_word s.words group) mask) (cell_place fixed (129 * c + w)) (λ e. omega (arith, e, there))
            ∙ here.stands.cells c w below cell)
            (λ g below. elim (cases_eq g group) [
              | inl at ↦
                  ap (λ (x : ℕ). slice_index (set s.words group (bit_or (held_word s.words group) mask)) x) at
                  ∙ put s.words group (bit_or (held_word s.words group) mask) (omega (arith, there, here.kept.words.count))
                  ∙ ap (λ (n : ℕ). bit_or n mask) (ap (λ (x : ℕ). held_word s.words x) (sym at) ∙ here.stands.held g below) ∙ rw (eq-eqb g group at) refl
              | inr other ↦ left s.words group (bit_or (held_word s.words group) mask) g other ∙ here.stands.held g below ∙ rw (ne_eqb g group other) refl
            ])
            (λ c below.
            ap (λ (w : ℕ). has_bit w (c % 64)) (left s.words group (bit_or (held_word s.words group) mask) (claim_place fixed (c / 64)) (λ e. omega (arith, e, there)))
            ∙ here.stands.claimed c below
            ∙ publish_bit (in_mask group mask c) (is_shown m c) (m.claim c) (λ hit. ap (λ (o : Option ℕ). is_some o) (seat_claim id (m.claim c) (both c hit).0))
            ∙ ap (λ (b : Bool). b || is_some (next.claim c)) (sym (shown_or fixed pieces m id group mask c)))
            (left s.words group (bit_or (held_word s.words group) mask) (length_place fixed) (λ e. omega (arith, e, there)) ∙ here.stands.recorded)
            (λ c w wrote by below. elim (cases_Bool (in_mask group mask c)) [
              | inl hit ↦ let none : None ≡ Some id = rw hit at by in cc
              | inr miss ↦
                  let same : c ≡ (129 * c + w) / 129 = omega (arith, below) in
                  ap (λ (words : List StoredWord). stored words (129 * c + w)) did.written_are
                  ∙ stays_stored group mask (129 * c + w) view.written (subst (λ (x : ℕ). in_mask group mask x ≡ false) same miss)
                  ∙ stored_is fixed pieces s m id view here c w wrote (rw miss at by) below
            ])
            (λ k c w other wrote by below. (wrote, refl))
            (read_on fixed pieces s m id view here new did.between _ did.goes_on) (λ k other. refl);
      },
    )
