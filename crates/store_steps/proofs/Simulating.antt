-- What a step of a seat with one view changes, and that the table then stands for the machine after it.
use Rattle.std.proofs.Common.{◌≡◌, ◌≢◌, ℕ, ◌+◌, ◌*◌, ◌/◌, ◌%◌, ◌<◌, ◌≤◌, true, false, ◌||◌, List, [], ◌∷◌, Option, Some, is_some, option_map, set, refl, sym, ap, subst, ◌∙◌, arith, inl, inr, ◌++◌, append-nil, append_assoc, slice_index}
use Rattle.std.proofs.lemmas.Bool.{both_ways, cases_Bool, cases_eq, false_from_ne_true}
use Rattle.std.proofs.lemmas.List.{set-get_or}
use Rattle.atomic_table.specs.Table.{State as Table, keeps, stepped}
use Rattle.bao_check.specs.declared.checked.Checked.{Checked}
use Rattle.holders.specs.declared.fixed.Fixed.{Fixed}
use Rattle.store_core.specs.declared.history.Event.{Event}
use Rattle.store_core.specs.declared.view.SeatView.{SeatView}
use Rattle.store_core.specs.Histories.{IsLegal, state_after}
use Rattle.store_core.specs.Machine.{Machine, ReadUnderWay, is_number, is_shown, seat_has}
use Rattle.holders.specs.Room.{groups}
use Rattle.store_core.specs.Masks.{has_bit}
use Rattle.store_core.specs.MachineInvariant.{IsSoundMachine}
use Rattle.store_core.specs.States.{State, byte_at, empty}
use Rattle.store_core.specs.Views.{seat_claims, stored}
use Rattle.store_core.proofs.Lasting.{legal-append, legal_is_sound, run-append}
use Rattle.store_core.proofs.MachineInvariants.{byte_lasts, claim_seat, claimed_hidden, seat_claim}
use Rattle.store_steps.specs.Layout.{cell_at, cell_place, claim_place, claim_word, held_word, length_code, length_place, length_word, parents_place}
use Rattle.store_steps.specs.Machines.{HasClaim, HasRead, HasStored, IsAtMachine, IsUnderWay, StandsForMachine}
use Rattle.store_steps.specs.Rule.{HasView}
use Rattle.store_steps.specs.Simulates.{after_load}
use Rattle.store_core.specs.Knowledge.{GoesOn}
use Rattle.store_steps.proofs.Lists.{one_part}
use Rattle.store_steps.proofs.StepViews.{seen_legal}
use Rattle.store_steps.proofs.Storers.{at_other, gets, had, stays}
use Rattle.store_steps.proofs.WrittenWords.{left}

-- a read under way goes on in all that is seen later
pub under_way_later : (fixed of : Fixed) (view new : SeatView) (more : List Event) (r : ReadUnderWay) → new.seen ≡ view.seen ++ more → IsLegal of new.seen
    → IsUnderWay fixed view r → IsUnderWay fixed new r
under_way_later fixed of view new more r is legal old =
    let parts = legal-append of empty view.seen more (subst (λ (h : List Event). IsLegal of h) is legal) in
    record {
      part = record {
        within = old.part.within;
        held = λ i h.
            ap (λ (t : List Event). byte_at (state_after t) (r.at + i)) is ∙ ap (λ (t : State). byte_at t (r.at + i)) (run-append empty view.seen more)
            ∙ byte_lasts of (state_after view.seen) more (legal_is_sound of view.seen parts.0) parts.1 (r.at + i) (slice_index r.bytes i) (old.part.held i h);
      };
      more = old.more;
      below = old.below;
    }

-- a chunk that is claimed by the seat with this number
pub claimer_of : (m : Machine) (n c : ℕ) → m.claim c ≡ Some n → seat_has m n c ≡ true
claimer_of m n c is = ap (λ (o : Option ℕ). is_number n o) is ∙ claim_seat n

module _ (fixed : Fixed) (pieces : List Checked) (s : Table Unit (List SeatView)) (m : Machine) (id : ℕ) (view : SeatView) (here : IsAtMachine fixed pieces s m id view) where
  -- the seat's one view
  the_view : (part : ℕ) (v : SeatView) → HasView s.views id part v → v ≡ view
  the_view part v h = (one_part view v part (had s.views id (view ∷ []) id part v here.is_seat refl h)).1

  -- what it claims and what it stored
  pub seat_is : (c : ℕ) → seat_has m id c ≡ seat_claims view c
  seat_is c = elim (cases_Bool (seat_claims view c)) [
    | inl ours ↦
        let has : HasClaim s.views id c = record { part = 0; view = view; has = record { parts = view ∷ []; is_seat = here.is_seat; is_part = refl }; claims = ours } in
        claimer_of m id c ((here.stands.claims id c).1 has) ∙ sym ours
    | inr other ↦
        false_from_ne_true _ (λ ours.
        let k : HasClaim s.views id c = (here.stands.claims id c).0 (seat_claim id (m.claim c) ours) in
        both_ways _ other (subst (λ (v : SeatView). seat_claims v c ≡ true) (the_view k.part k.view k.has) k.claims))
        ∙ sym other
  ]

  pub stored_is : (c w : ℕ) → (m.seat id).written c w ≡ true → m.claim c ≡ Some id → w < 129 → stored view.written (129 * c + w) ≡ Some (m.cell c w)
  stored_is c w wrote ours below =
      let k : HasStored s.views id (129 * c + w) (m.cell c w) = here.stands.written id c w wrote ours below in
      subst (λ (v : SeatView). stored v.written (129 * c + w) ≡ Some (m.cell c w)) (the_view k.part k.view k.has) k.is

  pub read_is_of : (r : ReadUnderWay) → (m.seat id).reading ≡ Some r → IsUnderWay fixed view r
  read_is_of r is =
      let k : HasRead fixed s.views id r = here.stands.reads id r is in
      subst (λ (v : SeatView). IsUnderWay fixed v r) (the_view k.part k.view k.has) k.under_way

  -- it is so of what is seen later
  still_read : (of : Fixed) (new : SeatView) (more : List Event) → new.seen ≡ view.seen ++ more → IsLegal of new.seen
      → (r : ReadUnderWay) → (m.seat id).reading ≡ Some r → IsUnderWay fixed new r
  still_read of new more is legal r reading = under_way_later fixed of view new more r is legal (read_is_of r reading)

  pub read_on : (new : SeatView) (between own : List Event) → GoesOn view new between own → (r : ReadUnderWay) → (m.seat id).reading ≡ Some r → IsUnderWay fixed new r
  read_on new between own on = still_read new.fixed new (between ++ own) (on.seen_is ∙ append_assoc view.seen between own) on.legal

  pub unseen_read : (new : SeatView) → new.seen ≡ view.seen → (r : ReadUnderWay) → (m.seat id).reading ≡ Some r → IsUnderWay fixed new r
  unseen_read new seen = still_read fixed new [] (seen ∙ sym (append-nil view.seen))
      (subst (λ (h : List Event). IsLegal fixed h) (sym seen) (seen_legal fixed s here.kept id view here.is_seat))

  -- what it claims isn't shown, and lies below the capacity
  pub hidden : (c : ℕ) → seat_has m id c ≡ true → is_shown m c ≡ false
  hidden c ours = claimed_hidden fixed m id c here.stands.served.sound ours

  pub low : (c : ℕ) → seat_has m id c ≡ true → c < fixed.capacity
  low c ours = here.stands.served.sound.claimed_below c (ap (λ (o : Option ℕ). is_some (option_map (λ (n : ℕ). n ∷ []) o)) (seat_claim id (m.claim c) ours))

  -- another seat doesn't claim what it does
  pub others_not : (k c : ℕ) → k ≢ id → seat_has m id c ≡ true → seat_has m k c ≡ false
  others_not k c other ours = false_from_ne_true _ (λ theirs.
      let same : Some id ≡ Some k = sym (seat_claim id (m.claim c) ours) ∙ seat_claim k (m.claim c) theirs in
      let never : k ≡ id = cc in
      other never)

  module _ (new : SeatView) where
    abbrev later : List (List SeatView)
    later = set s.views id (new ∷ [])

    its_new : HasView later id 0 new
    its_new = gets s.views id (view ∷ []) (new ∷ []) 0 new here.is_seat refl

    module _ (next : Machine) (ours : (c : ℕ) → seat_has next id c ≡ seat_claims new c) (others : (k c : ℕ) → k ≢ id → seat_has next k c ≡ seat_has m k c) where
      claimed_by : (k c : ℕ) → next.claim c ≡ Some k → HasClaim later k c
      claimed_by k c is = elim (cases_eq k id) [
        | inl its ↦
            let has : seat_has next id c ≡ true = claimer_of next id c (is ∙ ap (λ (x : ℕ). Some x) its) in
            subst (λ (x : ℕ). HasClaim later x c) (sym its) (record { part = 0; view = new; has = its_new; claims = sym (ours c) ∙ has })
        | inr other ↦
            let had : HasClaim s.views k c = (here.stands.claims k c).0 (seat_claim k (m.claim c) (sym (others k c other) ∙ claimer_of next k c is)) in
            record { part = had.part; view = had.view; has = stays s.views id (new ∷ []) k had.part had.view other had.has; claims = had.claims }
      ]

      claims_it : (k c : ℕ) → HasClaim later k c → next.claim c ≡ Some k
      claims_it k c has = elim (at_other s.views id (new ∷ []) k has.part has.view has.has) [
        | inl its ↦
            let view_is : has.view ≡ new = (one_part new has.view has.part its.1).1 in
            seat_claim id (next.claim c) (ours c ∙ subst (λ (v : SeatView). seat_claims v c ≡ true) view_is has.claims) ∙ ap (λ (x : ℕ). Some x) (sym its.0)
        | inr other ↦
            let had : HasClaim s.views k c = record { part = has.part; view = has.view; has = other.1; claims = has.claims } in
            seat_claim k (next.claim c) (others k c other.0 ∙ claimer_of m k c ((here.stands.claims k c).1 had))
      ]

      pub stands_after : (i n : ℕ) → IsSoundMachine fixed next
          → ((c w : ℕ) → c < fixed.capacity → w < 129 → cell_at fixed (set s.words i n) (129 * c + w) ≡ next.cell c w)
          → ((group : ℕ) → group < groups fixed → held_word (set s.words i n) group ≡ next.held_word group)
          → ((c : ℕ) → c / 64 < groups fixed → has_bit (claim_word fixed (set s.words i n) (c / 64)) (c % 64) ≡ (is_shown next c || is_some (next.claim c)))
          → length_word fixed (set s.words i n) ≡ length_code next.recorded
          → ((c w : ℕ) → (next.seat id).written c w ≡ true → next.claim c ≡ Some id → w < 129 → stored new.written (129 * c + w) ≡ Some (next.cell c w))
          → ((k c w : ℕ) → k ≢ id → (next.seat k).written c w ≡ true → m.claim c ≡ Some k → w < 129 → ((m.seat k).written c w ≡ true) × (next.cell c w ≡ m.cell c w))
          → ((r : ReadUnderWay) → (next.seat id).reading ≡ Some r → IsUnderWay fixed new r)
          → ((k : ℕ) → k ≢ id → (next.seat k).reading ≡ (m.seat k).reading)
          → StandsForMachine fixed (stepped s i n id [] (new ∷ []) keeps) next
      stands_after i n served cells held claimed recorded wrote theirs reads others_read = record {
        served = served;
        cells = cells;
        held = held;
        claimed = claimed;
        recorded = recorded;
        claims = λ k c. (claimed_by k c, claims_it k c);
        written = λ k c w is by below. elim (cases_eq k id) [
          | inl its ↦
              subst (λ (x : ℕ). HasStored later x (129 * c + w) (next.cell c w)) (sym its) (record {
                part = 0;
                view = new;
                has = its_new;
                is = wrote c w (subst (λ (x : ℕ). (next.seat x).written c w ≡ true) its is) (by ∙ ap (λ (x : ℕ). Some x) its) below;
              })
          | inr other ↦
              let claim : m.claim c ≡ Some k = seat_claim k (m.claim c) (sym (others k c other) ∙ claimer_of next k c by) in
              let old = theirs k c w other is claim below in
              let had : HasStored s.views k (129 * c + w) (m.cell c w) = here.stands.written k c w old.0 claim below in
              record { part = had.part; view = had.view; has = stays s.views id (new ∷ []) k had.part had.view other had.has; is = had.is ∙ ap (λ (x : ℕ). Some x) (sym old.1) }
        ];
        reads = λ k r is. elim (cases_eq k id) [
          | inl its ↦
              subst (λ (x : ℕ). HasRead fixed later x r) (sym its)
              (record { part = 0; view = new; has = its_new; under_way = reads r (subst (λ (x : ℕ). (next.seat x).reading ≡ Some r) its is) })
          | inr other ↦
              let had : HasRead fixed s.views k r = here.stands.reads k r (sym (others_read k other) ∙ is) in
              record { part = had.part; view = had.view; has = stays s.views id (new ∷ []) k had.part had.view other had.has; under_way = had.under_way }
        ];
      }

  -- a step that leaves all words but those of parents: the table stands for the same machine where the seat's claims and
  -- stored words stay
  stays_where : (new : SeatView) (i n : ℕ) → ((place : ℕ) → place < parents_place fixed → slice_index (set s.words i n) place ≡ slice_index s.words place)
      → ((c : ℕ) → seat_claims new c ≡ seat_claims view c) → ((number : ℕ) → stored new.written number ≡ stored view.written number)
      → ((r : ReadUnderWay) → (m.seat id).reading ≡ Some r → IsUnderWay fixed new r) → StandsForMachine fixed (stepped s i n id [] (new ∷ []) keeps) m
  stays_where new i n leaves claims written reads =
      stands_after new m (λ c. seat_is c ∙ sym (claims c)) (λ k c other. refl) i n here.stands.served
      (λ c w below cell. leaves (cell_place fixed (129 * c + w)) (omega (arith, below, cell)) ∙ here.stands.cells c w below cell)
      (λ g there. leaves g (omega (arith, there)) ∙ here.stands.held g there)
      (λ c there. ap (λ (w : ℕ). has_bit w (c % 64)) (leaves (claim_place fixed (c / 64)) (omega (arith, there))) ∙ here.stands.claimed c there)
      (leaves (length_place fixed) (omega arith) ∙ here.stands.recorded)
      (λ c w wrote by below. written (129 * c + w) ∙ stored_is c w wrote by below)
      (λ k c w other wrote by below. (wrote, refl))
      reads (λ k other. refl)

  -- as does a load
  pub stays_after : (new : SeatView) (place : ℕ) → ((c : ℕ) → seat_claims new c ≡ seat_claims view c)
      → ((number : ℕ) → stored new.written number ≡ stored view.written number)
      → ((r : ReadUnderWay) → (m.seat id).reading ≡ Some r → IsUnderWay fixed new r) → StandsForMachine fixed (after_load s place id new) m
  stays_after new place =
      stays_where new place (slice_index s.words place) (λ p low. ap (λ (words : List ℕ). slice_index words p) (set-get_or s.words place 0))

  -- and a step that writes a word of parents
  pub stays_aside : (new : SeatView) (i n : ℕ) → parents_place fixed ≤ i → ((c : ℕ) → seat_claims new c ≡ seat_claims view c)
      → ((number : ℕ) → stored new.written number ≡ stored view.written number)
      → ((r : ReadUnderWay) → (m.seat id).reading ≡ Some r → IsUnderWay fixed new r) → StandsForMachine fixed (stepped s i n id [] (new ∷ []) keeps) m
  stays_aside new i n high = stays_where new i n (λ p low. left s.words i n p (λ e. omega (arith, e, low, high)))
