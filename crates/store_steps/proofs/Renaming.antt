-- A table whose views moved from seat to seat stands for the machine in which claims are renamed.
use Rattle.std.proofs.Common.{◌≡◌, ℕ, ◌+◌, ◌*◌, ◌/◌, ◌%◌, ◌<◌, Bool, true, false, ◌||◌, List, [], ◌∷◌, Option, None, Some, is_some, option_map, refl, sym, ap, subst, ◌∙◌, arith}
use Rattle.std.proofs.lemmas.Bool.{both_ways, false_from_ne_true}
use Rattle.atomic_table.specs.Table.{State as Table}
use Rattle.holders.specs.declared.fixed.Fixed.{Fixed}
use Rattle.holders.specs.declared.piece.Piece.{Piece}
use Rattle.store_core.specs.declared.view.SeatView.{SeatView}
use Rattle.store_core.specs.Cells.{cell_word}
use Rattle.store_core.specs.Histories.{state_after}
use Rattle.store_core.specs.Machine.{Machine, MachineSeat, ReadUnderWay, current_bytes, is_number, is_shown, store_of}
use Rattle.store_core.specs.Masks.{has_bit}
use Rattle.store_core.specs.MachineInvariant.{IsSoundMachine}
use Rattle.store_core.specs.States.{claims, is_claimed, is_held}
use Rattle.store_core.specs.Views.{names_of, seat_claims, stored}
use Rattle.store_core.proofs.Joining.{claims_continued}
use Rattle.store_core.proofs.MachineInvariants.{claim_seat, seat_claim}
use Rattle.store_steps.specs.Layout.{cell_at, claim_word, held_word, length_word}
use Rattle.store_steps.specs.Machines.{HasClaim, HasRead, HasStored, IsUnderWay, StandsForMachine}
use Rattle.store_steps.specs.Rule.{HasView, RuleHolds}
use Rattle.std.proofs.lemmas.Option.{same_Some}
use Rattle.store_steps.proofs.Lists.{is_some-map}

some_of : (o : Option ℕ) → is_some o ≡ true → (n : ℕ) × (o ≡ Some n)
some_of None h = let never : false ≡ true = h in cc
some_of (Some n) h = (n, refl)

-- what is claimed isn't shown
dark : (fixed : Fixed) (m : Machine) (c : ℕ) → IsSoundMachine fixed m → is_some (m.claim c) ≡ true → is_shown m c ≡ false
dark fixed m c served claimed = false_from_ne_true _ (λ shown.
    let held : is_held (store_of m) c ≡ true = rw shown refl in
    both_ways _ (served.sound.apart c held) (is_some-map (λ (n : ℕ). n ∷ []) (m.claim c) ∙ claimed))

-- who wrote a word of a claimed chunk claims it
writer : (fixed : Fixed) (m : Machine) (n c w : ℕ) → IsSoundMachine fixed m → (m.seat n).written c w ≡ true → is_some (m.claim c) ≡ true → m.claim c ≡ Some n
writer fixed m n c w served wrote claimed = seat_claim n (m.claim c) (served.kept.known n c w wrote (dark fixed m c served claimed))

-- The machine with other claims and seats keeps what it kept, where the same chunks are claimed and no seat has more than it had.
pub renamed_served : (fixed : Fixed) (m : Machine) (f : ℕ → Option ℕ) (g : ℕ → MachineSeat) → IsSoundMachine fixed m → ((c : ℕ) → is_some (f c) ≡ is_some (m.claim c))
    → ((n c w : ℕ) → (g n).written c w ≡ true → ((m.seat n).written c w ≡ true) × ((g n).piece ≡ (m.seat n).piece))
    → ((n c w : ℕ) → (g n).written c w ≡ true → m.claim c ≡ Some n → f c ≡ Some n)
    → ((n : ℕ) (piece : Piece) → (g n).piece ≡ Some piece → (m.seat n).piece ≡ Some piece)
    → ((n : ℕ) (r : ReadUnderWay) → (g n).reading ≡ Some r → (m.seat n).reading ≡ Some r)
    → IsSoundMachine fixed (record m { claim = f; seat = g })
renamed_served fixed m f g served same wrote keeps_claim pieces readings =
    let claimed_same : (c : ℕ) → is_some (option_map (λ (n : ℕ). n ∷ []) (f c)) ≡ is_claimed (store_of m) c =
    λ c. is_some-map (λ (n : ℕ). n ∷ []) (f c) ∙ same c ∙ sym (is_some-map (λ (n : ℕ). n ∷ []) (m.claim c)) in
    record {
      sound = record {
        apart = λ c held. claimed_same c ∙ served.sound.apart c held;
        held_below = served.sound.held_below;
        claimed_below = λ c claimed. served.sound.claimed_below c (sym (claimed_same c) ∙ claimed);
      };
      kept = record {
        known = λ n c w is hidden.
            let by : m.claim c ≡ Some n = seat_claim n (m.claim c) (served.kept.known n c w (wrote n c w is).0 hidden) in
            ap (λ (o : Option ℕ). is_number n o) (keeps_claim n c w is by) ∙ claim_seat n;
        cells = λ n c w is has.
            let there : is_some (m.claim c) ≡ true = sym (same c) ∙ ap (λ (o : Option ℕ). is_some o) (seat_claim n (f c) has) in
            served.kept.cells n c w (wrote n c w is).0 (served.kept.known n c w (wrote n c w is).0 (dark fixed m c served there))
            ∙ ap (λ (o : Option Piece). cell_word (current_bytes o c) w) (sym (wrote n c w is).1);
        accepted = λ n piece is. served.kept.accepted n piece (pieces n piece is);
      };
      reads = λ n r is. let part = served.reads n r (readings n r is) in record { within = part.within; held = part.held };
    }

-- where a view stands in another table, with its claims, its stored words and its read
pub record Stands (fixed : Fixed) (later : List (List SeatView)) (seat : ℕ) (view : SeatView) : Type 0 where
  pub part : ℕ
  pub new : SeatView
  pub has : HasView later seat part new
  pub claimed : (c : ℕ) → seat_claims view c ≡ true → seat_claims new c ≡ true
  pub wrote : (number value : ℕ) → stored view.written number ≡ Some value → stored new.written number ≡ Some value
  pub reading : (r : ReadUnderWay) → IsUnderWay fixed view r → IsUnderWay fixed new r

-- the view that a claim was of
pub record Stood (views : List (List SeatView)) (to : ℕ × ℕ → ℕ) (seat c : ℕ) : Type 0 where
  pub old_seat : ℕ
  pub old_part : ℕ
  pub view : SeatView
  pub has : HasView views old_seat old_part view
  pub claimed : seat_claims view c ≡ true
  pub is : to (old_seat, old_part) ≡ seat

pub same_stands : (fixed : Fixed) (later : List (List SeatView)) (seat part : ℕ) (view : SeatView) → HasView later seat part view → Stands fixed later seat view
same_stands fixed later seat part view h = record {
  part = part;
  new = view;
  has = h;
  claimed = λ c is. is;
  wrote = λ number value is. is;
  reading = λ r is. is;
}

-- what a view claims it claims after the whole history
pub claims_now : (fixed : Fixed) (s : Table Unit (List SeatView)) (k : RuleHolds fixed s) (i j : ℕ) (v : SeatView) → HasView s.views i j v → (c : ℕ)
    → claims (names_of v) (state_after k.history) c ≡ seat_claims v c
claims_now fixed s k i j v h c = claims_continued fixed v k.history (k.views i j v h).continues k.legal c

module _ (fixed : Fixed) (s t : Table Unit (List SeatView)) (m : Machine) (to : ℕ × ℕ → ℕ) (words : t.words ≡ s.words) (k : RuleHolds fixed s)
    (stands : StandsForMachine fixed s m) (forth : (i j : ℕ) (v : SeatView) → HasView s.views i j v → Stands fixed t.views (to (i, j)) v)
    (back : (i j : ℕ) (v : SeatView) → HasView t.views i j v → (c : ℕ) → seat_claims v c ≡ true → Stood s.views to i c)
    (f : ℕ → Option ℕ) (g : ℕ → MachineSeat) (same : (c : ℕ) → is_some (f c) ≡ is_some (m.claim c))
    (renames : (i j : ℕ) (v : SeatView) → HasView s.views i j v → (c : ℕ) → seat_claims v c ≡ true → m.claim c ≡ Some i → f c ≡ Some (to (i, j))) where
  its : (i j : ℕ) (v : SeatView) → HasView s.views i j v → (c : ℕ) → seat_claims v c ≡ true → f c ≡ Some (to (i, j))
  its i j v h c is = renames i j v h c is ((stands.claims i c).1 (record { part = j; view = v; has = h; claims = is }))

  claims_forth : (n c : ℕ) → f c ≡ Some n → HasClaim t.views n c
  claims_forth n c is =
      let there : is_some (m.claim c) ≡ true = sym (same c) ∙ ap (λ (o : Option ℕ). is_some o) is in
      let old = some_of (m.claim c) there in
      let was : HasClaim s.views old.0 c = (stands.claims old.0 c).0 old.1 in
      let now = forth old.0 was.part was.view was.has in
      subst (λ (x : ℕ). HasClaim t.views x c) (same_Some (to (old.0, was.part)) n (sym (its old.0 was.part was.view was.has c was.claims) ∙ is))
      (record { part = now.part; view = now.new; has = now.has; claims = now.claimed c was.claims })

  claims_back : (n c : ℕ) → HasClaim t.views n c → f c ≡ Some n
  claims_back n c has =
      let old = back n has.part has.view has.has c has.claims in
      its old.old_seat old.old_part old.view old.has c old.claimed ∙ ap (λ (x : ℕ). Some x) old.is

  written_on : (n c w old : ℕ) → (m.seat old).written c w ≡ true → m.claim c ≡ Some old → f c ≡ Some n → w < 129 → HasStored t.views n (129 * c + w) (m.cell c w)
  written_on n c w old wrote by is below =
      let was : HasStored s.views old (129 * c + w) (m.cell c w) = stands.written old c w wrote by below in
      let chunk : (129 * c + w) / 129 ≡ c = omega (arith, below) in
      let claimed : claims (names_of was.view) (state_after k.history) c ≡ true =
      subst (λ (x : ℕ). claims (names_of was.view) (state_after k.history) x ≡ true) chunk ((k.views old was.part was.view was.has).written (129 * c + w) (m.cell c w) was.is).0 in
      let ours : seat_claims was.view c ≡ true = sym (claims_now fixed s k old was.part was.view was.has c) ∙ claimed in
      let now = forth old was.part was.view was.has in
      subst (λ (x : ℕ). HasStored t.views x (129 * c + w) (m.cell c w)) (same_Some (to (old, was.part)) n (sym (its old was.part was.view was.has c ours) ∙ is))
      (record { part = now.part; view = now.new; has = now.has; is = now.wrote (129 * c + w) (m.cell c w) was.is })

  pub renamed_stands : IsSoundMachine fixed (record m { claim = f; seat = g })
      → ((n c w : ℕ) → (g n).written c w ≡ true → (m.seat n).written c w ≡ true)
      → ((n : ℕ) (r : ReadUnderWay) → (g n).reading ≡ Some r → HasRead fixed t.views n r)
      → StandsForMachine fixed t (record m { claim = f; seat = g })
  renamed_stands served wrote reads = record {
    served = served;
    cells = λ c w below cell. ap (λ (ws : List ℕ). cell_at fixed ws (129 * c + w)) words ∙ stands.cells c w below cell;
    held = λ group there. ap (λ (ws : List ℕ). held_word ws group) words ∙ stands.held group there;
    claimed = λ c there.
        ap (λ (ws : List ℕ). has_bit (claim_word fixed ws (c / 64)) (c % 64)) words ∙ stands.claimed c there ∙ ap (λ (b : Bool). is_shown m c || b) (sym (same c));
    recorded = ap (λ (ws : List ℕ). length_word fixed ws) words ∙ stands.recorded;
    claims = λ n c. (claims_forth n c, claims_back n c);
    written = λ n c w is by below.
        let there : is_some (m.claim c) ≡ true = sym (same c) ∙ ap (λ (o : Option ℕ). is_some o) by in
        written_on n c w n (wrote n c w is) (writer fixed m n c w stands.served (wrote n c w is) there) by below;
    reads = reads;
  }

-- Where views alone change, and each stays at its seat, the machine is the same.
module _ (fixed : Fixed) (s t : Table Unit (List SeatView)) (m : Machine) (words : t.words ≡ s.words) (k : RuleHolds fixed s) (stands : StandsForMachine fixed s m)
    (forth : (i j : ℕ) (v : SeatView) → HasView s.views i j v → Stands fixed t.views i v)
    (back : (i j : ℕ) (v : SeatView) → HasView t.views i j v → (c : ℕ) → seat_claims v c ≡ true → Stood s.views (λ p. p.0) i c) where
  pub stays_stands : StandsForMachine fixed t m
  stays_stands = renamed_stands fixed s t m (λ p. p.0) words k stands forth back m.claim m.seat (λ c. refl) (λ i j v h c is by. by) stands.served
      (λ n c w is. is)
      (λ n r is.
      let was : HasRead fixed s.views n r = stands.reads n r is in
      let now = forth n was.part was.view was.has in
      record { part = now.part; view = now.new; has = now.has; under_way = now.reading r was.under_way })
