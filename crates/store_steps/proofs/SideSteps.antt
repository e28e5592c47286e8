-- What leaves the machine of schedules: loads that stand in, copies, steps on the words of parents, and Hash, which is no step
-- on the words. And its start.
use Rattle.std.proofs.Common.{◌∷◌, List, set, inl, inr, ◌++◌, ◌≡◌, ℕ, eqb-true, ◌+◌, ◌*◌, ◌/◌, ◌%◌, ◌==◌, Bool, true, false, not, ◌&&◌, ◌||◌, [], None, Some, refl, sym, ap, subst, ◌∙◌, arith}
use Rattle.std.specs.Int.{bit_not, w64}
use Rattle.std.specs.Int.Bits.{bit_and, bit_or}
use Rattle.std.proofs.lemmas.Bool.{both_ways, cases_Bool, cases_eq}
use mathlib.Core.Option.{some}
use lib.ListN.{get_elem?}
use Rattle.atomic_table.specs.Table.{State as Table}
use Rattle.bao_check.specs.declared.checked.Checked.{Checked}
use Rattle.holders.specs.declared.fixed.Fixed.{Fixed}
use Rattle.store_core.specs.declared.micro.MicroStep.TheVariants.{Hash}
use Rattle.store_core.specs.declared.view.SeatView.{SeatView}
use Rattle.store_core.specs.declared.view.StoredWord.{StoredWord}
use Rattle.store_core.specs.Histories.{state_after}
use Rattle.store_core.specs.Machine.{Machine}
use Rattle.store_core.specs.Names.{Name}
use Rattle.store_core.specs.States.{claims}
use Rattle.store_core.specs.Views.{seat_claims, split_first, split_second, stored}
use Rattle.store_core.proofs.Joining.{split_keeps}
use Rattle.store_core.proofs.Running.{one_step, start_served}
use Rattle.store_steps.specs.Layout.{cell_place, claim_place, length_place, parent_claim_place, parent_claim_word, parent_held_place, parent_held_word, parent_word_place, word_count}
use Rattle.store_steps.specs.Machines.{IsAtMachine, StandsForMachine}
use Rattle.store_steps.specs.Simulates.{AbsentStays, ClaimParentsStays, CopyParentStays, CopyStays, HashIsNoStep, LookStays, OpeningIsStart, PartStays, PublishParentsStays, StoreParentStays, after_load, parted_table}
use Rattle.store_steps.specs.Tells.{IsStoringNow}
use Rattle.store_core.proofs.Bits.{has_bit-zero}
use Rattle.store_steps.proofs.Lists.{one_part}
use Rattle.store_steps.proofs.Opening.{the_view, zero_at, zero_bit}
use Rattle.store_steps.proofs.Regrouping.{at_end}
use Rattle.store_steps.proofs.WrittenWords.{in_none, stays_stored}
use Rattle.store_steps.proofs.Simulating.{read_on, stays_after, stays_aside, unseen_read}
use Rattle.store_steps.proofs.Renaming.{Stands, same_stands, stays_stands}
use Rattle.store_steps.proofs.Storers.{at_other, gets, had, longer, stays}
use Rattle.store_steps.proofs.Keeping.{placed}

pub look_stays : LookStays
look_stays fixed pieces s m id place view new events here looked =
    stays_after fixed pieces s m id view here new place looked.claims_are (λ n. ap (λ (words : List StoredWord). stored words n) looked.written_are)
    (read_on fixed pieces s m id view here new looked.between _ looked.goes_on)

-- a load of a seat whose view stays leaves the machine
same_stays : (fixed : Fixed) (pieces : List Checked) (s : Table Unit (List SeatView)) (m : Machine) (id place : ℕ) (view new : SeatView) → IsAtMachine fixed pieces s m id view
    → new ≡ view → StandsForMachine fixed (after_load s place id new) m
same_stays fixed pieces s m id place view new here same =
    stays_after fixed pieces s m id view here new place (λ c. ap (λ (v : SeatView). seat_claims v c) same) (λ n. ap (λ (v : SeatView). stored v.written n) same)
    (unseen_read fixed pieces s m id view here new (ap (λ (v : SeatView). v.seen) same))

pub copy_stays : CopyStays
copy_stays fixed pieces s m id c w view new here low cell copied = (
  here.stands.cells c w low cell,
  same_stays fixed pieces s m id (cell_place fixed (129 * c + w)) view new here copied.same,
)

pub copy_parent_stays : CopyParentStays
copy_parent_stays fixed pieces s m id b w view new here copied =
    same_stays fixed pieces s m id (parent_word_place fixed (8 * b + w)) view new here copied.same

pub claim_parents_stays : ClaimParentsStays
claim_parents_stays fixed pieces s m id group asked view new here told =
    let stores : IsStoringNow group (bit_and asked (bit_not w64 (parent_claim_word fixed s.words group))) view new = told.stores in
    stays_aside fixed pieces s m id view here new (parent_claim_place fixed group) (bit_or (parent_claim_word fixed s.words group) asked) (omega arith)
    (λ c. ap (λ (v : SeatView). seat_claims v c) stores) (λ n. ap (λ (v : SeatView). stored v.written n) stores)
    (unseen_read fixed pieces s m id view here new (ap (λ (v : SeatView). v.seen) stores))

pub store_parent_stays : StoreParentStays
store_parent_stays fixed pieces s m id b w value view new here stores =
    stays_aside fixed pieces s m id view here new (parent_word_place fixed (8 * b + w)) value (omega arith)
    (λ c. ap (λ (v : SeatView). seat_claims v c) stores) (λ n. ap (λ (v : SeatView). stored v.written n) stores)
    (unseen_read fixed pieces s m id view here new (ap (λ (v : SeatView). v.seen) stores))

pub publish_parents_stays : PublishParentsStays
publish_parents_stays fixed pieces s m id group mask piece view new here told =
    stays_aside fixed pieces s m id view here new (parent_held_place fixed group) (bit_or (parent_held_word fixed s.words group) mask) (omega arith)
    told.called.claims_are (λ n. ap (λ (words : List StoredWord). stored words n) told.written_are)
    (read_on fixed pieces s m id view here new told.called.between _ told.called.goes_on)

pub absent_stays : AbsentStays
absent_stays fixed pieces s m id place group mask piece view new here (inl gave) =
    stays_after fixed pieces s m id view here new place (λ c. gave.claims_are c ∙ ap (λ (b : Bool). not b && seat_claims view c) (in_none group c))
    (λ n. ap (λ (words : List StoredWord). stored words n) gave.written_are ∙ stays_stored group 0 n view.written (in_none group (n / 129)))
    (read_on fixed pieces s m id view here new gave.between _ gave.goes_on)
absent_stays fixed pieces s m id place group mask piece view new here (inr did) =
    stays_after fixed pieces s m id view here new place (λ c. did.claims_are c ∙ ap (λ (b : Bool). not b && seat_claims view c) (in_none group c))
    (λ n. ap (λ (words : List StoredWord). stored words n) did.written_are ∙ stays_stored group 0 n view.written (in_none group (n / 129)))
    (read_on fixed pieces s m id view here new did.between _ did.goes_on)

pub hash_is_no_step : HashIsNoStep
hash_is_no_step fixed pieces s m id i texts stands legal = record {
  served = (one_step fixed pieces m (Hash id i) None (texts i) stands.served legal refl).served;
  cells = stands.cells;
  held = stands.held;
  claimed = stands.claimed;
  recorded = stands.recorded;
  claims = stands.claims;
  written = λ k c w wrote by below. elim (cases_Bool (k == id)) [
    | inl its ↦ let none : false ≡ true = rw its at wrote in cc
    | inr other ↦ stands.written k c w (rw other at wrote) by below
  ];
  reads = λ k r is. elim (cases_Bool (k == id)) [
    | inl its ↦
        let same : k ≡ id = eqb-true k id its in
        stands.reads k r (ap (λ (x : ℕ). (m.seat x).reading) same ∙ rw its at is)
    | inr other ↦ stands.reads k r (rw other at is)
  ];
}

pub opening_is_start : OpeningIsStart
opening_is_start fixed = record {
  served = start_served fixed;
  cells = λ c w below cell. zero_at (word_count fixed) (cell_place fixed (129 * c + w)) (omega (arith, below, cell));
  held = λ g below. zero_at (word_count fixed) g (omega (arith, below));
  claimed = λ c below.
      zero_bit (word_count fixed) (claim_place fixed (c / 64)) (c % 64) (omega (arith, below)) ∙ sym (ap (λ (b : Bool). b || false) (has_bit-zero (c % 64)));
  recorded = zero_at (word_count fixed) (length_place fixed) (omega arith);
  claims = λ n c. (
    λ is. let never : None ≡ Some n = is in cc,
    λ has.
        let view = (the_view fixed n has.part has.view has.has).2 in
        let never : false ≡ true = subst (λ (v : SeatView). seat_claims v c ≡ true) view has.claims in cc,
  );
  written = λ n c w wrote by below. let never : false ≡ true = wrote in cc;
  reads = λ n r is. let never : None ≡ Some r = is in cc;
}

pub part_stays : PartStays
part_stays fixed pieces s m id place view new here told =
    let kept : List (List SeatView) = set s.views id (split_first view ∷ []) in
    let more : List (List SeatView) = (split_second view ∷ []) ∷ [] in
    let same : (c : ℕ) → seat_claims (split_first view) c ≡ seat_claims view c = λ c. ap (λ (names : List Name). claims names (state_after view.seen) c) (split_keeps view) in
    let first : Stands fixed (kept ++ more) id view = record {
      part = 0;
      new = split_first view;
      has = longer kept more id 0 (split_first view) (gets s.views id (view ∷ []) (split_first view ∷ []) 0 (split_first view) here.is_seat refl);
      claimed = λ c is. same c ∙ is;
      wrote = λ number value is. is;
      reading = λ r is. record { part = is.part; more = is.more; below = is.below };
    } in (
      same_stays fixed pieces s m id place view new here told.same,
      stays_stands fixed s (parted_table s id view) m refl here.kept here.stands
          (λ i j v h. elim (cases_eq i id) [
            | inl its ↦
                let only = one_part view v j (had s.views id (view ∷ []) i j v here.is_seat its h) in
                placed (λ n part u. Stands fixed (kept ++ more) n u) i j id 0 v view its only.0 only.1 first
            | inr away ↦ same_stands fixed (kept ++ more) i j v (longer kept more i j v (stays s.views id (split_first view ∷ []) i j v away h))
          ])
          (λ i j v h c is. elim (at_end kept (split_second view ∷ []) h.parts i h.is_seat) [
            | inl before ↦ elim (at_other s.views id (split_first view ∷ []) i j v (record { parts = h.parts; is_seat = before; is_part = h.is_part })) [
              | inl mine ↦ record {
                old_seat = id;
                old_part = 0;
                view = view;
                has = record { parts = view ∷ []; is_seat = here.is_seat; is_part = refl };
                claimed = sym (same c) ∙ subst (λ (u : SeatView). seat_claims u c ≡ true) (one_part (split_first view) v j mine.1).1 is;
                is = sym mine.0;
              }
              | inr away ↦ record { old_seat = i; old_part = j; view = v; has = away.1; claimed = is; is = refl }
            ]
            | inr last ↦
                let only = one_part (split_second view) v j (subst (λ (ps : List SeatView). get_elem? ps j ≡ some v) (sym last.1) h.is_part) in
                absurd (both_ways _ (ap (λ (u : SeatView). seat_claims u c) only.1 ∙ told.parts.no_claims c) is)
          ]),
    )
