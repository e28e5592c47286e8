-- Words of zeros, one seat that has seen nothing, and no call: the rule holds.
use Rattle.std.proofs.Common.{zero, suc, ◌≡◌, ℕ, ◌+◌, ◌/◌, ◌%◌, ◌<◌, [], ◌∷◌, ◌++◌, length, replicate, slice_index, Contains, None, false, inl, inr, refl, sym, ap, subst, ◌∙◌, arith}
use Rattle.std.proofs.lemmas.List.{get_or-replicate, length-replicate}
use Rattle.atomic_table.specs.Table.{opening}
use mathlib.Core.Option.{some-injective, some-ne-none}
use Rattle.bao_check.proofs.Lists.{Contains-cons_cases}
use Rattle.holders.specs.declared.fixed.Fixed.{Fixed}
use Rattle.store_core.specs.declared.view.Named.{Named}
use Rattle.store_core.specs.declared.view.SeatView.{SeatView}
use Rattle.store_core.specs.Masks.{has_bit}
use Rattle.store_core.specs.Names.{Name}
use Rattle.store_core.specs.Orders.{AreInOrder}
use Rattle.store_core.specs.States.{empty}
use Rattle.store_core.specs.Views.{names_of}
use Rattle.store_core.specs.Knowledge.{opening_view}
use Rattle.store_steps.specs.Layout.{claim_place, length_place, parent_claim_place, parent_held_place, word_count}
use Rattle.store_steps.specs.Rule.{ViewFits, HasView, RuleHolds, IsNamed, StandFor}
use Rattle.store_core.proofs.Bits.{has_bit-zero}
use Rattle.store_steps.proofs.Lists.{one_part}
use Rattle.store_steps.proofs.ParentsStanding.{fits_none}

pub zero_at : (count i : ℕ) → i < count → slice_index (replicate count 0) i ≡ 0
zero_at count i within = get_or-replicate count i 0 0 within

pub zero_bit : (count i j : ℕ) → i < count → has_bit (slice_index (replicate count 0) i) j ≡ false
zero_bit count i j within = ap (λ (w : ℕ). has_bit w j) (zero_at count i within) ∙ has_bit-zero j

zeros_stand : (fixed : Fixed) → StandFor fixed (replicate (word_count fixed) 0) empty
zeros_stand fixed = record {
  count = length-replicate (word_count fixed) 0;
  held = λ c below. zero_bit (word_count fixed) (c / 64) (c % 64) (omega (arith, below));
  claimed = λ c below. zero_bit (word_count fixed) (claim_place fixed (c / 64)) (c % 64) (omega (arith, below));
  cells = λ c w bytes held below. cc;
  recorded = zero_at (word_count fixed) (length_place fixed) (omega arith);
}

-- the only view is the first seat's
pub the_view : (fixed : Fixed) (seat part : ℕ) (view : SeatView) → HasView ((opening_view fixed ∷ []) ∷ []) seat part view
    → (seat ≡ 0) × (part ≡ 0) × (view ≡ opening_view fixed)
the_view fixed zero part view h =
    let parts : opening_view fixed ∷ [] ≡ h.parts = some-injective (opening_view fixed ∷ []) h.parts h.is_seat in
    let one = one_part (opening_view fixed) view part (rw (← parts) at h.is_part) in (refl, one.0, one.1)
the_view fixed (suc seat) part view h = absurd (some-ne-none h.parts (sym h.is_seat))

-- the only entry is that of the empty name, which hasn't split
the_name : (fixed : Fixed) (named : Named) → IsNamed ((opening_view fixed ∷ []) ∷ []) named → named ≡ record { name = []; splits = 0 }
the_name fixed named k =
    let view = (the_view fixed k.seat k.part k.view k.has).2 in
    let among = subst (λ (v : SeatView). Contains v.names named) view k.among in
    elim (Contains-cons_cases [] (record { name = []; splits = 0 }) named among) [ inl first ↦ first | inr never ↦ absurd (omega (arith, never.1)) ]

pub opens : (fixed : Fixed) → RuleHolds fixed (opening (replicate (word_count fixed) 0) [] (opening_view fixed ∷ []))
opens fixed = record {
  history = [];
  legal = tt;
  words = zeros_stand fixed;
  views = λ seat part view h.
      let is = (the_view fixed seat part view h).2 in
      subst (λ (v : SeatView). ViewFits fixed [] (replicate (word_count fixed) 0) v) (sym is) (record {
        fixed_is = refl;
        continues = record { between = []; is = refl; others = refl };
        written = λ number value w. cc;
      });
  names = record {
    owner = λ name. (0, 0);
    owned = λ seat part view h name ours. let is = the_view fixed seat part view h in λ i. (sym is.0 i, sym is.1 i);
    named = λ seat part view h.
        subst (λ (v : SeatView). 0 < length v.names) (sym (the_view fixed seat part view h).2) (omega arith);
    ordered = λ seat part view h.
        subst (λ (v : SeatView). AreInOrder (names_of v)) (sym (the_view fixed seat part view h).2) (tt, tt);
    new_to_views = λ one other a b later.
        let name : other.name ≡ [] = ap (λ (n : Named). n.name) (the_name fixed other b) in
        let base : one.name ≡ [] = ap (λ (n : Named). n.name) (the_name fixed one a) in
        let never : [] ≡ (one.splits + later.number) ∷ later.rest = sym name ∙ later.is ∙ ap (λ (n : Name). n ++ (one.splits + later.number) ∷ later.rest) base in cc;
    new_to_calls = λ named is name later. refl;
    callers = tt;
  };
  parents = record {
    storer = λ m. None;
    stand = record {
      held = λ m below. zero_bit (word_count fixed) (parent_held_place fixed (m / 64)) (m % 64) (omega (arith, below));
      claimed = λ m below. zero_bit (word_count fixed) (parent_claim_place fixed (m / 64)) (m % 64) (omega (arith, below));
      cells = λ m w bytes held below. cc;
      apart = λ m is. refl;
    };
    fit = λ seat part view h.
        let is = (the_view fixed seat part view h).2 in
        fits_none fixed (replicate (word_count fixed) 0) (λ m. None) seat part view (ap (λ (v : SeatView). v.storing) is) (ap (λ (v : SeatView). v.parent_words) is);
    by = λ m seat part is. cc;
  };
}
