use Rattle.std.proofs.Common.{[], ap, arith, bit_or, ltb-true, subst, sym, is_some, nat_lt, not, true, ◌&&◌, ℕ, ◌%◌, ◌-◌, ◌/◌, ◌<◌, ◌∙◌, ◌≡◌}
use Rattle.std.proofs.lemmas.Bool.{and_parts}
use Rattle.std.specs.Int.Bits.{bit_and}
use Rattle.holders.specs.declared.fixed.Fixed.{Fixed}
use Rattle.store_core.specs.declared.view.SeatView.{SeatView}
use Rattle.store_core.specs.Histories.{state_after}
use Rattle.store_core.specs.Knowledge.{AreAllNames}
use Rattle.store_core.specs.Masks.{IsMaskOf, has_bit}
use Rattle.store_steps.specs.Grips.{Gripped, first_of}
use Rattle.store_steps.specs.Layout.{parent_claim_place}
use Rattle.store_steps.specs.Plays.{ClaimsParents}
use Rattle.store_core.proofs.Bits.{has_bit-and}
use Rattle.store_steps.proofs.Taking.{claim_parents_steps, granted_mask}
use Rattle.store_steps.proofs.StepViews.{step_asks}
use Rattle.store_steps.proofs.words.Words.claim_parents_asked.Goals as goal

pub fetch_or-before-requires : goal.fetch_or-before-requires
fetch_or-before-requires g c =
    let words = c.args.self.now in
    let fixed : Fixed = words.fixed in
    let seat = c.grip.inside.seat in
    let group : ℕ = g.A.Arguments.group in
    let mask : ℕ = bit_and c.mask_below.result c.args.want in
    let same : group ≡ c.args.group = c.requires.asked in
    let asks : (m : ℕ) → m / 64 ≡ group → has_bit mask (m % 64) ≡ true → m < fixed.capacity =
    λ m here is.
    let both = and_parts (has_bit c.mask_below.result (m % 64)) (has_bit c.args.want (m % 64)) (sym (has_bit-and c.mask_below.result c.args.want (m % 64)) ∙ is) in
    ltb-true m fixed.capacity (sym (c.mask_below.ensures.bits m (here ∙ same) ∙ ap (λ (e : ℕ). nat_lt m e) c.from.ensures) ∙ both.0) in
    step_asks words seat c.grip.view_is c.requires.of c.grip.invariant.0 (c.parent_claim_place-place.ensures.place ∙ ap (λ (k : ℕ). parent_claim_place fixed k) (sym same))
    c.parent_claim_place-place.ensures.within (λ n. bit_or n mask) (λ n. ClaimsParents group mask n) (λ s kept at small.
    claim_parents_steps fixed s kept seat.id _ at group mask (omega (arith, same, c.requires.group)) asks
    (subst (λ (x : Gripped). x.view.storing ≡ []) (sym c.grip.view_is) c.requires.none) small)

pub returns-clause-among : goal.returns-clause-among
returns-clause-among g c = λ j is.
    let mask : ℕ = bit_and c.mask_below.result c.args.want in
    let free : ℕ = 18446744073709551615 - c.fetch_or-before.result in
    let granted = and_parts (has_bit mask j) (has_bit free j) (sym (has_bit-and mask free j) ∙ is) in
    (and_parts (has_bit c.mask_below.result j) (has_bit c.args.want j) (sym (has_bit-and c.mask_below.result c.args.want j) ∙ granted.0)).1

pub returns-clause-alone : goal.returns-clause-alone
returns-clause-alone g c = λ all.
    let fixed : Fixed = c.args.self.now.fixed in
    let seat = c.grip.inside.seat in
    let view : SeatView = first_of seat.me.0 in
    let its : view ≡ c.args.grip.now.view = ap (λ (x : Gripped). x.view) c.grip.view_is in
    let told = (c.fetch_or-before.ensures.2 view c.grip.invariant.0).3 in
    let same : g.A.Arguments.group ≡ c.args.group = c.requires.asked in
    let below : IsMaskOf c.args.group c.mask_below.result (λ m. nat_lt m fixed.capacity) =
    subst (λ (end : ℕ). IsMaskOf c.args.group c.mask_below.result (λ m. nat_lt m end)) c.from.ensures c.mask_below.ensures in
    subst (λ (v : SeatView). IsMaskOf c.args.group (bit_and (bit_and c.mask_below.result c.args.want) (18446744073709551615 - c.fetch_or-before.result)) (λ m. has_bit c.args.want (m % 64)
    && (nat_lt m fixed.capacity && not (is_some ((state_after v.seen).parents m))))) its
    (granted_mask c.args.group c.mask_below.result c.args.want (18446744073709551615 - c.fetch_or-before.result) fixed.capacity (state_after view.seen).parents below
    (λ m here. told.free (subst (λ (v : SeatView). AreAllNames v.names) (sym its) all) m (here ∙ sym same)))
