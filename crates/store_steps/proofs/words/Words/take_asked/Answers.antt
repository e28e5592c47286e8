use Rattle.std.proofs.Common.{◌≡◌, ◌%◌, ◌&&◌, nat_lt, ℕ, Bool, bit_or, sym, ap, ◌∙◌, arith}
use Rattle.std.specs.Int.Bits.{bit_and}
use Rattle.store_core.specs.Masks.{has_bit, IsMaskOf}
use Rattle.store_steps.specs.Layout.{claim_place}
use Rattle.store_steps.specs.Plays.{TakesChunks}
use Rattle.store_core.proofs.Bits.{and_small, has_bit-and}
use Rattle.store_steps.proofs.StepViews.{step_asks}
use Rattle.store_steps.proofs.Taking.{take_steps}
use Rattle.store_steps.proofs.words.Words.take_asked.Goals as goal

pub fetch_or-found-requires : goal.fetch_or-found-requires
fetch_or-found-requires g c =
    let words = c.args.self.now in
    let seat = c.grip.inside.seat in
    let group : ℕ = g.A.Arguments.group in
    let want : ℕ = g.A.Arguments.first in
    let mask : ℕ = bit_and c.args.want c.mask_below.result in
    let same : group ≡ c.args.group = c.requires.asked.0 in
    let asks : IsMaskOf group mask (λ k. has_bit want (k % 64) && nat_lt k words.fixed.capacity) = record {
      small = and_small c.args.want c.mask_below.result c.ranges.want.fits;
      bits = λ k here.
          has_bit-and c.args.want c.mask_below.result (k % 64)
          ∙ ap (λ (b : Bool). has_bit c.args.want (k % 64) && b) (c.mask_below.ensures.bits k (here ∙ same) ∙ ap (λ (e : ℕ). nat_lt k e) c.from.ensures)
          ∙ ap (λ (w : ℕ). has_bit w (k % 64) && nat_lt k words.fixed.capacity) (sym c.requires.asked.1);
    } in
    step_asks words seat c.grip.view_is c.requires.of c.grip.invariant.0 (c.claim_place-place.ensures.place ∙ ap (λ (k : ℕ). claim_place words.fixed k) (sym same))
    c.claim_place-place.ensures.within (λ n. bit_or n mask) (λ n. TakesChunks group want mask n) (λ s kept at small.
    take_steps words.fixed s kept seat.id _ at group want mask (omega (arith, same, c.requires.group)) asks small)
