use Rattle.std.proofs.Common.{◌≡◌, ℕ, slice_index, sym, subst}
use Rattle.std.specs.Int.{w64, bit_not}
use Rattle.std.specs.Int.Bits.{bit_and}
use Rattle.store_core.specs.declared.history.Call.{Call}
use Rattle.store_core.specs.declared.history.Call.TheVariants.{Give}
use Rattle.store_steps.specs.Asks.{AreClaimed}
use Rattle.store_steps.specs.Grips.{Gripped, first_of}
use Rattle.store_steps.specs.Layout.{claim_place}
use Rattle.store_core.specs.Knowledge.{Did}
use Rattle.store_steps.proofs.StepViews.{Steps, step_asks}
use Rattle.store_steps.proofs.Giving.{give_steps}
use Rattle.store_steps.proofs.words.Words.give_asked.Goals as goal

pub fetch_and-requires : goal.fetch_and-requires
fetch_and-requires g c =
    let words = c.args.self.now in
    let seat = c.grip.inside.seat in
    let place : ℕ = claim_place words.fixed c.args.group in
    let after : ℕ → ℕ = λ n. bit_and n (bit_not w64 c.args.given) in
    let call : Call = Give g.A.Arguments.group g.A.Arguments.first g.A.Arguments.second in
    let same : Give c.args.group c.args.mask c.args.given ≡ call = cc in
    step_asks words seat c.grip.view_is c.requires.of c.grip.invariant.0 c.claim_place-place.ensures.place c.claim_place-place.ensures.within after (λ n. Did call) (λ s kept at small.
    subst (λ (x : Call). Steps words.fixed s seat.id place (after (slice_index s.words place)) (λ new. Did x (first_of seat.me.0) new)) same
    (give_steps words.fixed s kept seat.id _ at c.args.group c.args.mask c.args.given c.requires.group
    (subst (λ (x : Gripped). AreClaimed x.view c.args.group c.args.mask c.args.given) (sym c.grip.view_is) c.requires.given) small))
