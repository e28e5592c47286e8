use Rattle.std.proofs.Common.{ℕ, sym, ◌∙◌, arith}
use Rattle.store_steps.specs.Plays.{Loads}
use Rattle.store_steps.proofs.StepViews.{step_asks}
use Rattle.store_steps.proofs.Looking.{load_steps}
use Rattle.store_steps.proofs.words.Words.load_asked.Goals as goal

pub load-requires : goal.load-requires
load-requires g c =
    let words = c.args.self.now in
    let seat = c.grip.inside.seat in
    let group : ℕ = g.A.Arguments.group in
    step_asks words seat c.grip.view_is c.requires.of c.grip.invariant.0 (c.held_place-place.ensures.place ∙ sym c.requires.asked.0) c.held_place-place.ensures.within
    (λ n. n) (λ n. Loads group g.A.Arguments.first g.A.Arguments.second n) (λ s kept at small.
    load_steps words.fixed s kept seat.id _ at group g.A.Arguments.first g.A.Arguments.second (omega (arith, c.requires.group, c.requires.asked.0)))
