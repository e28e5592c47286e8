use Rattle.store_steps.specs.Plays.{LoadsToServe}
use Rattle.store_steps.proofs.Looking.{length_to_serve_steps}
use Rattle.store_steps.proofs.StepViews.{step_asks}
use Rattle.store_steps.proofs.words.Words.length_to_serve_asked.Goals as goal

pub load-found-requires : goal.load-found-requires
load-found-requires g c =
    let words = c.args.self.now in
    let seat = c.grip.inside.seat in
    step_asks words seat c.grip.view_is c.requires.of c.grip.invariant.0 c.length_place-place.ensures.place c.length_place-place.ensures.within
    (λ n. n) (λ n. LoadsToServe g.A.Arguments.first g.A.Arguments.second n) (λ s kept at small.
    length_to_serve_steps words.fixed s kept seat.id _ at g.A.Arguments.first g.A.Arguments.second)
