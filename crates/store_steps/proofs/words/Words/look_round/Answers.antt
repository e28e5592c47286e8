use Rattle.std.proofs.Common.{refl, arith}
use Rattle.store_core.specs.Knowledge.{LooksRound}
use Rattle.store_steps.proofs.StepViews.{step_asks}
use Rattle.store_steps.proofs.Wholes.{round_steps}
use Rattle.store_steps.proofs.words.Words.look_round.Goals as goal

pub load-requires : goal.load-requires
load-requires c =
    let words = c.args.self.now in
    let seat = c.grip.inside.seat in
    step_asks words seat c.grip.view_is c.requires.of c.grip.invariant.0 refl (omega arith)
    (λ n. n) (λ n. LooksRound) (λ s kept at small. round_steps words.fixed s kept seat.id _ at)
