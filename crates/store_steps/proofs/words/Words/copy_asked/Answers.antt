use Rattle.std.proofs.Common.{◌<◌, ◌+◌, ◌*◌, ℕ, sym, subst, ◌∙◌}
use Rattle.store_steps.specs.Kinds.{Kind, width, word_place}
use Rattle.store_steps.specs.Plays.{CopiesWord}
use Rattle.store_steps.proofs.StepViews.{step_asks}
use Rattle.store_steps.proofs.Looking.{copy_steps}
use Rattle.store_steps.proofs.words.Words.copy_asked.Goals as goal

pub load-requires : goal.load-requires
load-requires g c =
    let kind : Kind = g.K.Item.kind in
    let words = c.args.self.now in
    let seat = c.grip.inside.seat in
    let item : ℕ = g.A.Arguments.first in
    let w : ℕ = g.A.Arguments.second in
    step_asks words seat c.grip.view_is c.requires.of c.grip.invariant.0
    (c.place-place.ensures.place ∙ (λ i. word_place kind words.fixed (width kind * sym c.requires.asked.0 i + sym c.requires.asked.1 i))) c.place-place.ensures.within
    (λ n. n) (λ n. CopiesWord kind item w n) (λ s kept at small.
    copy_steps words.fixed s kept seat.id _ at kind item w (subst (λ (v : ℕ). v < width kind) (sym c.requires.asked.1) c.requires.word))
