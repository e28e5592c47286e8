use Rattle.std.proofs.Common.{◌<◌, ◌+◌, ◌*◌, ℕ, sym, subst, ◌∙◌}
use Rattle.holders.specs.declared.fixed.Fixed.{Fixed}
use Rattle.store_steps.specs.Grips.{Gripped}
use Rattle.store_steps.specs.Kinds.{Kind, Owns, width, word_place}
use Rattle.store_steps.specs.Tells.{Stores}
use Rattle.store_steps.proofs.StepViews.{step_asks}
use Rattle.store_steps.proofs.Storing.{owned_low, store_steps}
use Rattle.store_steps.proofs.words.Words.store_asked.Goals as goal

pub place-place-requires-clause-item : goal.place-place-requires-clause-item
place-place-requires-clause-item g c =
    let low = owned_low g.K.Item.kind c.args.grip.now.view c.requires.of.knows.legal c.args.item c.requires.own in
    subst (λ (f : Fixed). c.args.item < f.capacity) c.requires.of.knows.fixed_is low

pub store-requires : goal.store-requires
store-requires g c =
    let kind : Kind = g.K.Item.kind in
    let words = c.args.self.now in
    let seat = c.grip.inside.seat in
    let item : ℕ = g.A.Arguments.first in
    let w : ℕ = g.A.Arguments.second in
    step_asks words seat c.grip.view_is c.requires.of c.grip.invariant.0
    (c.place-place.ensures.place ∙ (λ i. word_place kind words.fixed (width kind * sym c.requires.asked.0 i + sym c.requires.asked.1 i))) c.place-place.ensures.within
    (λ n. c.args.value) (λ n. Stores kind item w c.args.value) (λ s kept at small.
    store_steps words.fixed s kept seat.id _ at kind item w c.args.value (subst (λ (v : ℕ). v < width kind) (sym c.requires.asked.1) c.requires.word)
    (subst (λ (x : Gripped). Owns kind x.view item) (sym c.grip.view_is)
    (subst (λ (n : ℕ). Owns kind c.args.grip.now.view n) (sym c.requires.asked.0) c.requires.own)))
