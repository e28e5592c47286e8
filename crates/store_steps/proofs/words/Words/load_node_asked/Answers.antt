use Rattle.std.proofs.Common.{◌≡◌, ◌<◌, sym, ap, subst, ◌∙◌}
use Rattle.bao_text.specs.declared.walk.Node.{Node}
use Rattle.store_steps.specs.Plays.{LoadsNode}
use Rattle.store_steps.specs.Slices.{node_number, node_place}
use Rattle.store_steps.proofs.Looking.{load_node_steps}
use Rattle.store_steps.proofs.StepViews.{step_asks}
use Rattle.store_steps.proofs.words.Words.load_node_asked.Goals as goal

pub load-found-requires : goal.load-found-requires
load-found-requires g c =
    let words = c.args.self.now in
    let seat = c.grip.inside.seat in
    let asked = g.A.NodeArguments in
    let same : c.args.node.now ≡ asked.node = sym c.requires.asked.0 in
    step_asks words seat c.grip.view_is c.requires.of c.grip.invariant.0 (c.node_place-place.ensures.place ∙ ap (λ (n : Node). node_place words.fixed n) same)
    c.node_place-place.ensures.within (λ n. n) (λ n. LoadsNode asked.node asked.last asked.start asked.len n) (λ s kept at small.
    load_node_steps words.fixed s kept seat.id _ at asked.node asked.last asked.start asked.len
    (subst (λ (n : Node). node_number n < words.fixed.capacity) same c.requires.node))
