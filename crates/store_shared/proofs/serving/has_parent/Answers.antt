use Rattle.std.proofs.Common.{◌*◌, ◌∙◌, ℕ, subst, sym}
use Rattle.store_core.specs.declared.history.Call.TheVariants.{Serve}
use Rattle.store_core.specs.declared.history.Serving.{Serving}
use Rattle.store_core.specs.Knowledge.{Called}
use Rattle.store_shared.proofs.Slices.{parent_lacked, parent_seen}
use Rattle.store_shared.proofs.serving.has_parent.Goals as goal

pub returns-clause-seen : goal.returns-clause-seen
returns-clause-seen c = λ some. parent_seen _ _ _ _ _ c.requires.of.knows.legal c.load_node.ensures.looked (sym c.load_node.ensures.held ∙ some)

pub returns-clause-lacked : goal.returns-clause-lacked
returns-clause-lacked c = λ none.
    subst (λ (boundary : ℕ). (answer : Serving) × Called (Serve (1024 * boundary) 1 answer) c.args.grip.now.view c.load_node.new.grip.view) c.from-chunk.ensures
    (parent_lacked _ _ _ _ _ c.requires.of.knows.legal c.load_node.ensures.looked (sym c.load_node.ensures.held ∙ none))
