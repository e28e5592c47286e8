use Rattle.std.proofs.Common.{◌∙◌, ℕ, ◌-◌, Option, Some, ap, arith, sym}
use Rattle.std.specs.Option.{option_map}
use Rattle.std.proofs.lemmas.Result.{IfErr-weaker, IfOk-weaker}
use Rattle.bao_text.specs.Nodes.{TreeNode}
use Rattle.berylwool.specs.declared.nodes.BwPlaced.{BwPlaced}
use Rattle.berylwool.specs.Placed.{node_over, placed_of}
use Rattle.berylwool.proofs.PlacesOfNodes.{far_found, far_past, near_found, over_chunk, over_none, over_parent, past_chunk, past_whole}
use Rattle.berylwool.proofs.Placed.{parent_is}
use Rattle.berylwool.proofs.nodes.+find_node.Goals as goal

pub returns-then-not-wants-clause-after : goal.returns-then-not-wants-clause-after
returns-then-not-wants-clause-after t c = λ sides rest.
    over_none c.args.choice.now c.args.number c.args.n sides c.args.combined_at rest c.args.at (sym c.wants.ensures ∙ c.if-not-wants.true)

pub returns-then-at-max-clause-found : goal.returns-then-at-max-clause-found
returns-then-at-max-clause-found t c = λ total own sides rest has.
    ap (λ (o : Option TreeNode). option_map (placed_of total) o)
    (over_chunk c.args.choice.now c.args.number c.args.n sides c.args.combined_at rest c.args.at (sym c.wants.ensures ∙ c.if-not-wants.false) c.if-n.true c.requires.chunks (omega (arith, c.if-at-max.true)))
    ∙ ap (λ (it : BwPlaced). Some it) (sym (c.chunk.ensures total sides))

pub returns-then-n-clause-after : goal.returns-then-n-clause-after
returns-then-n-clause-after t c = λ sides rest.
    past_chunk c.args.choice.now c.args.number c.args.n sides c.args.combined_at rest c.args.at (sym c.wants.ensures ∙ c.if-not-wants.false) c.if-n.true c.requires.chunks (omega (arith, c.if-at-max.false))

pub returns-then-covers-clause-after : goal.returns-then-covers-clause-after
returns-then-covers-clause-after t c = λ sides rest.
    let covered = c.covers.ensures.0 c.if-covers.true in
    past_whole c.args.choice.now c.args.number c.args.n sides c.args.combined_at rest c.args.at (omega (arith, c.if-n.false)) covered.0 covered.1 c.requires.chunks
    (omega (arith, c.subtree_size-size.ensures, c.if-at-size.true)) ∙ ap (λ (k : ℕ). node_over rest (c.args.at - k)) (sym c.subtree_size-size.ensures)

pub returns-then-at-parent_len-clause-found : goal.returns-then-at-parent_len-clause-found
returns-then-at-parent_len-clause-found t c = λ total own sides rest has.
    ap (λ (o : Option TreeNode). option_map (placed_of total) o)
    (over_parent c.args.choice.now c.args.number c.args.n sides c.args.combined_at rest c.args.at (sym c.wants.ensures ∙ c.if-not-wants.false) (omega (arith, c.if-n.false)) (omega (arith, c.if-at-parent_len.true)))
    ∙ ap (λ (it : BwPlaced). Some it)
    (sym (c.parent.ensures ∙ parent_is total own c.args.number c.args.n c.left_len-left_len.result sides c.args.combined_at c.args.outboard_at (omega (arith, c.if-n.false)) c.left_len-left_len.ensures.value has))

pub returns-in_default-clause-found : goal.returns-in_default-clause-found
returns-in_default-clause-found t c = IfOk-weaker c.find_node-near.result _ _ (λ node found total own sides rest has.
    near_found total c.args.choice.now own c.args.number c.args.n c.left_len-left_len.result sides c.args.combined_at c.args.outboard_at rest c.args.at node
    (sym c.wants.ensures ∙ c.if-not-wants.false) (omega (arith, c.if-n.false)) (omega (arith, c.if-at-parent_len.false)) c.left_len-left_len.ensures.value has found) c.find_node-near.ensures.found

pub returns-clause-found : goal.returns-clause-found
returns-clause-found t c = IfOk-weaker c.find_node.result _ _ (λ node found total own sides rest has.
    far_found total c.args.choice.now own c.args.number c.args.n c.left_len-left_len.result c.subtree_size.result sides c.args.combined_at c.args.outboard_at rest c.args.at _ node
    (sym c.wants.ensures ∙ c.if-not-wants.false) (omega (arith, c.if-n.false)) (omega (arith, c.if-at-parent_len.false)) c.left_len-left_len.ensures.value c.subtree_size.ensures has
    c.in-Err.ensures.after found) c.find_node.ensures.found

pub returns-clause-after : goal.returns-clause-after
returns-clause-after t c = IfErr-weaker c.find_node.result _ _ (λ last second sides rest.
    far_past c.args.choice.now c.args.number c.args.n c.left_len-left_len.result c.subtree_size.result sides c.args.combined_at rest c.args.at _ last
    (sym c.wants.ensures ∙ c.if-not-wants.false) (omega (arith, c.if-n.false)) (omega (arith, c.if-at-parent_len.false)) c.left_len-left_len.ensures.value c.subtree_size.ensures
    c.in-Err.ensures.after second) c.find_node.ensures.after
