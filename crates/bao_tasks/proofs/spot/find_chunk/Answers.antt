use Rattle.std.proofs.Common.{ℕ, ◌+◌, ◌∙◌, [], subst, sym, arith}
use Rattle.bao_text.specs.Nodes.{subtree_nodes}
use Rattle.bao_check.proofs.EachNode.{chunk_node, leaf_nodes, leaf_without}
use Rattle.bao_tasks.specs.declared.spot.Walk.TheVariants.{Past}
use Rattle.bao_tasks.specs.Spots.{IsMet}
use Rattle.bao_tasks.proofs.Spots.{met_node, past_chunk, past_none}
use Rattle.bao_tasks.proofs.spot.find_chunk.Goals as goal

pub returns-then-not-has_chunks-clause-met : goal.returns-then-not-has_chunks-clause-met
returns-then-not-has_chunks-clause-met c = λ sides from.
    past_none c.args.at c.args.here (subtree_nodes c.args.choice.now c.args.number c.args.n sides from)
    (leaf_without c.args.choice.now c.args.number c.args.n sides from c.requires.wanted c.requires.one (sym c.has_chunks.ensures ∙ c.if-not-has_chunks.true))

pub returns-then-here-from-clause-met : goal.returns-then-here-from-clause-met
returns-then-here-from-clause-met c = λ sides from.
    let leaf = leaf_nodes c.args.choice.now c.args.number c.args.n sides from c.requires.wanted c.requires.one (sym c.has_chunks.ensures ∙ c.if-not-has_chunks.false) in
    subst (λ (m : ℕ). IsMet c.args.at c.args.here (subtree_nodes c.args.choice.now c.args.number c.args.n sides from) (Past (c.args.here + m))) (sym c.from-then-here-from.ensures)
    (past_chunk c.args.at c.args.here c.args.number c.args.n sides from (subtree_nodes c.args.choice.now c.args.number c.args.n sides from) leaf (omega (arith, c.if-here-from.true, c.from.ensures)))

pub returns-clause-met : goal.returns-clause-met
returns-clause-met c = λ sides from.
    let leaf = leaf_nodes c.args.choice.now c.args.number c.args.n sides from c.requires.wanted c.requires.one (sym c.has_chunks.ensures ∙ c.if-not-has_chunks.false) in
    met_node c.args.at c.args.here (chunk_node c.args.number c.args.n sides from) [] (subtree_nodes c.args.choice.now c.args.number c.args.n sides from) c.spot_met.result leaf
    (omega (arith, c.if-here-from.false, c.from.ensures)) c.spot_met.ensures
