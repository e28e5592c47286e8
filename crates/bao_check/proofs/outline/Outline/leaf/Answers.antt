use Rattle.std.proofs.Common.{rules, ◌≡◌, ℕ, List, [], sym, subst, arith}
use Rattle.bao_text.specs.Choice.{of_outboard}
use Rattle.bao_text.specs.Cut.{claimed}
use Rattle.bao_check.proofs.Outlines.{leaf-unique, outboard-WantsParents, outboard-fits}
use Rattle.bao_text.specs.Nodes.{placed_nodes, subtree_nodes}
use Rattle.bao_check.specs.Accepted.{outboard_nodes, places_of}
use Rattle.bao_check.specs.Leaves.{WantsParents}
use Rattle.bao_check.specs.Pieces.{IsLeafValue}
use Rattle.bao_check.proofs.outline.Outline.leaf.Goals as goal

pub leaf_below-requires-clause-fits : goal.leaf_below-requires-clause-fits
leaf_below-requires-clause-fits c = search (rules, arith, outboard-fits)

pub returns-clause-only : goal.returns-clause-only
returns-clause-only c =
    let text : List ℕ = c.args.self.now.text.now in
    let total : c.claimed-total.result ≡ claimed text = c.claimed-total.ensures in
    let value : IsLeafValue text (places_of (outboard_nodes text)) c.args.i c.leaf_below.result.0 =
    subst (λ (n : ℕ). IsLeafValue text (placed_nodes 8 (subtree_nodes (of_outboard (claimed text)) 0 n [] 8)) c.args.i c.leaf_below.result.0) total
    (c.leaf_below.ensures (of_outboard (claimed text)) [] 8 (subst (WantsParents (of_outboard (claimed text)) 0) (sym total) (outboard-WantsParents (claimed text)))) in
    λ w other. leaf-unique text c.args.i w c.leaf_below.result.0 other value
