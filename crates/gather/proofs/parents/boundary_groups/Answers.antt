use Rattle.gather.proofs.Common.{List, map, replicate, false, subst, sym, ap, ◌∙◌, piece_nodes, Node, name, rest_of}
use Rattle.gather.proofs.Grouping.{AreMarked, marked_begun}
use Rattle.gather.proofs.parents.boundary_groups.Goals as goal

pub loop-node-init : goal.loop-node-init
loop-node-init c =
    let all = map name (piece_nodes c.args.piece.now) in
    subst (λ (nodes : List Node). AreMarked all nodes (replicate 1024 false))
    (sym (ap rest_of c.into_iter-node-iterator.ensures.into_iter_gives ∙ c.nodes-node-items.ensures)) (marked_begun all)
