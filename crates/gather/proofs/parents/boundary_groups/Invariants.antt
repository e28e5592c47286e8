use Rattle.gather.proofs.Common.{map, piece_nodes, name, rest_of}
use Rattle.gather.proofs.Grouping.{AreMarked}
use Rattle.gather.proofs.parents.boundary_groups.Given as goal

abbrev pub invariant-loop-node : goal.invariant-loop-node
invariant-loop-node l = AreMarked (map name (piece_nodes l.fn.piece)) (rest_of l.node-iterator) l.groups
