use Rattle.b3tree.proofs.lanes.+subtree_lanes.Given as goal

abbrev pub decreases-subtree_lanes : goal.decreases-subtree_lanes
decreases-subtree_lanes l = l.chunks
