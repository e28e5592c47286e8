use Rattle.berylwool.proofs.ranges.+put_nodes.Given as goal

abbrev pub decreases-put_nodes : goal.decreases-put_nodes
decreases-put_nodes l = l.n
