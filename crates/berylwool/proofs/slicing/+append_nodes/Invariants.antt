use Rattle.berylwool.proofs.slicing.+append_nodes.Given as goal

abbrev pub decreases-append_nodes : goal.decreases-append_nodes
decreases-append_nodes l = l.n
