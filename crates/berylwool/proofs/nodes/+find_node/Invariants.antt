use Rattle.berylwool.proofs.nodes.+find_node.Given as goal

abbrev pub decreases-find_node : goal.decreases-find_node
decreases-find_node l = l.n
