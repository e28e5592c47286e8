use Rattle.berylwool.proofs.nodes.+put_subtree.Given as goal

abbrev pub decreases-put_subtree : goal.decreases-put_subtree
decreases-put_subtree l = l.n
