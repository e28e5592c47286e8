use Rattle.bao_check.proofs.leaves.+leaf_below.Given as goal

abbrev pub decreases-leaf_below : goal.decreases-leaf_below
decreases-leaf_below l = l.n
