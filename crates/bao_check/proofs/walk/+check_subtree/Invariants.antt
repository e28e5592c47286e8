use Rattle.bao_check.proofs.walk.+check_subtree.Given as goal

abbrev pub decreases-check_subtree : goal.decreases-check_subtree
decreases-check_subtree l = l.n
