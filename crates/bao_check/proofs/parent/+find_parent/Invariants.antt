use Rattle.bao_check.proofs.parent.+find_parent.Given as goal

abbrev pub decreases-find_parent : goal.decreases-find_parent
decreases-find_parent l = l.n
