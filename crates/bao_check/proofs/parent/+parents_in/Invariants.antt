use Rattle.bao_check.proofs.parent.+parents_in.Given as goal

abbrev pub decreases-parents_in : goal.decreases-parents_in
decreases-parents_in l = l.n
