use Rattle.bao_check.proofs.locate.+nodes_size.Given as goal

abbrev pub decreases-nodes_size : goal.decreases-nodes_size
decreases-nodes_size l = l.n
