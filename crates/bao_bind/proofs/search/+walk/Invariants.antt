use Rattle.bao_bind.proofs.search.+walk.Given as goal

abbrev pub decreases-walk : goal.decreases-walk
decreases-walk g l = l.n
