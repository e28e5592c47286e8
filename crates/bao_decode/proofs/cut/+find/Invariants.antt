use Rattle.bao_decode.proofs.cut.+find.Given as goal

abbrev pub decreases-find : goal.decreases-find
decreases-find l = l.n
