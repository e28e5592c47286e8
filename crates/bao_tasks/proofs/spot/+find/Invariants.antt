use Rattle.bao_tasks.proofs.spot.+find.Given as goal

abbrev pub decreases-find : goal.decreases-find
decreases-find l = l.n
