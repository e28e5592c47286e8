use Rattle.bao_check.proofs.feed_parents.+asked_of.Given as goal

abbrev pub decreases-asked_of : goal.decreases-asked_of
decreases-asked_of l = l.n
