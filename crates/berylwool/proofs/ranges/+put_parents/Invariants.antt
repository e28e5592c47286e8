use Rattle.berylwool.proofs.ranges.+put_parents.Given as goal

abbrev pub decreases-put_parents : goal.decreases-put_parents
decreases-put_parents l = l.n
