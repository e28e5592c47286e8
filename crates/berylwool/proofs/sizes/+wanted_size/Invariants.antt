use Rattle.berylwool.proofs.sizes.+wanted_size.Given as goal

abbrev pub decreases-wanted_size : goal.decreases-wanted_size
decreases-wanted_size l = l.n
