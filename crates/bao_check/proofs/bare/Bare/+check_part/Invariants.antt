use Rattle.bao_check.proofs.bare.Bare.+check_part.Given as goal

abbrev pub decreases-check_part : goal.decreases-check_part
decreases-check_part l = l.n
