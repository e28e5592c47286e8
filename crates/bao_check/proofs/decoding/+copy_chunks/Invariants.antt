use Rattle.bao_check.proofs.decoding.+copy_chunks.Given as goal

abbrev pub decreases-copy_chunks : goal.decreases-copy_chunks
decreases-copy_chunks l = l.n
