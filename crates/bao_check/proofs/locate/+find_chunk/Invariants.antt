use Rattle.bao_check.proofs.locate.+find_chunk.Given as goal

abbrev pub decreases-find_chunk : goal.decreases-find_chunk
decreases-find_chunk l = l.n
