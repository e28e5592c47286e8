use Rattle.bao_bind.proofs.chunks.+blocks_apart.Given as goal

abbrev pub decreases-blocks_apart : goal.decreases-blocks_apart
decreases-blocks_apart l = l.k
