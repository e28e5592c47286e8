use Rattle.std.proofs.Common.{length}
use Rattle.bao_bind.proofs.apart.+parents_apart.Given as goal

abbrev pub decreases-parents_apart : goal.decreases-parents_apart
decreases-parents_apart g l = length l.ours.now.bytes.now
