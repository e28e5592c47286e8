use Rattle.std.proofs.Common.{length}
use Rattle.bao_text.proofs.pieces.+fill.Given as goal

abbrev pub decreases-fill : goal.decreases-fill
decreases-fill l = length l.subtree.bytes.now
