use Rattle.std.proofs.Common.{length}
use Rattle.bao_text.proofs.pieces.+write_subtree.Given as goal

abbrev pub decreases-write_subtree : goal.decreases-write_subtree
decreases-write_subtree g l = length l.subtree.bytes.now
