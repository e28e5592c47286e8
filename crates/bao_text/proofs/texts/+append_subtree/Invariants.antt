use Rattle.std.proofs.Common.{length}
use Rattle.bao_text.proofs.texts.+append_subtree.Given as goal

abbrev pub decreases-append_subtree : goal.decreases-append_subtree
decreases-append_subtree l = length l.bytes.now
