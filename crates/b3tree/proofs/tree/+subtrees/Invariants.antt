use Rattle.std.proofs.Common.{◌+◌, ◌*◌, length}
use Rattle.b3tree.proofs.tree.+subtrees.Given as goal

-- a value may take the top of its own bytes, and a top only the values of its parts
abbrev pub decreases-subtree_value : goal.decreases-subtree_value
decreases-subtree_value l = 2 * length l.bytes.now + 1

abbrev pub decreases-top_input : goal.decreases-top_input
decreases-top_input l = 2 * length l.bytes.now
