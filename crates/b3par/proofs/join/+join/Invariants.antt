use Rattle.std.proofs.Common.{◌+◌, ◌*◌, length}
use Rattle.b3par.proofs.join.+join.Given as goal

-- a closure comes between two calls
abbrev pub decreases-top_join : goal.decreases-top_join
decreases-top_join g l = 2 * length l.bytes.now

abbrev pub decreases-join+arg2 : goal.decreases-join+arg2
decreases-join+arg2 g l = 2 * length l.left.now + 1

abbrev pub decreases-join+arg3 : goal.decreases-join+arg3
decreases-join+arg3 g l = 2 * length l.right.now + 1
