use Rattle.std.proofs.Common.{◌+◌, ◌*◌}
use Rattle.b3tree.proofs.few.+joined.Given as goal

-- a value may take the top of its own chunks, and a top only the values of its parts
abbrev pub decreases-joined_value : goal.decreases-joined_value
decreases-joined_value l = 2 * l.len + 1

abbrev pub decreases-joined_top : goal.decreases-joined_top
decreases-joined_top l = 2 * l.len
