use Rattle.std.proofs.Common.{◌+◌, ◌*◌}
use Rattle.bao_files.proofs.again.+again.Given as goal

-- a subtree comes before its own parts
abbrev pub decreases-write_subtree : goal.decreases-write_subtree
decreases-write_subtree g l = 2 * l.n + 1

abbrev pub decreases-write_parts : goal.decreases-write_parts
decreases-write_parts g l = 2 * l.n
