use Rattle.std.proofs.Common.{map}
use Rattle.bao_sums.specs.Found.{sum_of}
use Rattle.bao_sums.specs.Sums.{Say}
use Rattle.bao_sums.proofs.parsing.read_lines.Given as goal

-- what the lines so far say
abbrev pub invariant-lines : goal.invariant-lines
invariant-lines l = Say (map (λ line. line.now) l.yielded) (map sum_of l.lines.items)
