use Rattle.std.proofs.Common.{◌≡◌, ◌++◌, take}
use Rattle.bao_sums.specs.Sums.{escaped}
use Rattle.bao_sums.proofs.lines.put_path.Given as goal

-- the bytes so far were written
abbrev pub invariant-loop-byte : goal.invariant-loop-byte
invariant-loop-byte l = l.line.items ≡ l.initial.line.items ++ escaped (take l.byte-index l.path)
