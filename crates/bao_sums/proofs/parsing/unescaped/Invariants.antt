use Rattle.std.proofs.Common.{◌≡◌, ◌++◌, drop, false}
use Rattle.bao_sums.proofs.Escapes.{unescaped_from}
use Rattle.bao_sums.proofs.parsing.unescaped.Given as goal

-- the bytes so far, and those that are left
abbrev pub invariant-bytes : goal.invariant-bytes
invariant-bytes l = l.bytes.items ++ unescaped_from l.is_second (drop l.byte-index l.written) ≡ unescaped_from false l.written
