use Rattle.std.proofs.Common.{◌≡◌, take}
use Rattle.std.specs.List.{list_any}
use Rattle.bao_sums.specs.Sums.{is_special}
use Rattle.bao_sums.proofs.lines.has_special.Given as goal

-- whether one of the bytes so far is such
abbrev pub invariant-bytes : goal.invariant-bytes
invariant-bytes l = l.has ≡ list_any is_special (take l.byte-index l.path)
