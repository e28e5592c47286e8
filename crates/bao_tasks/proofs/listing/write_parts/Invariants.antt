use Rattle.std.proofs.Common.{take}
use Rattle.std.specs.Io.KnownBytes.{Appends}
use Rattle.bao_tasks.specs.Listed.{lines_of_parts}
use Rattle.bao_tasks.proofs.listing.write_parts.Given as goal

-- the lines of the parts so far were written
abbrev pub invariant-loop-part : goal.invariant-loop-part
invariant-loop-part g l = Appends (g.W.Write.contents l.initial.out) (g.W.Write.contents l.out) (lines_of_parts (take l.part-index l.parts))
