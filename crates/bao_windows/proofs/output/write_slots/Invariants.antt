use Rattle.std.proofs.Common.{take}
use Rattle.std.specs.Io.KnownBytes.{Appends}
use Rattle.bao_windows.specs.Windows.{window_bytes}
use Rattle.bao_windows.proofs.output.write_slots.Given as goal

abbrev pub invariant-loop-slot : goal.invariant-loop-slot
invariant-loop-slot g l = Appends (g.W.Write.contents l.initial.out) (g.W.Write.contents l.out) (window_bytes (take l.slot-index l.window))
