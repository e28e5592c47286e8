use Rattle.std.proofs.Common.{take}
use Rattle.b3tree.specs.Valid.{AreBytes}
use Rattle.bao_windows.proofs.Taken.{TookFirst}
use Rattle.bao_windows.specs.Windows.{window_bytes}
use Rattle.bao_windows.proofs.output.take_in.Given as goal

abbrev pub invariant-loop-slot : goal.invariant-loop-slot
invariant-loop-slot l = record {
  took : TookFirst l.window l.slot-index l.initial.hasher l.hasher;
  are : AreBytes (window_bytes (take l.slot-index l.window));
}
