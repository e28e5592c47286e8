use Rattle.std.proofs.Common.{take}
use Rattle.bao_script.specs.Slices.{ArePieces}
use Rattle.bao_script.proofs.slice.check_slices.Given as goal

abbrev pub invariant-loop-slice : goal.invariant-loop-slice
invariant-loop-slice l = ArePieces l.mode l.root.0 (take l.slice-index l.slices) l.pieces.items
