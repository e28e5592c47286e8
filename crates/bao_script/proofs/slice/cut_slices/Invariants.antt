use Rattle.std.proofs.Common.{◌≡◌, map, take}
use Rattle.bao_script.specs.Slices.{slices_of}
use Rattle.bao_script.proofs.slice.cut_slices.Given as goal

abbrev pub invariant-loop-line : goal.invariant-loop-line
invariant-loop-line l = l.slices.items ≡ slices_of (map (λ file. file.items) l.files) (take l.line-index l.lines)
