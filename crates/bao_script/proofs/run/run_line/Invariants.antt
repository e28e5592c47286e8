use Rattle.std.proofs.Common.{take, string_bytes}
use Rattle.holders.specs.declared.fixed.Fixed.{Fixed}
use Rattle.store_core.specs.Machine.{Machine}
use Rattle.bao_script.specs.ScriptRuns.{RanSteps, StandsAt}
use Rattle.bao_script.specs.Steps.{steps_of}
use Rattle.bao_script.proofs.run.run_line.Given as goal

abbrev pub invariant-loop-index : goal.invariant-loop-index
invariant-loop-index l = (fixed : Fixed) (m : Machine) → StandsAt fixed l.pieces m l.initial.run
    → RanSteps fixed l.pieces m (take l.index (steps_of l.piece l.line.line)) l.line.number (string_bytes l.initial.out) (string_bytes l.out) l.run
