use Rattle.std.proofs.Common.{◌≡◌, ◌≤◌, take, string_bytes}
use Rattle.holders.specs.declared.fixed.Fixed.{Fixed}
use Rattle.store_core.specs.Machine.{Machine}
use Rattle.bao_script.specs.ScriptRuns.{RanLines, StandsAt}
use Rattle.bao_script.specs.Steps.{pieces_among}
use Rattle.bao_script.proofs.run.run_lines.Given as goal

abbrev pub invariant-loop-line : goal.invariant-loop-line
invariant-loop-line l =
    (l.piece ≡ pieces_among (take l.line-index l.lines)) × (l.piece ≤ l.line-index)
    × ((fixed : Fixed) (m : Machine) → StandsAt fixed l.pieces m l.initial.run
    → RanLines fixed l.pieces m (take l.line-index l.lines) (string_bytes l.initial.out) (string_bytes l.out) l.run)
