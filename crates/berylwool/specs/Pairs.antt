-- Inputs of the compression function as C has them, and the verdict of an audit.
use Rattle.std.specs.Prelude.{ℕ, List}
use Rattle.b3word.specs.declared.input.Input.{Input}
use Rattle.bao_bind.specs.declared.verdict.Verdict.{Verdict}
use Rattle.bao_bind.specs.Verdict.{Says}
use Rattle.bao_check.specs.declared.checked.Checked.{Checked}
use Rattle.bao_check.specs.Checked.{IsPiece}
use Rattle.bao_check.specs.Waiting.{CheckTask}
use Rattle.berylwool.specs.declared.auditing.BwInput.{BwInput}

-- the inputs that it shows
abbrev pub input_of : BwInput → Input
input_of shown = record { h = shown.h; m = shown.m; t = shown.t; b = shown.b; d = shown.d }

-- the encoding is accepted as this slice, and the verdict is true of the blob and the slice
abbrev pub IsAudit : CheckTask → List ℕ → List ℕ → Verdict → Type 0
IsAudit task text blob verdict = (piece : Checked) × IsPiece piece task.mode task.root task.start task.len text × Says blob piece verdict
