-- The output of a script's run, and where it stops.
use Rattle.std.specs.Prelude.{◌≡◌, ℕ, ◌+◌, List, ◌++◌}
use Rattle.bao_check.specs.declared.checked.Checked.{Checked}
use Rattle.holders.specs.declared.fixed.Fixed.{Fixed}
use Rattle.store_core.specs.declared.micro.Reply.{Reply}
use Rattle.store_core.specs.Machine.{Machine, start, store_of}
use Rattle.store_core.specs.States.{held_count}
use Rattle.bao_script.specs.declared.numbered.NumberedLine.{NumberedLine}
use Rattle.bao_script.specs.Replies.{held_line}
use Rattle.bao_script.specs.ScriptRuns.{RunsScript, StopsAtLine, answers_text}
use Rattle.bao_script.specs.Slices.{ArePieces, slices_of}

-- The text has the replies of the script's run from the empty store, over the slices that its lines name, and
-- the number of chunks held at the end.
pub record IsPrinted (fixed : Fixed) (files : List (List ℕ)) (script : List NumberedLine) (text : List ℕ) : Type 0 where
  pub pieces : List Checked
  pub named : ArePieces fixed.mode fixed.root.0 (slices_of files script) pieces
  pub answers : List (ℕ × Reply)
  pub last : Machine
  pub runs : RunsScript fixed pieces 0 start script answers last
  pub text_is : text ≡ answers_text answers ++ held_line (held_count (store_of last) fixed.capacity)

-- the run over these slices stops at the line with this number
pub record IsStopped (fixed : Fixed) (files : List (List ℕ)) (script : List NumberedLine) (number : ℕ) : Type 0 where
  pub pieces : List Checked
  pub named : ArePieces fixed.mode fixed.root.0 (slices_of files script) pieces
  pub stops : StopsAtLine fixed pieces 0 start script number
