-- The slice that C names.
use Rattle.bao_check.specs.Waiting.{CheckTask}
use Rattle.berylwool.specs.declared.slice.BwSlice.{BwSlice}
use Rattle.berylwool.specs.Modes.{mode_of}

abbrev pub task_of : BwSlice → CheckTask
task_of slice = record { mode = mode_of slice.mode; root = slice.root; start = slice.start; len = slice.len }
