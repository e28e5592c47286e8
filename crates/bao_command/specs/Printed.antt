-- what the program leaves on standard output
use Rattle.std.specs.Prelude.{◌≡◌, ℕ, List, Option, Result, Ok, Err}
use Rattle.std.specs.Io.KnownBytes.{Appends, Keeps}
use Rattle.bao_files.specs.Printed as file
use Rattle.bao_files.specs.declared.fault.FileFault.{FileFault}
use Rattle.bao_files.specs.declared.fault.FileFault.TheVariants as files
use Rattle.bao_command.specs.declared.fault.Fault.{Fault}
use Rattle.bao_command.specs.declared.fault.Fault.TheVariants.{File}

-- what a fault leaves of the line that was to be printed: a beginning where it is that of standard
-- output, and nothing else
abbrev pub CommandLeaves : List ℕ → Option (List ℕ) → Option (List ℕ) → Fault → Type 0
CommandLeaves line old new (File fault) = file.Leaves line old new fault
CommandLeaves line old new fault = Keeps old new

-- the line was printed, or the fault leaves what it leaves
abbrev pub CommandPrints : List ℕ → Option (List ℕ) → Option (List ℕ) → Result Unit Fault → Type 0
CommandPrints line old new (Ok done) = Appends old new line
CommandPrints line old new (Err fault) = CommandLeaves line old new fault

-- this holds where the line was printed, and where standard output took a beginning of it and then no more
abbrev pub OnPrinted : Result Unit Fault → Type 0 → Type 0
OnPrinted (Ok done) holds = holds
OnPrinted (Err fault) holds = fault ≡ File files.Output → holds

-- the program's answer where that of printing is known
abbrev pub told_of : Result Unit FileFault → Result Unit Fault
told_of (Ok done) = Ok done
told_of (Err fault) = Err (File fault)
