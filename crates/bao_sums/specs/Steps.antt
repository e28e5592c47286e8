-- What is printed of one item of a list.
use Rattle.std.specs.Prelude.{◌⊎◌, ℕ, List, Option}
use Rattle.std.specs.Io.KnownBytes.{Appends, Keeps}
use Rattle.bao_files.specs.Printed.{AppendsBeginning}
use Rattle.bao_files.specs.declared.fault.FileFault.{FileFault}
use Rattle.bao_files.specs.declared.fault.FileFault.TheVariants.{Read, Write, Output, Encoding, Memory}

-- its outcome has `such`, and its line was printed
abbrev pub PrintsOne : {X Y : Type 0} → (X → Y → Type 0) → (X → Y → List ℕ) → X → Option (List ℕ) → Option (List ℕ) → (Y → Type 0) → Type 0
PrintsOne {X} {Y} IsOutcome line item old new such = (outcome : Y) × IsOutcome item outcome × such outcome × Appends old new (line item outcome)

-- what a fault leaves of it
abbrev pub LeavesOne : {X Y : Type 0} → (X → Y → Type 0) → (X → Y → List ℕ) → X → Option (List ℕ) → Option (List ℕ) → FileFault → Type 0
LeavesOne IsOutcome line item old new (Read path) = ⊥
LeavesOne IsOutcome line item old new (Write path) = ⊥
LeavesOne {X} {Y} IsOutcome line item old new Output = (outcome : Y) × IsOutcome item outcome × AppendsBeginning old new (line item outcome)
LeavesOne IsOutcome line item old new Encoding = ⊥
LeavesOne IsOutcome line item old new Memory = Keeps old new

-- what a fault leaves of one that is printed piece by piece, each of which an outcome tells that `IsPart`: nothing, or a beginning
abbrev pub LeavesPart : {X Y : Type 0} → (X → Y → Type 0) → (X → Y → List ℕ) → X → Option (List ℕ) → Option (List ℕ) → FileFault → Type 0
LeavesPart IsPart line item old new (Read path) = ⊥
LeavesPart IsPart line item old new (Write path) = ⊥
LeavesPart {X} {Y} IsPart line item old new Output = Keeps old new ⊎ ((outcome : Y) × IsPart item outcome × AppendsBeginning old new (line item outcome))
LeavesPart IsPart line item old new Encoding = ⊥
LeavesPart {X} {Y} IsPart line item old new Memory = Keeps old new ⊎ ((outcome : Y) × IsPart item outcome × AppendsBeginning old new (line item outcome))
