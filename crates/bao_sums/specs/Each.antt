-- What is printed of the items of a list, one after another.
use Rattle.std.specs.Prelude.{ℕ, List, [], ◌∷◌, ◌++◌, length, take, Option, ◌≤◌}
use Rattle.std.specs.List.{AllZip}
use Rattle.std.specs.Io.KnownBytes.{Appends}
use Rattle.bao_files.specs.Printed.{AppendsBeginning}
use Rattle.bao_files.specs.declared.fault.FileFault.{FileFault}
use Rattle.bao_files.specs.declared.fault.FileFault.TheVariants.{Read, Write, Output, Encoding, Memory}

-- the lines of all items, each for what came of it
abbrev pub lines_of : {X Y : Type 0} → (X → Y → List ℕ) → List X → List Y → List ℕ
lines_of line [] outcomes = []
lines_of line (item ∷ items) [] = []
lines_of line (item ∷ items) (outcome ∷ outcomes) = line item outcome ++ lines_of line items outcomes

-- Each item has one outcome, in order, that is one of it, and these have `such`; and their lines were printed.
abbrev pub PrintsEach : {X Y : Type 0} → (X → Y → Type 0) → (X → Y → List ℕ) → List X → Option (List ℕ) → Option (List ℕ) → (List Y → Type 0) → Type 0
PrintsEach {X} {Y} IsOutcome line items old new such =
    (outcomes : List Y) × AllZip IsOutcome items outcomes × such outcomes × Appends old new (lines_of line items outcomes)

-- the lines of the first so many items were printed
abbrev pub PrintsFirst : {X Y : Type 0} → (X → Y → Type 0) → (X → Y → List ℕ) → List X → Option (List ℕ) → Option (List ℕ) → Type 0
PrintsFirst {X} {Y} IsOutcome line items old new =
    (count : ℕ) × (outcomes : List Y) × (count ≤ length items) × AllZip IsOutcome (take count items) outcomes × Appends old new (lines_of line (take count items) outcomes)

-- a beginning of the lines of the first so many items was printed
abbrev pub PrintsBeginning : {X Y : Type 0} → (X → Y → Type 0) → (X → Y → List ℕ) → List X → Option (List ℕ) → Option (List ℕ) → Type 0
PrintsBeginning {X} {Y} IsOutcome line items old new =
    (count : ℕ) × (outcomes : List Y) × (count ≤ length items) × AllZip IsOutcome (take count items) outcomes × AppendsBeginning old new (lines_of line (take count items) outcomes)

-- what a fault leaves: the lines of the first items where there is no memory, and a beginning of them where standard output can't be written;
-- there is no other
abbrev pub LeavesFirst : {X Y : Type 0} → (X → Y → Type 0) → (X → Y → List ℕ) → List X → Option (List ℕ) → Option (List ℕ) → FileFault → Type 0
LeavesFirst IsOutcome line items old new (Read path) = ⊥
LeavesFirst IsOutcome line items old new (Write path) = ⊥
LeavesFirst IsOutcome line items old new Output = PrintsBeginning IsOutcome line items old new
LeavesFirst IsOutcome line items old new Encoding = ⊥
LeavesFirst IsOutcome line items old new Memory = PrintsFirst IsOutcome line items old new

-- the same of items that are printed piece by piece: a beginning of the lines
abbrev pub LeavesParts : {X Y : Type 0} → (X → Y → Type 0) → (X → Y → List ℕ) → List X → Option (List ℕ) → Option (List ℕ) → FileFault → Type 0
LeavesParts IsPart line items old new (Read path) = ⊥
LeavesParts IsPart line items old new (Write path) = ⊥
LeavesParts IsPart line items old new Output = PrintsBeginning IsPart line items old new
LeavesParts IsPart line items old new Encoding = ⊥
LeavesParts IsPart line items old new Memory = PrintsBeginning IsPart line items old new
