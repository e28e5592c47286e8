-- Faults as C has them: a number and an offset.
use Rattle.std.specs.Prelude.{◌≡◌, ℕ, List}
use Rattle.b3tree.specs.declared.mode.Mode.{Mode}
use Rattle.bao_text.specs.Nodes.{TreeNode}
use Rattle.bao_check.specs.declared.fault.CheckFault.{CheckFault}
use Rattle.bao_check.specs.declared.fault.CheckFault.TheVariants.{Short, Mismatch, Trailing, Memory, Reader}
use Rattle.bao_check.specs.Bare.{IsBareFault}
use Rattle.bao_check.specs.Faults.{IsFirstFault, number_of}

-- the offset of the fault
abbrev pub place_of : CheckFault → ℕ
place_of (Short at) = at
place_of (Mismatch at) = at
place_of (Trailing at) = at
place_of Memory = 0
place_of Reader = 0

-- the status and the offset are those of the fault
abbrev pub IsStatusOf : CheckFault → ℕ → ℕ → Type 0
IsStatusOf fault status at = (status ≡ number_of fault) × (at ≡ place_of fault)

-- the status and the offset are those of the first fault of an encoding that should have these nodes
abbrev pub IsRefused : Mode → List ℕ → List ℕ → List TreeNode → ℕ → ℕ → Type 0
IsRefused mode root text nodes status at = (fault : CheckFault) × IsStatusOf fault status at × IsFirstFault mode root text nodes fault

-- the status and the offset are those of the first fault of chunks beside an outboard encoding
abbrev pub IsBareRefused : Mode → List ℕ → List ℕ → ℕ → ℕ → List ℕ → ℕ → ℕ → Type 0
IsBareRefused mode root outboard first count chunks status at =
    (fault : CheckFault) × IsStatusOf fault status at × IsBareFault mode root outboard first count chunks fault
