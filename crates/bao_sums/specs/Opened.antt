-- What is known of files that were opened to be read by position.
use Rattle.std.specs.Prelude.{◌≡◌, ℕ, List, length, Option, Some, None}
use Rattle.b3tree.specs.declared.mode.Mode.{Mode}
use Rattle.bao_decode.specs.Opened.{OpensWith}
use Rattle.bao_files.specs.Disks.{FileState, Stored, IsStored}
use Rattle.bao_sums.specs.Damage.{ClaimsTotal, IsDamageOf}
use Rattle.bao_sums.specs.declared.damage.Beside.{Beside}
use Rattle.bao_sums.specs.declared.damage.Placed.{Placed}

-- the file was opened, and has this size; or it can't be read
abbrev pub IsPlacedOf : {I : Type 0} → (I → Option (List ℕ)) → (I → Type 0) → Type 0 → FileState → Option (Placed I) → Type 0
IsPlacedOf contents never faultless state (Some placed) =
    OpensWith state (contents placed.input) × ((s : List ℕ) → state ≡ Stored s → placed.size ≡ length s) × (faultless → never placed.input)
IsPlacedOf contents never faultless state None = faultless → ¬ IsStored state

-- both files were opened, and the outboard file claims this length; or there are no verdicts
abbrev pub IsBesideOf : {I : Type 0} → (I → Option (List ℕ)) → (I → Type 0) → Type 0 → FileState → FileState → Mode → List ℕ → Option (Beside I) → Type 0
IsBesideOf contents never faultless outboard file mode root (Some beside) =
    ClaimsTotal outboard mode root beside.total × OpensWith outboard (contents beside.outboard) × OpensWith file (contents beside.file)
    × (faultless → never beside.outboard × never beside.file)
IsBesideOf contents never faultless outboard file mode root None = IsDamageOf faultless outboard file mode root None
