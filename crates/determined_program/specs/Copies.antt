-- The faults of a plain copy that is written.
use Rattle.std.specs.Borrow.{Bor}
use Rattle.std.specs.Prelude.{◌≡◌, ◌⊎◌, ℕ, List}
use Rattle.bao_files.specs.declared.fault.FileFault.TheVariants.{Memory, Read, Write}
use Rattle.bao_decode.specs.declared.decode_fault.DecodeFault.{DecodeFault}
use Rattle.bao_decode.specs.declared.decode_fault.DecodeFault.TheVariants.{Check, File}

-- memory ran out; or what is read is accepted, and writing to the one path failed; or a read of the other failed, as none of a faultless source does
abbrev pub MayComeOfCopy : Type 0 → Type 0 → Bor (List ℕ) → Bor (List ℕ) → DecodeFault → Type 0
MayComeOfCopy accepted faultless file path fault = (fault ≡ File Memory) ⊎ ((fault ≡ File (Write path)) × accepted) ⊎ ((fault ≡ File (Read file)) × ¬ faultless)

-- the copy isn't accepted
abbrev pub IsOfCopy : DecodeFault → Type 0
IsOfCopy (Check fault) = Unit {0}
IsOfCopy (File fault) = ⊥

-- the same of a copy beside an outboard encoding, of which a read may fail too
abbrev pub MayComeBeside : Type 0 → Type 0 → Bor (List ℕ) → Bor (List ℕ) → Bor (List ℕ) → DecodeFault → Type 0
MayComeBeside accepted faultless outboard file path fault =
    (fault ≡ File Memory) ⊎ ((fault ≡ File (Write path)) × accepted) ⊎ ((fault ≡ File (Read outboard)) × ¬ faultless) ⊎ ((fault ≡ File (Read file)) × ¬ faultless)
