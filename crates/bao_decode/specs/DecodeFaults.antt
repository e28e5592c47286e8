-- what a fault of decoding says, and its number
use Rattle.std.specs.Borrow.{Bor}
use Rattle.std.specs.Prelude.{◌⊎◌, ℕ, List, Option, Some}
use Rattle.bao_check.specs.Faults.{number_of as check_number_of}
use Rattle.bao_files.specs.Faults.{number_of as file_number_of}
use Rattle.bao_files.specs.Printed as file
use Rattle.bao_decode.specs.declared.decode_fault.DecodeFault.{DecodeFault}
use Rattle.bao_decode.specs.declared.decode_fault.DecodeFault.TheVariants.{Check, File}

-- it isn't one of standard output
abbrev pub IsQuietDecode : DecodeFault → Type 0
IsQuietDecode (File fault) = file.IsQuiet fault
IsQuietDecode (Check fault) = Unit {0}

-- a fault of reading names the one path, and a fault of writing the other
abbrev pub NamesDecodePaths : Bor (List ℕ) → Bor (List ℕ) → DecodeFault → Type 0
NamesDecodePaths input output (File fault) = file.NamesPaths input output fault
NamesDecodePaths input output (Check fault) = Unit {0}

-- the same, where either of two inputs may be named
abbrev pub NamesEither : Bor (List ℕ) → Bor (List ℕ) → Bor (List ℕ) → DecodeFault → Type 0
NamesEither first second output fault = NamesDecodePaths first output fault ⊎ NamesDecodePaths second output fault

-- the number of the fault, where its text has one
abbrev pub decode_number_of : DecodeFault → Option ℕ
decode_number_of (File fault) = file_number_of fault
decode_number_of (Check fault) = Some (check_number_of fault)
