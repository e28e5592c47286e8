-- what is printed on a stream, and what a fault leaves there
use Rattle.std.specs.Borrow.{Bor}
use Rattle.std.specs.Prelude.{◌≡◌, ℕ, List, [], ◌∷◌, ◌++◌, length, take, Option, Result, Ok, Err, codes}
use Rattle.std.specs.Fmt.{decimal}
use Rattle.std.specs.List.{AllPass}
use Rattle.std.specs.Io.KnownBytes.{Appends, Keeps}
use Rattle.hex.specs.Hex.{encode_lower, is_hex_digit}
use Rattle.bao_files.specs.declared.fault.FileFault.{FileFault}
use Rattle.bao_files.specs.declared.fault.FileFault.TheVariants.{Read, Write, Output, Encoding, Memory}

-- 64 hexadecimal digits
abbrev pub IsDigits : List ℕ → Type 0
IsDigits text = (length text ≡ 64) × AllPass is_hex_digit text

-- the lower-case digits of bytes, and a line end
abbrev pub digits_line : List ℕ → List ℕ
digits_line bytes = encode_lower bytes ++ 10 ∷ []

-- the line of n bytes that were written
abbrev pub ok_line : ℕ → List ℕ
ok_line n = codes "ok " ++ decimal n ++ 10 ∷ []

-- a beginning of the encoding was written, if anything
abbrev pub AppendsBeginning : Option (List ℕ) → Option (List ℕ) → List ℕ → Type 0
AppendsBeginning old new text = (n : ℕ) × Appends old new (take n text)

-- what a fault leaves of the line that was to be printed: a beginning where it is that of standard
-- output, and nothing else
abbrev pub Leaves : List ℕ → Option (List ℕ) → Option (List ℕ) → FileFault → Type 0
Leaves line old new (Read path) = Keeps old new
Leaves line old new (Write path) = Keeps old new
Leaves line old new Output = AppendsBeginning old new line
Leaves line old new Encoding = Keeps old new
Leaves line old new Memory = Keeps old new

-- a fault that comes before anything is printed
abbrev pub IsQuiet : FileFault → Type 0
IsQuiet (Read path) = Unit {0}
IsQuiet (Write path) = Unit {0}
IsQuiet Output = ⊥
IsQuiet Encoding = Unit {0}
IsQuiet Memory = Unit {0}

-- a fault of reading names the one path, and a fault of writing the other
abbrev pub NamesPaths : Bor (List ℕ) → Bor (List ℕ) → FileFault → Type 0
NamesPaths input output (Read path) = path ≡ input
NamesPaths input output (Write path) = path ≡ output
NamesPaths input output Output = Unit {0}
NamesPaths input output Encoding = Unit {0}
NamesPaths input output Memory = Unit {0}

-- the line was printed, or the fault leaves what it leaves
abbrev pub Prints : List ℕ → Option (List ℕ) → Option (List ℕ) → Result Unit FileFault → Type 0
Prints line old new (Ok done) = Appends old new line
Prints line old new (Err fault) = Leaves line old new fault

-- this holds where all that was to be printed was, and where standard output took a beginning of it and then no more
abbrev pub OnOutputFault : FileFault → Type 0 → Type 0
OnOutputFault (Read path) holds = Unit {0}
OnOutputFault (Write path) holds = Unit {0}
OnOutputFault Output holds = holds
OnOutputFault Encoding holds = Unit {0}
OnOutputFault Memory holds = Unit {0}

abbrev pub OnOutput : Result Unit FileFault → Type 0 → Type 0
OnOutput (Ok done) holds = holds
OnOutput (Err fault) holds = OnOutputFault fault holds
