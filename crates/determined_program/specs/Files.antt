-- What is read and written alike.
use Rattle.std.specs.Prelude.{◌≡◌, ◌≢◌, ℕ, List, Option, Result, Ok, Err}
use Rattle.bao_files.specs.Disks.{FileState, IsKnown}
use Rattle.bao_files.specs.declared.fault.FileFault.{FileFault}
use Rattle.bao_files.specs.declared.fault.FileFault.TheVariants.{Read, Write, Output}
use Rattle.bao_files.specs.declared.fault.FileFault.TheVariants as file
use Rattle.bao_text.specs.declared.kinds.Encoding.{Encoding}
use Rattle.bao_text.specs.declared.kinds.Encoding.TheVariants.{Combined}
use Rattle.b3par.specs.declared.fault.ReadFault.{ReadFault}
use Rattle.b3par.specs.declared.fault.ReadFault.TheVariants.{Memory}

-- of a source a fault may come at any time, but where it never fails only the want of memory
abbrev pub MayCome : Type 0 → ReadFault → Type 0
MayCome faultless fault = faultless → fault ≡ Memory

-- What two writers hold is the same, where all that was to be written was, and where both have a fault that comes before anything is.
abbrev pub SameWritten : {X E : Type 0} → (E → Type 0) → Option (List ℕ) → Option (List ℕ) → Result X E → Result X E → Type 0
SameWritten IsEarly a b (Ok x) (Ok y) = a ≡ b
SameWritten IsEarly a b (Ok x) (Err f) = Unit {0}
SameWritten IsEarly a b (Err e) (Ok y) = Unit {0}
SameWritten IsEarly a b (Err e) (Err f) = IsEarly e → IsEarly f → a ≡ b

-- The fault comes before anything is written of this encoding. A combined encoding may be written while its input is read a second
-- time, so that a fault of reading may come later.
abbrev pub IsBeforeWriting : Encoding → FileFault → Type 0
IsBeforeWriting encoding (Read path) = encoding ≢ Combined
IsBeforeWriting encoding (Write path) = ⊥
IsBeforeWriting encoding Output = ⊥
IsBeforeWriting encoding file.Encoding = Unit {0}
IsBeforeWriting encoding file.Memory = Unit {0}

-- what is at each path of which it was known before
abbrev pub SameWhereKnown : (List ℕ → FileState) → (List ℕ → FileState) → (List ℕ → FileState) → Type 0
SameWhereKnown before one other = (path : List ℕ) → IsKnown (before path) → one path ≡ other path
