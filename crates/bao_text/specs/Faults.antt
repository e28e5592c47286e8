-- what each fault says
use Rattle.std.specs.Prelude.{ℕ, ◌-◌, ◌<◌, ◌≤◌, List, Option, Result, Ok, Err, length, take}
use Rattle.std.specs.Io.KnownBytes.{Appends, Keeps}
use Rattle.bao_text.specs.declared.fault.WriteFault.{WriteFault}
use Rattle.bao_text.specs.declared.fault.WriteFault.TheVariants.{Memory, Writer}

-- the number of the fault
abbrev pub number_of : WriteFault → ℕ
number_of Memory = 401
number_of (Writer written) = 402

-- The writer had written `old`. If out of memory it has written nothing more; after a failed write it has
-- written exactly the first bytes of the encoding, and not all.
abbrev pub WroteOnly : Option (List ℕ) → Option (List ℕ) → List ℕ → WriteFault → Type 0
WroteOnly old new text Memory = Keeps old new
WroteOnly old new text (Writer written) = (written < length text) × Appends old new (take written text)

-- The writer had written `old`, the last `before` bytes of which belong to a larger encoding. It has now
-- written this encoding as well; or, after a failed write, exactly its first bytes, and not all.
abbrev pub Writes : ℕ → Option (List ℕ) → Option (List ℕ) → List ℕ → Result Unit WriteFault → Type 0
Writes before old new text (Ok done) = Appends old new text
Writes before old new text (Err Memory) = ⊥
Writes before old new text (Err (Writer written)) =
    (before ≤ written) × (written - before < length text) × Appends old new (take (written - before) text)
