-- What a second pass over an input has written, whose first pass kept the parents.
use Rattle.std.specs.Borrow.{Bor}
use Rattle.std.specs.Prelude.{◌≡◌, ℕ, ◌*◌, List, length, Option, Result, OnErr, OnOk}
use Rattle.std.specs.Io.KnownBytes.{Appends}
use Rattle.b3tree.specs.declared.mode.Mode.{Mode}
use Rattle.b3tree.specs.Hashing.{hash}
use Rattle.b3tree.specs.Tree.{subtree_cv}
use Rattle.b3tree.specs.Valid.{AreBytes}
use Rattle.b3par.specs.Given.{GivenAt}
use Rattle.bao_text.specs.Pieces.{whole_text}
use Rattle.bao_text.specs.Texts.{combined_text}
use Rattle.bao_files.specs.declared.again.AgainFault.{AgainFault}
use Rattle.bao_files.specs.declared.again.AgainFault.TheVariants.{Input, Output}
use Rattle.bao_files.specs.declared.fault.FileFault.{FileFault}
use Rattle.bao_files.specs.declared.fault.FileFault.TheVariants.{Read, Write}
use Rattle.bao_files.specs.Encoded.{AppendsPart}

-- all of the text was written, or a beginning of it, and not all
abbrev pub Sends : List ℕ → Option (List ℕ) → Option (List ℕ) → Result Unit AgainFault → Type 0
Sends text old new result = OnOk result (Appends old new text) × OnErr result (AppendsPart old new text)

-- what has the value of those before, whose first chunk has the number `first`, is made of bytes if those are, and is the contents' if those are
pub record Replaces (contents : Option (List ℕ)) (mode : Mode) (first : ℕ) (before again : List ℕ) : Type 0 where
  pub len_is : length again ≡ length before
  pub value : subtree_cv mode first again ≡ subtree_cv mode first before
  pub are : AreBytes before → AreBytes again
  pub given : GivenAt contents (1024 * first) before → GivenAt contents (1024 * first) again

-- the encoding of such bytes was written, as that of a subtree of a blob of `total` bytes, or a beginning of it
abbrev pub WritesAgain : Option (List ℕ) → ℕ → Mode → ℕ → List ℕ → Option (List ℕ) → Option (List ℕ) → Result Unit AgainFault → Type 0
WritesAgain contents total mode first before old new result =
    (again : List ℕ) × Replaces contents mode first before again × Sends (whole_text total mode first again) old new result

-- the combined encoding of bytes with the hash of those before was written, or a beginning of it
abbrev pub EncodesAgain : Option (List ℕ) → Mode → List ℕ → Option (List ℕ) → Option (List ℕ) → Result Unit AgainFault → Type 0
EncodesAgain contents mode before old new result =
    (again : List ℕ) × (length again ≡ length before) × (hash mode again ≡ hash mode before)
    × (AreBytes before → AreBytes again)
    × (GivenAt contents 0 before → GivenAt contents 0 again)
    × Sends (combined_text mode again) old new result

-- the program's fault, where one pass reads from the one path and writes to the other
abbrev pub fault_at_paths : Bor (List ℕ) → Bor (List ℕ) → AgainFault → FileFault
fault_at_paths file path Input = Read file
fault_at_paths file path Output = Write path
