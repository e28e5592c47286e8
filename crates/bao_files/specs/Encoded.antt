-- what is written of a file that is encoded
use Rattle.std.specs.Borrow.{Bor}
use Rattle.std.specs.Prelude.{◌≡◌, ◌≢◌, ◌⊎◌, ◌<◌, ℕ, List, length, take, Option, Result, Ok, Err}
use Rattle.std.specs.Io.KnownBytes.{Appends, Keeps}
use Rattle.b3tree.specs.declared.mode.Mode.{Mode}
use Rattle.b3tree.specs.declared.values.Hash.{Hash}
use Rattle.b3tree.specs.Hashing.{hash}
use Rattle.b3tree.specs.Valid.{AreBytes}
use Rattle.bao_text.specs.declared.fault.WriteFault.{WriteFault}
use Rattle.bao_text.specs.declared.fault.WriteFault.TheVariants as text
use Rattle.b3par.specs.Given.{GivenAt, IsHashOf}
use Rattle.bao_text.specs.declared.kinds.Encoding.{Encoding as Kind}
use Rattle.bao_text.specs.declared.kinds.Encoding.TheVariants.{Combined, Outboard, Slice}
use Rattle.bao_files.specs.declared.fault.FileFault.{FileFault}
use Rattle.bao_files.specs.declared.fault.FileFault.TheVariants.{Encoding, Memory, Read, Write}
use Rattle.bao_text.specs.Texts.{combined_text, outboard_text, slice_text}

-- the encoding that is written
abbrev pub encoding_text : Mode → Kind → List ℕ → List ℕ
encoding_text mode Combined bytes = combined_text mode bytes
encoding_text mode Outboard bytes = outboard_text mode bytes
encoding_text mode (Slice start len) bytes = slice_text mode bytes start len

-- this encoding of so many bytes was made, with their hash
pub record IsMadeEncoding (mode : Mode) (kind : Kind) (size : ℕ) (bytes answer text : List ℕ) : Type 0 where
  pub hash_is : IsHashOf mode size bytes answer
  pub text_is : text ≡ encoding_text mode kind bytes

-- the program's answer where that of writing an encoding to this path is known
abbrev pub answer_at_path : Bor (List ℕ) → Result Hash WriteFault → Result Hash FileFault
answer_at_path path (Ok answer) = Ok answer
answer_at_path path (Err text.Memory) = Err Encoding
answer_at_path path (Err (text.Writer written)) = Err (Write path)

-- a beginning of the encoding was written, and not all
abbrev pub AppendsPart : Option (List ℕ) → Option (List ℕ) → List ℕ → Type 0
AppendsPart old new text = (n : ℕ) × (n < length text) × Appends old new (take n text)

-- the encoding of the bytes was written, and the answer is their hash; or nothing was written, out of memory or as the one path
-- can't be read; or a beginning, as the other can't be written, or, of a combined encoding, which is written while the one is
-- read a second time, as that can't be read again
abbrev pub Encodes : Mode → Kind → List ℕ → Bor (List ℕ) → Bor (List ℕ) → Option (List ℕ) → Option (List ℕ) → Result Hash FileFault → Type 0
Encodes mode kind bytes file path old new (Ok answer) = (answer.0 ≡ hash mode bytes) × Appends old new (encoding_text mode kind bytes)
Encodes mode kind bytes file path old new (Err fault) =
    (((fault ≡ Memory) ⊎ (fault ≡ Encoding) ⊎ (fault ≡ Read file)) × Keeps old new)
    ⊎ ((fault ≡ Write path) × AppendsPart old new (encoding_text mode kind bytes))
    ⊎ ((fault ≡ Read file) × (kind ≡ Combined) × AppendsPart old new (encoding_text mode kind bytes))

-- the same of bytes that have the hash of these, and are the contents if these are
abbrev pub EncodesLike : Option (List ℕ) → Mode → List ℕ → Bor (List ℕ) → Bor (List ℕ) → Option (List ℕ) → Option (List ℕ) → Result Hash FileFault → Type 0
EncodesLike contents mode bytes file path old new result =
    (again : List ℕ) × (length again ≡ length bytes) × AreBytes again × (GivenAt contents 0 bytes → GivenAt contents 0 again)
    × Encodes mode Combined again file path old new result

-- Its file is read once: it is no combined encoding, or of fewer than 4 MiB. Else the file is read a second time while its encoding is written.
abbrev pub IsReadOnce : Kind → ℕ → Type 0
IsReadOnce kind size = (kind ≢ Combined) ⊎ (size < 4194304)

-- there was no memory, or the file at this path couldn't be written
abbrev pub IsAfterReading : Bor (List ℕ) → FileFault → Type 0
IsAfterReading path fault = (fault ≡ Memory) ⊎ (fault ≡ Encoding) ⊎ (fault ≡ Write path)
