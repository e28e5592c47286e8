-- A line with a hash and a path, in the form of b3sum.
use Rattle.std.specs.Prelude.{◌≡◌, ℕ, ◌==◌, ◌||◌, Bool, if◌then◌else◌, List, [], ◌∷◌, ◌++◌, length, Option, Some, None, option_to_list}
use Rattle.std.specs.List.{flat_map, list_any, slice_split}
use Rattle.std.specs.Str.{IsUtf8}
use Rattle.hex.specs.Hex.{encode_lower}
use Rattle.b3tree.specs.Valid.{AreBytes}

-- a backslash or a line feed
abbrev pub is_special : ℕ → Bool
is_special byte = (byte == 92) || (byte == 10)

-- a backslash is written twice, and a line feed as a backslash and the letter n
abbrev pub escaped_byte : ℕ → List ℕ
escaped_byte byte = if byte == 92 then 92 ∷ 92 ∷ [] else if byte == 10 then 92 ∷ 110 ∷ [] else byte ∷ []

abbrev pub escaped : List ℕ → List ℕ
escaped path = flat_map escaped_byte path

-- a line begins with a backslash if its path has a byte that is written so
abbrev pub mark : List ℕ → List ℕ
mark path = if list_any is_special path then 92 ∷ [] else []

-- the line that a check prints begins with this, for the path
abbrev pub shown : List ℕ → List ℕ
shown path = mark path ++ escaped path

-- the line of a hash and a path, without its line feed
abbrev pub sum_line : List ℕ → List ℕ → List ℕ
sum_line digest path = mark path ++ (encode_lower digest ++ (32 ∷ 32 ∷ escaped path))

-- what a line says
pub record Sum : Type 0 where
  pub digest : List ℕ
  pub path : List ℕ

-- the line is that of 32 bytes and a path in UTF-8
pub record IsLineOf (line : List ℕ) (sum : Sum) : Type 0 where
  pub digest_len : length sum.digest ≡ 32
  pub digest_bytes : AreBytes sum.digest
  pub path_utf8 : IsUtf8 sum.path
  pub line_is : line ≡ sum_line sum.digest sum.path

-- what a line says, if it is such a line
abbrev pub Says : List ℕ → Option Sum → Type 0
Says line (Some sum) = IsLineOf line sum
Says line None = (sum : Sum) → ¬ IsLineOf line sum

-- what the lines say that are such, in order
abbrev pub Say : List (List ℕ) → List Sum → Type 0
Say [] sums = sums ≡ []
Say (line ∷ lines) sums = (found : Option Sum) × (rest : List Sum) × Says line found × Say lines rest × (sums ≡ option_to_list found ++ rest)

-- what the lines of a text say; they end with line feeds, and the last may lack its own
abbrev pub AreSums : List ℕ → List Sum → Type 0
AreSums text sums = Say (slice_split (λ byte. byte == 10) text) sums
