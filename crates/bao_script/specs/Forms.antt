-- The forms of a script's lines.
use Rattle.std.specs.Prelude.{ℕ, ◌≡◌, ◌<◌, List, [], ◌∷◌, Option, None, Some, codes}
use Rattle.bao_script.specs.declared.line.Line.{Line}
use Rattle.bao_script.specs.declared.line.Line.TheVariants.{Claim, Hash, Write, Fill, Publish, Give, Load, Settle, Length}
use Rattle.bao_script.specs.Words.{written_number}

-- the word that a line begins with
abbrev pub name_of : Line → List ℕ
name_of (Claim seat group want) = codes "claim"
name_of (Hash seat file start len) = codes "hash"
name_of (Write seat chunk word) = codes "write"
name_of (Fill seat chunk) = codes "fill"
name_of (Publish seat group) = codes "publish"
name_of (Give seat group mask) = codes "give"
name_of (Load seat at len) = codes "load"
name_of (Settle seat) = codes "settle"
name_of (Length seat) = codes "length"

-- the numbers after it, each with its limit in bits
abbrev pub numbers_of : Line → List (ℕ × ℕ)
numbers_of (Claim seat group want) = (32, seat) ∷ (32, group) ∷ (64, want) ∷ []
numbers_of (Hash seat file start len) = (32, seat) ∷ (64, file) ∷ (64, start) ∷ (64, len) ∷ []
numbers_of (Write seat chunk word) = (32, seat) ∷ (32, chunk) ∷ (8, word) ∷ []
numbers_of (Fill seat chunk) = (32, seat) ∷ (32, chunk) ∷ []
numbers_of (Publish seat group) = (32, seat) ∷ (32, group) ∷ []
numbers_of (Give seat group mask) = (32, seat) ∷ (32, group) ∷ (64, mask) ∷ []
numbers_of (Load seat at len) = (32, seat) ∷ (64, at) ∷ (32, len) ∷ []
numbers_of (Settle seat) = (32, seat) ∷ []
numbers_of (Length seat) = (32, seat) ∷ []

-- the words write exactly these numbers, each within its bits
abbrev pub AreWritten : List (ℕ × ℕ) → List (List ℕ) → Type 0
AreWritten [] words = words ≡ []
AreWritten (number ∷ numbers) words =
    (word : List ℕ) × (rest : List (List ℕ)) × (words ≡ word ∷ rest) × (written_number number.0 word ≡ Some number.1) × AreWritten numbers rest

-- the file is one of those given
abbrev pub NamesFile : ℕ → Line → Type 0
NamesFile files (Hash seat file start len) = file < files
NamesFile files line = Unit {0}

-- the meaning of the words after this name: the line of that name with these numbers, or none if no line of
-- that name has them
abbrev pub IsReading : List ℕ → List (List ℕ) → Option Line → Type 0
IsReading name words (Some line) = (name_of line ≡ name) × AreWritten (numbers_of line) words
IsReading name words None = (line : Line) → name_of line ≡ name → ¬ AreWritten (numbers_of line) words

-- the words of a line mean this
abbrev pub SaysLine : ℕ → List (List ℕ) → Line → Type 0
SaysLine files words line =
    (rest : List (List ℕ)) × (words ≡ name_of line ∷ rest) × AreWritten (numbers_of line) rest × NamesFile files line

abbrev pub IsLine : ℕ → List (List ℕ) → Option Line → Type 0
IsLine files words (Some line) = SaysLine files words line
IsLine files words None = (line : Line) → ¬ SaysLine files words line
