-- The meaning of a script's text, line by line.
use Rattle.std.specs.Prelude.{◌≡◌, ℕ, ◌+◌, ◌<◌, ◌==◌, if◌then◌else◌, List, [], ◌∷◌, ◌++◌, length, take, Some, slice_get}
use Rattle.bao_script.specs.declared.line.Line.{Line}
use Rattle.bao_script.specs.declared.numbered.NumberedLine.{NumberedLine}
use Rattle.bao_script.specs.Forms.{SaysLine}
use Rattle.bao_script.specs.Words.{line_words, lines_of}

-- the lines that aren't empty, each with its number; the first line has the number given
abbrev pub numbered : ℕ → List (List ℕ) → List (ℕ × List ℕ)
numbered number [] = []
numbered number (line ∷ lines) =
    if length line == 0 then numbered (number + 1) lines else (number, line) ∷ numbered (number + 1) lines

-- these lines mean this, one by one
abbrev pub AreRead : ℕ → List (ℕ × List ℕ) → List NumberedLine → Type 0
AreRead files [] script = script ≡ []
AreRead files (line ∷ lines) script =
    (first : NumberedLine) × (rest : List NumberedLine)
    × (script ≡ first ∷ rest) × (first.number ≡ line.0) × SaysLine files (line_words line.1) first.line × AreRead files lines rest

-- the meaning of a text in which each line that isn't empty has a form
abbrev pub IsScript : ℕ → List ℕ → List NumberedLine → Type 0
IsScript files text script = AreRead files (numbered 1 (lines_of text)) script

-- the line isn't empty, and has no form
abbrev pub IsRefusedLine : ℕ → List ℕ → Type 0
IsRefusedLine files text = (0 < length text) × ((line : Line) → ¬ SaysLine files (line_words text) line)

-- the line with this number is the first that is refused; those before it have a form
pub record IsFirstRefused (files : ℕ) (text : List ℕ) (number : ℕ) : Type 0 where
  pub index : ℕ
  pub number_is : number ≡ index + 1
  pub before : List NumberedLine
  pub read : AreRead files (numbered 1 (take index (lines_of text))) before
  pub line : List ℕ
  pub line_is : slice_get (lines_of text) index ≡ Some line
  pub refused : IsRefusedLine files line

-- the new list is the old one and the meaning of the line with this number, if that isn't empty
abbrev pub GainsLine : ℕ → List NumberedLine → List NumberedLine → ℕ → List ℕ → Type 0
GainsLine files old new number line =
    (more : List NumberedLine) × (new ≡ old ++ more) × AreRead files (numbered number (line ∷ [])) more
