-- what a file with a key has
use Rattle.std.specs.Prelude.{◌≡◌, ◌⊎◌, ℕ, List, [], ◌∷◌, ◌++◌, Option, Some, None, Ok}
use Rattle.hex.specs.Hex.{decode_of}
use Rattle.bao_files.specs.Printed.{IsDigits}

-- the bytes are these 64 hexadecimal digits, and a line end or nothing behind them
abbrev pub IsKeyText : List ℕ → List ℕ → Type 0
IsKeyText bytes digits = IsDigits digits × ((bytes ≡ digits) ⊎ (bytes ≡ digits ++ 10 ∷ []))

-- the key that the bytes give: that of their digits; and none where they are anything else
abbrev pub GivesKey : List ℕ → Option (List ℕ) → Type 0
GivesKey bytes (Some key) = (digits : List ℕ) × IsKeyText bytes digits × (decode_of digits ≡ Ok key)
GivesKey bytes None = (digits : List ℕ) → ¬ IsKeyText bytes digits
