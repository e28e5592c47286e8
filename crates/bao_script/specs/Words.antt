-- The words of a script's text, and the numbers that they write.
use Rattle.std.specs.Prelude.{ℕ, ◌^◌, ◌==◌, nat_lt, Bool, ◌&&◌, List, length, Option, Some, None, if◌then◌else◌}
use Rattle.std.specs.Char.{is_ascii_digit}
use Rattle.std.specs.List.{list_all, slice_split}
use Rattle.std.specs.Str.Parse.{digits_value}

-- the lines of a text, which end with line feeds; the last may lack its own
abbrev pub lines_of : List ℕ → List (List ℕ)
lines_of text = slice_split (λ byte. byte == 10) text

-- the words of a line, separated by single spaces
abbrev pub line_words : List ℕ → List (List ℕ)
line_words line = slice_split (λ byte. byte == 32) line

-- one or more decimal digits without a sign; leading zeros are allowed
abbrev pub is_numeral : List ℕ → Bool
is_numeral word = nat_lt 0 (length word) && list_all is_ascii_digit word

-- the number that a word writes, if it fits the bits
abbrev pub written_number : ℕ → List ℕ → Option ℕ
written_number bits word =
    if is_numeral word && nat_lt (digits_value 10 word) (2 ^ bits) then Some (digits_value 10 word) else None
