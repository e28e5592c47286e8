-- A line that says something is ASCII, and so UTF-8.
use Rattle.std.proofs.Common.{◌≡◌, ◌<◌, ℕ, List, [], ◌∷◌, Some, nat_lt, true, sym, subst, refl, lit<, arith}
use Rattle.std.specs.Char.{is_ascii_digit}
use Rattle.std.specs.List.{list_all, join_with_byte}
use Rattle.std.specs.Str.{IsAscii, IsUtf8}
use Rattle.std.proofs.lemmas.Bool.Decides.{nat_tests}
use Rattle.std.proofs.lemmas.Fmt.{IsAscii-from_digits}
use Rattle.std.proofs.lemmas.List.Splits.{join_with_byte-slice_split}
use Rattle.std.proofs.lemmas.Str.{IsAscii-append, IsUtf8-from_ascii}
use Rattle.std.proofs.lemmas.Str.Ascii.{IsAscii-nil, IsAscii-cons}
use Rattle.bao_script.proofs.Numbers.{own}
use Rattle.bao_script.specs.declared.line.Line.{Line}
use Rattle.bao_script.specs.declared.line.Line.TheVariants.{Claim, Hash, Write, Fill, Publish, Give, Load, Settle, Length}
use Rattle.bao_script.specs.Forms.{AreWritten, SaysLine, name_of, numbers_of}
use Rattle.bao_script.specs.Words.{line_words, written_number}

abbrev AreAscii : List (List ℕ) → Type 0
AreAscii [] = Unit {0}
AreAscii (word ∷ words) = IsAscii word × AreAscii words

digits_if_number : (bits : ℕ) (word : List ℕ) (n : ℕ) → written_number bits word ≡ Some n → list_all is_ascii_digit word ≡ true
digits_if_number bits word n h = grind (arith, nat_tests)

number_is_ascii : (bits : ℕ) (word : List ℕ) (n : ℕ) → written_number bits word ≡ Some n → IsAscii word
number_is_ascii bits word n h = IsAscii-from_digits word (own.to word (digits_if_number bits word n h))

written_are_ascii : (numbers : List (ℕ × ℕ)) (words : List (List ℕ)) → AreWritten numbers words → AreAscii words
written_are_ascii [] words h = let P : List (List ℕ) → Type 0 = AreAscii in subst P (sym h) tt
written_are_ascii (number ∷ numbers) words (word, rest, is, writes, others) =
    let P : List (List ℕ) → Type 0 = AreAscii in
    subst P (sym is) (number_is_ascii number.0 word number.1 writes, written_are_ascii numbers rest others)

-- bytes that pass a test
ascii_if_tested : (bytes : List ℕ) → list_all (λ byte. nat_lt byte 128) bytes ≡ true → IsAscii bytes
ascii_if_tested [] h = IsAscii-nil
ascii_if_tested (byte ∷ bytes) h =
    let below : byte < 128 = grind (arith, nat_tests) in
    let others : list_all (λ byte. nat_lt byte 128) bytes ≡ true = grind (arith, nat_tests) in
    IsAscii-cons byte bytes below (ascii_if_tested bytes others)

name_is_tested : (line : Line) → list_all (λ byte. nat_lt byte 128) (name_of line) ≡ true
name_is_tested (Claim seat group want) = refl
name_is_tested (Hash seat file start len) = refl
name_is_tested (Write seat chunk word) = refl
name_is_tested (Fill seat chunk) = refl
name_is_tested (Publish seat group) = refl
name_is_tested (Give seat group mask) = refl
name_is_tested (Load seat at len) = refl
name_is_tested (Settle seat) = refl
name_is_tested (Length seat) = refl

name_is_ascii : (line : Line) → IsAscii (name_of line)
name_is_ascii line = ascii_if_tested (name_of line) (name_is_tested line)

join_is_ascii : (words : List (List ℕ)) → AreAscii words → IsAscii (join_with_byte 32 words)
join_is_ascii [] h = IsAscii-nil
join_is_ascii (word ∷ []) h = h.0
join_is_ascii (word ∷ next ∷ words) h =
    IsAscii-append word (32 ∷ join_with_byte 32 (next ∷ words)) h.0
    (IsAscii-cons 32 (join_with_byte 32 (next ∷ words)) (lit< tt) (join_is_ascii (next ∷ words) h.1))

pub says_in_utf8 : (files : ℕ) (bytes : List ℕ) (line : Line) → SaysLine files (line_words bytes) line → IsUtf8 bytes
says_in_utf8 files bytes line (rest, is, written, named) =
    let P : List (List ℕ) → Type 0 = AreAscii in
    let words : AreAscii (line_words bytes) = subst P (sym is) (name_is_ascii line, written_are_ascii (numbers_of line) rest written) in
    let Q : List ℕ → Type 0 = IsAscii in
    IsUtf8-from_ascii bytes (subst Q (join_with_byte-slice_split 32 bytes) (join_is_ascii (line_words bytes) words))
