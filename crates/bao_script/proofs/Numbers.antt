-- What `parse` answers at a word of digits.
use Rattle.std.proofs.Common.{◌≡◌, ◌^◌, ◌<◌, ℕ, List, Result, Ok, Err, None, Some, length, true, arith, rules}
use Rattle.std.specs.Char.{is_ascii_digit}
use Rattle.std.specs.List.{list_all}
use Rattle.std.specs.Result.{OkIff, result_ok}
use Rattle.std.specs.Str.Parse.{ParsesUnsigned, digits_value}
use Rattle.std.proofs.lemmas.Bool.Decides.{nat_tests}
use Rattle.std.proofs.lemmas.Str.Parse.{IsDigitsTest, IsNumeralModel, numerals_by_value, parse_digits}
use Rattle.bao_script.specs.Words.{written_number}

-- digits alone
tells_list_all : IsDigitsTest (λ digits. list_all is_ascii_digit digits ≡ true)
tells_list_all = search rules

pub own : IsNumeralModel (λ digits. list_all is_ascii_digit digits ≡ true) (digits_value 10)
own = numerals_by_value _ tells_list_all

chosen : (bits : ℕ) (word : List ℕ) → list_all is_ascii_digit word ≡ true → (n : ℕ) → 0 < length word → digits_value 10 word < 2 ^ bits
    → n ≡ digits_value 10 word → Some n ≡ written_number bits word
chosen bits word digits n some fits is = grind (arith, nat_tests)

refused : (bits : ℕ) (word : List ℕ) → ¬ ((0 < length word) × (digits_value 10 word < 2 ^ bits)) → None ≡ written_number bits word
refused bits word h = grind (arith, nat_tests)

number_from_ok : {E : Type 0} (bits : ℕ) (word : List ℕ) (r : Result ℕ E) → list_all is_ascii_digit word ≡ true
    → OkIff r ((0 < length word) × (digits_value 10 word < 2 ^ bits)) (digits_value 10 word) → result_ok r ≡ written_number bits word
number_from_ok bits word (Ok n) digits h = chosen bits word digits n h.0.0 h.0.1 h.1
number_from_ok bits word (Err e) digits h = refused bits word h

pub number_from_parse : {E : Type 0} (bits : ℕ) (word : List ℕ) (r : Result ℕ E) → ParsesUnsigned bits 10 word r
    → list_all is_ascii_digit word ≡ true → result_ok r ≡ written_number bits word
number_from_parse bits word r parses digits = number_from_ok bits word r digits (parse_digits own bits word r parses digits)
