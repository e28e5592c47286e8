use Rattle.std.proofs.Common.{◌≡◌, ◌<◌, ◌^◌, ℕ, Option, Some, None, Result, Ok, Err, refl, sym, subst, ◌∙◌}
use Rattle.clap.specs.Words.{ReadsOne, Text, found_of, one_of, one_text, rows_of}
use Rattle.std.specs.Str.Parse.{ExplainsUnsignedError, HasUnsignedDigitsIfOk, IsNumeral, ParsesUnsigned, digits_value, without_leading_plus}
use Rattle.std.specs.declared.num.ParseIntError.{ParseIntError}
use Rattle.clap.proofs.WalkLemmas.{one_text-rows}
use Rattle.bao_request.specs.Requests.{Finds}
use Rattle.bao_request.proofs.reading.number.Goals as goal

-- the text is a numeral of 64 bits, of this value
abbrev IsNumber : Text → ℕ → Type 0
IsNumber text n = (n ≡ digits_value 10 (without_leading_plus text)) × IsNumeral 10 (without_leading_plus text) × (n < 2 ^ 64)

number_of : {E : Type 0} (gives : Text → Result ℕ E → Type 0) (o p : Option Text) (r : Option ℕ) → ((text : Text) (n : ℕ) → gives text (Ok n) → IsNumber text n)
    → ((text : Text) (n : ℕ) (e : E) → gives text (Err e) → ¬ IsNumber text n)
    → o ≡ p → (o ≡ None → r ≡ None) → ((text : Text) → o ≡ Some text → ReadsOne gives text r)
    → Finds (λ (n : ℕ). (text : Text) × (p ≡ Some text) × (n ≡ digits_value 10 (without_leading_plus text)) × IsNumeral 10 (without_leading_plus text) × (n < 2 ^ 64)) r
number_of gives o p None digits others same none some = λ n a.
    let read = some a.0 (same ∙ a.1) in others a.0 n read.0 read.1 (a.2, a.3, a.4)
number_of gives None p (Some n) digits others same none some = let bad : Some n ≡ None = none refl in cc
number_of gives (Some text) p (Some n) digits others same none some =
    let is = digits text n (some text refl) in (text, sym same, is.0, is.1, is.2)

pub returns : goal.returns
returns c =
    number_of (λ (text : Text) (r : Result ℕ ParseIntError). ParsesUnsigned 64 10 text r × ExplainsUnsignedError 10 text r × HasUnsignedDigitsIfOk text r) (one_text (found_of c.args.words.now) c.args.id.now) (one_of c.args.id.now (rows_of (found_of c.args.words.now))) c.get_one.result
    (λ text n h. (h.0.1, h.0.0.0, subst (λ (k : ℕ). k < 2 ^ 64) (sym h.0.1) h.0.0.1))
    (λ text n e h a. h.0 (a.1, subst (λ (k : ℕ). k < 2 ^ 64) a.0 a.2))
    (one_text-rows (found_of c.args.words.now) c.args.id.now) c.get_one.ensures.none c.get_one.ensures.value
