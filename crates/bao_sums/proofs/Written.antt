-- The parts of a line.
use Rattle.std.proofs.Common.{◌≡◌, ◌≢◌, ℕ, ◌/◌, ◌<◌, ◌≤◌, Bool, true, false, if◌then◌else◌, List, [], ◌∷◌, ◌++◌, length, take, drop, Some, None, Result, Ok, Err, slice_index, ap, inl, inr, refl, sym, ◌∙◌, arith, length-append}
use Rattle.std.proofs.lemmas.Bool.{cases_Bool}
use Rattle.std.proofs.lemmas.List.{append_assoc, drop_at, take-take, take_at}
use Rattle.std.specs.List.{list_any}
use Rattle.std.specs.Result.{result_unwrap_or}
use Rattle.hex.specs.Hex.{decode_pairs, decode_sized, encode_lower, encode_with, hex_digit_value, lower_digits}
use Rattle.hex.proofs.HexLemmas.{IsDigits-lower_digits, decode_of-encode_lower, decode_of-even, length-encode_with}
use Rattle.b3tree.specs.Valid.{AreBytes}
use Rattle.bao_sums.specs.Sums.{IsLineOf, Sum, escaped, is_special}

no_digit : (value : ℕ) (byte : ℕ) → hex_digit_value byte ≡ Some value → byte ≢ 92
no_digit value byte digit is =
    let none : hex_digit_value byte ≡ None = ap hex_digit_value is in
    let both : Some value ≡ None = sym digit ∙ none in cc both

-- a hash doesn't begin with a backslash
pub digits_first : (digest : List ℕ) → length digest ≡ 32 → AreBytes digest → (first : ℕ) × (rest : List ℕ) × (encode_lower digest ≡ first ∷ rest) × (first ≢ 92)
unfolding encode_with
digits_first [] len are = absurd (omega (arith, len))
digits_first (byte ∷ digest) len are =
    let small : byte < 256 = are.at 0 in
    let high : byte / 16 < 16 = omega arith in (
      slice_index lower_digits (byte / 16),
      _,
      refl,
      no_digit (byte / 16) _ (IsDigits-lower_digits (byte / 16) high),
    )

-- the digits are two for each byte
pub digits_len : (digest : List ℕ) → length digest ≡ 32 → length (encode_lower digest) ≡ 64
digits_len digest len = let two = length-encode_with lower_digits digest in omega (arith, two, len)

-- they give the bytes
pub digits_back : (digest : List ℕ) → length digest ≡ 32 → AreBytes digest → decode_sized (encode_lower digest) 32 ≡ Ok digest
digits_back digest len are =
    let long = digits_len digest len in
    let sized : decode_sized (encode_lower digest) 32 ≡ decode_pairs 0 (encode_lower digest) = grind arith in
    sized ∙ sym (decode_of-even (encode_lower digest) (omega (arith, long))) ∙ decode_of-encode_lower digest are.at

-- what stands behind the mark
abbrev pub behind_mark : Sum → List ℕ
behind_mark sum = encode_lower sum.digest ++ (32 ∷ 32 ∷ escaped sum.path)

-- so it does, where a first backslash is taken off
pub behind : (line : List ℕ) (sum : Sum) (marked : Bool) (rest : List ℕ) → IsLineOf line sum
    → ((after : List ℕ) → line ≡ 92 ∷ after → (marked ≡ true) × (rest ≡ after))
    → ((first : ℕ) (after : List ℕ) → line ≡ first ∷ after → first ≢ 92 → (marked ≡ false) × (rest ≡ line))
    → (marked ≡ list_any is_special sum.path) × (rest ≡ behind_mark sum)
behind line sum marked rest is with_mark without = elim (cases_Bool (list_any is_special sum.path)) [
  | inl some ↦
      let begins : line ≡ 92 ∷ behind_mark sum = is.line_is ∙ ap (λ (b : Bool). (if b then 92 ∷ [] else []) ++ behind_mark sum) some in
      let both = with_mark (behind_mark sum) begins in (both.0 ∙ sym some, both.1)
  | inr none ↦
      let begins : line ≡ behind_mark sum = is.line_is ∙ ap (λ (b : Bool). (if b then 92 ∷ [] else []) ++ behind_mark sum) none in
      let first = digits_first sum.digest is.digest_len is.digest_bytes in
      let starts : behind_mark sum ≡ first.0 ∷ (first.1 ++ (32 ∷ 32 ∷ escaped sum.path)) = ap (λ (t : List ℕ). t ++ (32 ∷ 32 ∷ escaped sum.path)) first.2 in
      let both = without first.0 _ (begins ∙ starts) first.3 in (both.0 ∙ sym none, both.1 ∙ begins)
]

-- it is long enough
pub behind_len : (sum : Sum) → length sum.digest ≡ 32 → 66 ≤ length (behind_mark sum)
behind_len sum len =
    let long = digits_len sum.digest len in
    let both = length-append (encode_lower sum.digest) (32 ∷ 32 ∷ escaped sum.path) in
    omega (arith, long, both)

-- the digits, and the path
pub digits_behind : (sum : Sum) → length sum.digest ≡ 32 → take 64 (take 66 (behind_mark sum)) ≡ encode_lower sum.digest
digits_behind sum len =
    let long = digits_len sum.digest len in
    take-take 64 66 (behind_mark sum) (omega arith) ∙ take_at (encode_lower sum.digest) (32 ∷ 32 ∷ escaped sum.path) 64 long

pub path_behind : (sum : Sum) → length sum.digest ≡ 32 → drop 66 (behind_mark sum) ≡ escaped sum.path
path_behind sum len =
    let long = digits_len sum.digest len in
    let front : length (encode_lower sum.digest ++ (32 ∷ 32 ∷ [])) ≡ 66 = omega (arith, long, length-append (encode_lower sum.digest) (32 ∷ 32 ∷ [])) in
    ap (drop 66) (sym (append_assoc (encode_lower sum.digest) (32 ∷ 32 ∷ []) (escaped sum.path))) ∙ drop_at (encode_lower sum.digest ++ (32 ∷ 32 ∷ [])) (escaped sum.path) 66 front

-- what decoding gave
pub decoded : {E : Type 0} (result : Result (List ℕ) E) (bytes digest : List ℕ) → result ≡ Ok bytes → result ≡ Ok digest → bytes ≡ digest
decoded result bytes digest is sized = ap (λ (r : Result (List ℕ) _). result_unwrap_or r []) (sym is ∙ sized)

pub not_refused : {E : Type 0} (result : Result (List ℕ) E) (fault : E) (digest : List ℕ) → result ≡ Err fault → result ≡ Ok digest → ⊥
not_refused result fault digest is sized = let both : Err fault ≡ Ok digest = sym is ∙ sized in cc both
