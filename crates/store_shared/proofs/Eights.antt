-- Eight bytes as a word: zeros stand after the last.
use Rattle.std.proofs.Common.{◌≡◌, ℕ, ◌+◌, ◌-◌, ◌<◌, min, List, length, ◌++◌, take, drop, get_or, replicate, refl, sym, ap, ◌∙◌, arith, inl, inr, get_or-take, get_or-drop}
use Rattle.std.specs.Int.{w64, from_le_bytes}
use Rattle.std.proofs.lemmas.Bool.{cases_lt}
use Rattle.std.proofs.lemmas.List.{get_or_append_left, get_or-append_right, get_or-replicate, get_or_past, take_rest}

-- a word has eight bytes
same_word : (xs ys : List ℕ) → ((i : ℕ) → i < 8 → get_or xs i 0 ≡ get_or ys i 0) → from_le_bytes w64 xs ≡ from_le_bytes w64 ys
same_word xs ys same =
    omega (
      arith,
      same 0 (omega arith),
      same 1 (omega arith),
      same 2 (omega arith),
      same 3 (omega arith),
      same 4 (omega arith),
      same 5 (omega arith),
      same 6 (omega arith),
      same 7 (omega arith),
    )

abbrev zeros : List ℕ
zeros = replicate 8 0

zero_at : (i : ℕ) → get_or zeros i 0 ≡ 0
zero_at i = elim (cases_lt i 8) [ inl inside ↦ get_or-replicate 8 i 0 0 inside | inr past ↦ get_or_past zeros i 0 past ]

-- bytes put over zeros
padded_at : (xs : List ℕ) (i : ℕ) → get_or (xs ++ drop (length xs) zeros) i 0 ≡ get_or xs i 0
padded_at xs i = elim (cases_lt i (length xs)) [
  | inl inside ↦ get_or_append_left xs (drop (length xs) zeros) 0 i inside
  | inr past ↦
      get_or-append_right xs (drop (length xs) zeros) (length xs) i 0 refl past
      ∙ get_or-drop (length xs) zeros (i - length xs) 0 ∙ zero_at (length xs + (i - length xs)) ∙ sym (get_or_past xs i 0 past)
]

-- a drop of all bytes at most
drop_at : (bytes : List ℕ) (at i : ℕ) → get_or (drop (min at (length bytes)) bytes) i 0 ≡ get_or bytes (at + i) 0
drop_at bytes at i = get_or-drop (min at (length bytes)) bytes i 0 ∙ elim (cases_lt (length bytes) at) [
  | inl past ↦
      get_or_past bytes (min at (length bytes) + i) 0 (omega (arith, past)) ∙ sym (get_or_past bytes (at + i) 0 (omega (arith, past)))
  | inr inside ↦ let is : min at (length bytes) + i ≡ at + i = omega (arith, inside) in ap (λ (k : ℕ). get_or bytes k 0) is
]

-- the bytes from one place on, put over zeros
pub rest_word : (bytes rest put : List ℕ) (at from : ℕ) → from ≡ min at (length bytes) → rest ≡ take (length bytes - from) (drop from bytes) → put ≡ rest
    → from_le_bytes w64 (put ++ drop (length rest) zeros) ≡ from_le_bytes w64 (take 8 (drop at bytes))
rest_word bytes rest put at from from_is rest_is put_is = same_word (put ++ drop (length rest) zeros) (take 8 (drop at bytes)) (λ i below.
    ap (λ (xs : List ℕ). get_or (xs ++ drop (length rest) zeros) i 0) put_is
    ∙ padded_at rest i
    ∙ ap (λ (xs : List ℕ). get_or xs i 0) (rest_is ∙ take_rest bytes from)
    ∙ ap (λ (k : ℕ). get_or (drop k bytes) i 0) from_is
    ∙ drop_at bytes at i
    ∙ sym (get_or-take 8 (drop at bytes) i 0 below ∙ get_or-drop at bytes i 0))
