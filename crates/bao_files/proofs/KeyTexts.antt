-- The text of a key, and the beginning of what a reader has left, which tells whether it is one.
use Rattle.std.proofs.Common.{◌≡◌, ◌≢◌, ◌⊎◌, ◌↔◌, ◌<◌, ◌≤◌, ℕ, ◌+◌, List, [], ◌∷◌, ◌++◌, length, take, slice_index_or, Option, None, Some, IfSome, IsSome, inl, inr, refl, sym, ap, subst, ◌∙◌, Ok, true, true≢false, arith, append-nil, length-append}
use Rattle.std.proofs.lemmas.List.{append_cancel_right, length-take-le, take-append-le}
use Rattle.std.proofs.Math.Seq.{take-append-add}
use Rattle.std.proofs.KnownBytes.{Consumes-trans}
use Rattle.std.specs.Io.KnownBytes.{Consumes, IsAtEnd}
use borrow.Rule.Slice.PartMut.{put_mid, post_of}
use Rattle.hex.specs.Hex.{decode_of, is_hex_digit}
use Rattle.bao_files.specs.Printed.{IsDigits}
use Rattle.bao_files.specs.Keys.{GivesKey, IsKeyText}

last : (xs : List ℕ) (d : ℕ) → slice_index_or (xs ++ 10 ∷ []) (length xs) d ≡ 10
last [] d = refl
last (x ∷ xs) d = last xs d

-- no line end is among digits
no_line_end : (xs : List ℕ) → ¬ IsDigits (xs ++ 10 ∷ [])
no_line_end xs digits =
    let one : length (xs ++ 10 ∷ []) ≡ length xs + 1 = length-append xs (10 ∷ []) in
    let at : is_hex_digit (slice_index_or (xs ++ 10 ∷ []) (length xs) 0) ≡ true = digits.1 (length xs) 0 (omega (arith, one)) in
    true≢false (sym (subst (λ (n : ℕ). is_hex_digit n ≡ true) (last xs 0) at))

-- the digits are what stands before a line end, and else all of the text
pub digits_before : (s x digits : List ℕ) → s ≡ x ++ 10 ∷ [] → IsDigits digits → (s ≡ digits) ⊎ (s ≡ digits ++ 10 ∷ []) → x ≡ digits
digits_before s x digits is all (inl same) = absurd (no_line_end x (subst IsDigits (sym same ∙ is) all))
digits_before s x digits is all (inr same) = append_cancel_right x digits (10 ∷ []) (sym is ∙ same)

pub digits_alone : (s digits : List ℕ) → ((front : List ℕ) → s ≢ front ++ 10 ∷ []) → (s ≡ digits) ⊎ (s ≡ digits ++ 10 ∷ []) → s ≡ digits
digits_alone s digits none (inl same) = same
digits_alone s digits none (inr same) = absurd (none digits same)

-- what the text without its line end gives
pub given : (s cut : List ℕ) (found : Option (List ℕ)) → ((digits : List ℕ) → IsKeyText s digits → cut ≡ digits) → (s ≡ cut) ⊎ (s ≡ cut ++ 10 ∷ [])
    → IfSome found (λ key. decode_of cut ≡ Ok key) → IsSome found ↔ IsDigits cut → GivesKey s found
given s cut (Some key) same rest value found = (cut, (found.0 refl, rest), value)
given s cut None same rest value found = λ digits text. true≢false (sym (found.1 (subst IsDigits (sym (same digits text)) text.0)))

-- what a buffer begins with, after `count` more bytes were put at `at`
put_more : (at k count : ℕ) (buffer new : List ℕ) → at ≤ length buffer → count ≤ length new → take (at + count) (put_mid at k buffer new) ≡ take at buffer ++ take count new
put_more at k count buffer new fits within =
    let front : length (take at buffer) ≡ at = length-take-le at buffer fits in
    let rest : List ℕ = post_of at k buffer in
    ap (λ (n : ℕ). take (n + count) (take at buffer ++ (new ++ rest))) (sym front)
    ∙ take-append-add (take at buffer) (new ++ rest) count
    ∙ ap (λ (s : List ℕ). take at buffer ++ s) (take-append-le count new rest within)

-- a read gave more of what was left, after those that the buffer begins with
pub put_consumes : (a b c : Option (List ℕ)) (filled k count : ℕ) (buffer new : List ℕ) → filled ≤ length buffer → count ≤ length new
    → Consumes a b (take filled buffer) → Consumes b c (take count new) → Consumes a c (take (filled + count) (put_mid filled k buffer new))
put_consumes a b c filled k count buffer new fits within before read =
    subst (Consumes a c) (sym (put_more filled k count buffer new fits within)) (Consumes-trans a b c (take filled buffer) (take count new) before read)

-- the text of a key is short
is_short : (s digits : List ℕ) → IsDigits digits → (s ≡ digits) ⊎ (s ≡ digits ++ 10 ∷ []) → length s < 66
is_short s digits all (inl same) = omega (arith, all.0, ap (λ (x : List ℕ). length x) same)
is_short s digits all (inr same) =
    let one : length (digits ++ 10 ∷ []) ≡ length digits + 1 = length-append digits (10 ∷ []) in omega (arith, all.0, one, ap (λ (x : List ℕ). length x) same)

whole : (left start rest : List ℕ) → left ≡ start ++ rest → rest ≡ [] → left ≡ start
whole left start rest is none = is ∙ ap (λ (s : List ℕ). start ++ s) none ∙ append-nil start

-- What 66 bytes of it give, or all of it, is what all of it gives.
pub left_key : (a b : Option (List ℕ)) (start : List ℕ) (key : Option (List ℕ)) → Consumes a b start → (length start < 66 → IsAtEnd b) → GivesKey start key
    → IfSome a (λ left. GivesKey left key)
left_key None b start key read end gives = tt
left_key (Some left) None start key read end gives = absurd read
left_key (Some left) (Some rest) start (Some key) read end gives =
    let same : left ≡ start = whole left start rest read (end (is_short start gives.0 gives.1.0 gives.1.1)) in
    subst (λ (s : List ℕ). GivesKey s (Some key)) (sym same) gives
left_key (Some left) (Some rest) start None read end gives =
    λ digits text.
    let short : length left < 66 = is_short left digits text.0 text.1 in
    let parts : length left ≡ length start + length rest = ap (λ (x : List ℕ). length x) read ∙ length-append start rest in
    let same : left ≡ start = whole left start rest read (end (omega (arith, short, parts))) in
    gives digits (subst (λ (s : List ℕ). IsKeyText s digits) same text)
