-- The bytes of a parent from its two chaining values.
use Rattle.std.proofs.Common.{◌≡◌, ℕ, zero, suc, ◌+◌, ◌*◌, ◌<◌, ◌≤◌, List, [], ◌∷◌, ◌++◌, length, take, drop, map, get_or, refl, sym, ap, ◌∙◌, arith, length-drop}
use Rattle.std.specs.List.{range_with_len}
use Rattle.std.specs.Int.{w32, to_le_bytes}
use Rattle.std.proofs.lemmas.List.{drop_more, length-take-le, take-append-drop, take_all}
use Rattle.std.proofs.lemmas.Nat.{le_bytes_4}
use Rattle.b3tree.specs.Bytes.{bytes_of, word_at, words_of}
use Rattle.b3tree.specs.Valid.{AreBytes}
use Rattle.b3tree.proofs.BlockWords.{AreBytes-drop, AreBytes-take}
use Rattle.bao_check.specs.Accepted.{part_value}
use Rattle.bao_text.specs.Nodes.{left, right}

-- the four bytes from place k on
abbrev four : List ℕ → ℕ → List ℕ
four xs k = get_or xs k 0 ∷ get_or xs (k + 1) 0 ∷ get_or xs (k + 2) 0 ∷ get_or xs (k + 3) 0 ∷ []

four-AreBytes : (xs : List ℕ) (k : ℕ) → AreBytes xs → (i : ℕ) → get_or (four xs k) i 0 < 256
four-AreBytes xs k bytes zero = bytes.at k
four-AreBytes xs k bytes (suc zero) = bytes.at (k + 1)
four-AreBytes xs k bytes (suc (suc zero)) = bytes.at (k + 2)
four-AreBytes xs k bytes (suc (suc (suc zero))) = bytes.at (k + 3)
four-AreBytes xs k bytes (suc (suc (suc (suc i)))) = omega arith

word_bytes : (xs : List ℕ) (k : ℕ) → AreBytes xs → to_le_bytes w32 (word_at xs k) ≡ four xs (4 * k)
word_bytes xs k bytes = le_bytes_4 (four xs (4 * k)) (word_at xs k) refl (four-AreBytes xs (4 * k) bytes) refl

-- n words from word k on, as bytes
words_bytes : (n k : ℕ) (xs : List ℕ) → AreBytes xs → 4 * (k + n) ≤ length xs → bytes_of (map (word_at xs) (range_with_len k n)) ≡ take (4 * n) (drop (4 * k) xs)
words_bytes zero k xs bytes fits = refl
words_bytes (suc n) k xs bytes fits =
    let next : 4 * k + 4 ≡ 4 * (k + 1) = omega arith in
    let more : 4 * suc n ≡ suc (suc (suc (suc (4 * n)))) = omega arith in
    let rest : bytes_of (map (word_at xs) (range_with_len (k + 1) n)) ≡ take (4 * n) (drop (4 * (k + 1)) xs) = words_bytes n (k + 1) xs bytes (omega arith) in
    let cut : drop (4 * k) xs ≡ four xs (4 * k) ++ drop (4 * (k + 1)) xs = grind (arith, drop_more, next) in
    (λ i. word_bytes xs k bytes i ++ rest i)
    ∙ sym (ap (λ (j : ℕ). take j (four xs (4 * k) ++ drop (4 * (k + 1)) xs)) more)
    ∙ sym (ap (take (4 * suc n)) cut)

pub bytes_of-words_of : (n : ℕ) (xs : List ℕ) → AreBytes xs → 4 * n ≤ length xs → bytes_of (words_of n xs) ≡ take (4 * n) xs
bytes_of-words_of n xs bytes fits = words_bytes n 0 xs bytes (omega arith)

-- the 64 bytes of a parent are those of its two values
pub parent_bytes : (xs : List ℕ) → AreBytes xs → length xs ≡ 64 → bytes_of (part_value left xs) ++ bytes_of (part_value right xs) ≡ xs
unfolding part_value
parent_bytes xs bytes whole =
    let near : bytes_of (words_of 8 (take 32 xs)) ≡ take 32 (take 32 xs) =
    bytes_of-words_of 8 (take 32 xs) (AreBytes-take 32 xs bytes) (omega (arith, length-take-le 32 xs (omega arith))) in
    let far : bytes_of (words_of 8 (drop 32 xs)) ≡ take 32 (drop 32 xs) =
    bytes_of-words_of 8 (drop 32 xs) (AreBytes-drop 32 xs bytes) (omega (arith, length-drop 32 xs)) in
    let first : take 32 (take 32 xs) ≡ take 32 xs = take_all 32 (take 32 xs) (omega (arith, length-take-le 32 xs (omega arith))) in
    let second : take 32 (drop 32 xs) ≡ drop 32 xs = take_all 32 (drop 32 xs) (omega (arith, length-drop 32 xs)) in
    (λ i. near i ++ far i) ∙ (λ i. first i ++ second i) ∙ take-append-drop 32 xs
