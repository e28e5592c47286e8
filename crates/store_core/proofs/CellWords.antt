-- Cells that have all their words have the bytes.
use Rattle.std.proofs.lemmas.Bool.Decides.{nat_tests}
use Rattle.std.proofs.Common.{◌≡◌, ℕ, zero, suc, ◌+◌, ◌-◌, ◌*◌, ◌/◌, ◌%◌, ◌<◌, ◌≤◌, min, nat_lt, if◌then◌else◌, List, [], ◌∷◌, length, take, drop, get_or, slice_get, None, Some, refl, ap, ◌∙◌, arith, inl, inr, length-append, length-take, get_or-take, get_or-drop, ext_get_or, flat_map}
use Rattle.std.specs.Int.{w64, from_le_bytes, to_le_bytes}
use Rattle.std.specs.List.{range_with_len}
use Rattle.std.proofs.lemmas.Bool.{cases_lt, le-ltb, lt-ltb}
use Rattle.std.proofs.lemmas.List.{get_or_append_left, get_or-append_right}
use Rattle.std.proofs.lemmas.Nat.{le_bytes_8}
use Rattle.std.proofs.lemmas.Option.{slice_get-get_or, slice_get_past}
use Rattle.b3tree.specs.Valid.{AreBytes}
use Rattle.b3tree.proofs.BlockWords.{AreBytes-drop, AreBytes-take}
use Rattle.store_core.specs.Cells.{cell_byte, cell_bytes, cell_word}

-- the first eight bytes, zeros where there are none
abbrev padded : List ℕ → List ℕ
padded xs = get_or xs 0 0 ∷ get_or xs 1 0 ∷ get_or xs 2 0 ∷ get_or xs 3 0 ∷ get_or xs 4 0 ∷ get_or xs 5 0 ∷ get_or xs 6 0 ∷ get_or xs 7 0 ∷ []

padded_at : (xs : List ℕ) (k : ℕ) → k < 8 → get_or (padded xs) k 0 ≡ get_or xs k 0
padded_at xs k h = grind (arith, nat_tests)

padded_small : (xs : List ℕ) → AreBytes xs → (k : ℕ) → get_or (padded xs) k 0 < 256
padded_small xs valid zero = valid.at 0
padded_small xs valid (suc zero) = valid.at 1
padded_small xs valid (suc (suc zero)) = valid.at 2
padded_small xs valid (suc (suc (suc zero))) = valid.at 3
padded_small xs valid (suc (suc (suc (suc zero)))) = valid.at 4
padded_small xs valid (suc (suc (suc (suc (suc zero))))) = valid.at 5
padded_small xs valid (suc (suc (suc (suc (suc (suc zero)))))) = valid.at 6
padded_small xs valid (suc (suc (suc (suc (suc (suc (suc zero))))))) = valid.at 7
padded_small xs valid (suc (suc (suc (suc (suc (suc (suc (suc k)))))))) = omega arith

-- a number made of bytes gives them back
number_bytes : (xs : List ℕ) → AreBytes xs → to_le_bytes w64 (from_le_bytes w64 xs) ≡ padded xs
number_bytes xs valid = le_bytes_8 (padded xs) (from_le_bytes w64 xs) refl (padded_small xs valid) refl

-- byte k of word w of a chunk's cell
word_byte : (bytes : List ℕ) (w k : ℕ) → AreBytes bytes → k < 8 → get_or (to_le_bytes w64 (cell_word bytes (suc w))) k 0 ≡ get_or bytes (8 * w + k) 0
word_byte bytes w k valid below =
    ap (λ (xs : List ℕ). get_or xs k 0) (number_bytes (take 8 (drop (8 * w) bytes)) (AreBytes-take 8 (drop (8 * w) bytes) (AreBytes-drop (8 * w) bytes valid)))
    ∙ padded_at (take 8 (drop (8 * w) bytes)) k below
    ∙ get_or-take 8 (drop (8 * w) bytes) k 0 below
    ∙ get_or-drop (8 * w) bytes k 0

-- lists of eight, joined
eights_length : (f : ℕ → List ℕ) → ((w : ℕ) → length (f w) ≡ 8) → (a n : ℕ) → length (flat_map f (range_with_len a n)) ≡ 8 * n
eights_length f eight a zero = refl
eights_length f eight a (suc n) = grind (arith, nat_tests, length-append, eights_length f eight (a + 1) n)

eights_at : (f : ℕ → List ℕ) → ((w : ℕ) → length (f w) ≡ 8) → (a n i : ℕ) → i < 8 * n
    → get_or (flat_map f (range_with_len a n)) i 0 ≡ get_or (f (a + i / 8)) (i % 8) 0
eights_at f eight a zero i h = absurd (omega arith)
eights_at f eight a (suc n) i h = grind (arith, nat_tests, get_or_append_left, get_or-append_right, eights_at f eight (a + 1) n (i - 8))

-- all bytes of a cell's words
abbrev cell_all : (ℕ → ℕ) → List ℕ
cell_all word = flat_map (λ w. to_le_bytes w64 (word (w + 1))) (range_with_len 0 128)

cell_all-length : (word : ℕ → ℕ) → length (cell_all word) ≡ 1024
cell_all-length word = eights_length (λ w. to_le_bytes w64 (word (w + 1))) (λ w. refl) 0 128

cell_all-at : (word : ℕ → ℕ) (k : ℕ) → k < 1024 → get_or (cell_all word) k 0 ≡ cell_byte word k
cell_all-at word k h =
    let word_is : 0 + k / 8 ≡ k / 8 = omega arith in
    eights_at (λ w. to_le_bytes w64 (word (w + 1))) (λ w. refl) 0 128 k (omega (arith, h))
    ∙ ap (λ (w : ℕ). get_or (to_le_bytes w64 (word (w + 1))) (k % 8) 0) word_is

-- the byte at a place of a cell
pub cell_get : (word : ℕ → ℕ) (k : ℕ) → k < 1024 → slice_get (cell_bytes word) k ≡ (if nat_lt k (word 0) then Some (cell_byte word k) else None)
cell_get word k h =
    let size : length (take (word 0) (cell_all word)) ≡ min (word 0) 1024 = length-take (word 0) (cell_all word) ∙ ap (λ (n : ℕ). min (word 0) n) (cell_all-length word) in
    elim (cases_lt k (word 0)) [
      | inl inside ↦ rw (lt-ltb k (word 0) inside) (slice_get-get_or (take (word 0) (cell_all word)) k 0 (omega (arith, size, inside, h))
          ∙ ap (λ (x : ℕ). Some x) (get_or-take (word 0) (cell_all word) k 0 inside ∙ cell_all-at word k h))
      | inr past ↦ rw (le-ltb k (word 0) past) (slice_get_past (take (word 0) (cell_all word)) k (omega (arith, size, past)))
    ]

-- a cell with all words of a chunk has its bytes
pub cell_is : (word : ℕ → ℕ) (bytes : List ℕ) → AreBytes bytes → length bytes ≤ 1024 → ((w : ℕ) → w < 129 → word w ≡ cell_word bytes w)
    → cell_bytes word ≡ bytes
cell_is word bytes valid fits all =
    let first : word 0 ≡ length bytes = all 0 (omega arith) in
    let size : length (take (word 0) (cell_all word)) ≡ min (word 0) 1024 = length-take (word 0) (cell_all word) ∙ ap (λ (n : ℕ). min (word 0) n) (cell_all-length word) in
    ext_get_or 0 (cell_bytes word) bytes (omega (arith, size, first, fits)) (λ i h.
    let inside : i < word 0 = omega (arith, h, size) in
    let place : 8 * (i / 8) + i % 8 ≡ i = omega arith in
    let next : i / 8 + 1 ≡ suc (i / 8) = omega arith in
    get_or-take (word 0) (cell_all word) i 0 inside ∙ cell_all-at word i (omega (arith, h, size))
    ∙ ap (λ (n : ℕ). get_or (to_le_bytes w64 n) (i % 8) 0) (all (i / 8 + 1) (omega (arith, inside, first, fits)))
    ∙ ap (λ (w : ℕ). get_or (to_le_bytes w64 (cell_word bytes w)) (i % 8) 0) next
    ∙ word_byte bytes (i / 8) (i % 8) valid (omega arith)
    ∙ ap (λ (k : ℕ). get_or bytes k 0) place)
