-- The chunks of a short input: with zeros after it, in lanes, and in its parts.
use Rattle.std.proofs.Common.{◌≡◌, ℕ, zero, suc, ◌+◌, ◌-◌, ◌*◌, ◌<◌, ◌≤◌, List, [], ◌∷◌, ◌++◌, length, take, drop, replicate, refl, sym, ap, subst, ◌∙◌, arith, inl, inr, length-append, length-drop, length-take}
use Rattle.std.proofs.lemmas.Bool.{cases_lt}
use Rattle.std.proofs.lemmas.List.{drop-drop, drop-replicate, length-replicate, length-take-le, take-replicate}
use Rattle.b3word.specs.Compression.{cv}
use Rattle.b3tree.specs.declared.mode.Mode.{Mode}
use Rattle.b3tree.specs.Bytes.{words_of}
use Rattle.b3tree.specs.Chunk.{block, block_count, block_words, chunk_input}
use Rattle.b3tree.specs.Parents.{AreChunkValues}
use Rattle.b3tree.specs.Pieces.{before_block, piece}
use Rattle.b3tree.specs.Tree.{subtree_cv}
use Rattle.b3tree.proofs.Pieces.{block-piece, block_words-full, length-piece, piece-piece}
use Rattle.b3tree.proofs.TopInput.{top_input-chunk}

piece_nil : (p n : ℕ) → piece [] p n ≡ []
piece_nil zero zero = refl
piece_nil zero (suc n) = refl
piece_nil (suc p) zero = refl
piece_nil (suc p) (suc n) = refl

-- a piece of a list and the zeros after it
padded_piece : (s : List ℕ) (z p n : ℕ) → p + n ≤ length s + z
    → piece (s ++ replicate z 0) p n ≡ piece s p n ++ replicate (n - length (piece s p n)) 0
padded_piece [] z p n fits =
    let none : piece [] p n ≡ [] = piece_nil p n in
    let empty : length (piece [] p n) ≡ 0 = ap length none in
    let all : n ≡ n - length (piece [] p n) = omega arith in
    ap (take n) (drop-replicate p z 0)
    ∙ take-replicate n (z - p) 0 (omega arith)
    ∙ (λ i. sym none i ++ replicate (all i) 0)
padded_piece (x ∷ xs) z zero zero fits = refl
padded_piece (x ∷ xs) z zero (suc n) fits =
    let less : suc n - suc (length (take n xs)) ≡ n - length (take n xs) = omega arith in
    ap (λ (t : List ℕ). x ∷ t) (padded_piece xs z zero n (omega arith))
    ∙ (λ i. x ∷ (take n xs ++ replicate (sym less i) 0))
padded_piece (x ∷ xs) z (suc p) n fits = padded_piece xs z p n (omega arith)

-- the words of a block, with more zeros after the chunk than the block has room for
pub block_words-padded : (s : List ℕ) (z at k : ℕ) → k < 16 → at + 1024 ≤ length s + z
    → block_words (block (piece (s ++ replicate z 0) at 1024) k) ≡ block_words (block (piece s at 1024) k)
unfolding block_words
block_words-padded s z at k lt fits =
    let p : ℕ = at + 64 * k in
    let all : List ℕ = s ++ replicate z 0 in
    let size : length all ≡ length s + z = length-append s (replicate z 0) ∙ ap (λ (n : ℕ). length s + n) (length-replicate z 0) in
    ap block_words (block-piece all at k lt)
    ∙ block_words-full (piece all p 64) (length-piece all p 64 (omega arith))
    ∙ ap (words_of 16) (padded_piece s z p 64 (omega arith))
    ∙ sym (ap block_words (block-piece s at k lt))

-- what holds of the last lane and of those before it
pub up_to_last : {A : Type 0} (f g : ℕ → A) (last : ℕ) → f last ≡ g last → ((j : ℕ) → j < last → f j ≡ g j) → (j : ℕ) → j ≤ last → f j ≡ g j
up_to_last f g last at below j le = elim (cases_lt j last) [
  | inl lt ↦ below j lt
  | inr ge ↦ let e : last ≡ j = omega arith in subst (λ (i : ℕ). f i ≡ g i) e at
]

-- chunks before the last are whole
pub length-chunk : (s : List ℕ) (j last n : ℕ) → length s ≡ 1024 * last + n → j < last → length (piece s (1024 * j) 1024) ≡ 1024
length-chunk s j last n size lt = length-piece s (1024 * j) 1024 (omega arith)

pub length-last : (s : List ℕ) (last n : ℕ) → length s ≡ 1024 * last + n → n ≤ 1024 → length (piece s (1024 * last) 1024) ≡ n
length-last s last n size few = omega (arith, length-take 1024 (drop (1024 * last) s), length-drop (1024 * last) s)

-- a block of a whole chunk is full
pub length-block : (s : List ℕ) (j last n k : ℕ) → length s ≡ 1024 * last + n → j < last → k < 16 → length (block (piece s (1024 * j) 1024) k) ≡ 64
length-block s j last n k size lt below =
    ap length (block-piece s (1024 * j) k below) ∙ length-piece s (1024 * j + 64 * k) 64 (omega arith)

-- what comes after the last block
pub before_end : (mode : Mode) (i : ℕ) (s : List ℕ) (n : ℕ) → n ≡ block_count (length s) → length s ≤ 1024
    → before_block mode i s n ≡ subtree_cv mode i s
before_end mode i s zero e few = absurd (omega arith)
before_end mode i s (suc k) e few =
    let last : k ≡ block_count (length s) - 1 = omega arith in
    ap (λ (n : ℕ). cv (chunk_input mode i s n)) last ∙ sym (ap cv (top_input-chunk mode i s few))

-- the values of the chunks of the first m, and of the others
pub values-front : (mode : Mode) (first : ℕ) (s : List ℕ) (m : ℕ) (v : ℕ → List ℕ) → 1024 * m ≤ length s → AreChunkValues mode first s v
    → AreChunkValues mode first (take (1024 * m) s) v
values-front mode first s m v fits are = λ j h.
    let size : length (take (1024 * m) s) ≡ 1024 * m = length-take-le (1024 * m) s fits in
    let on : 0 + 1024 * j ≡ 1024 * j = omega arith in
    are j (omega arith)
    ∙ (λ i. subtree_cv mode (first + j) (piece s (sym on i) 1024))
    ∙ sym (ap (subtree_cv mode (first + j)) (piece-piece s 0 (1024 * m) (1024 * j) 1024 (omega arith)))

pub values-back : (mode : Mode) (first : ℕ) (s : List ℕ) (m : ℕ) (v : ℕ → List ℕ) → 1024 * m ≤ length s → AreChunkValues mode first s v
    → AreChunkValues mode (first + m) (drop (1024 * m) s) (λ j. v (m + j))
values-back mode first s m v fits are = λ j h.
    let size : length (drop (1024 * m) s) ≡ length s - 1024 * m = length-drop (1024 * m) s in
    let number : first + (m + j) ≡ first + m + j = omega arith in
    let place : 1024 * (m + j) ≡ 1024 * m + 1024 * j = omega arith in
    are (m + j) (omega arith)
    ∙ (λ i. subtree_cv mode (number i) (piece s (place i) 1024))
    ∙ (λ i. subtree_cv mode (first + m + j) (take 1024 (sym (drop-drop (1024 * j) (1024 * m) s) i)))
