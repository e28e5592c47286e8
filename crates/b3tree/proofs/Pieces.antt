-- Pieces of an input: their words, their blocks, and the subtrees over them.
use Rattle.std.proofs.Common.{◌≡◌, ℕ, zero, suc, ◌+◌, ◌-◌, ◌*◌, ◌/◌, ◌^◌, ◌<◌, ◌≤◌, List, [], ◌∷◌, ◌++◌, length, take, drop, replicate, slice_index, refl, sym, ap, ◌∙◌, add-one, arith, length-drop}
use Rattle.std.specs.Int.{w32, from_le_bytes, IsPowerOfTwo}
use Rattle.std.proofs.lemmas.List.{append-nil, drop-drop, drop-take, get_or-drop, get_or-take, length-take-le, take-take, take_all}
use Rattle.std.proofs.Math.Nat.{mul-le-mul_left}
use Rattle.std.proofs.Math.Seq.{take-add}
use Rattle.b3word.specs.Compression.{cv}
use Rattle.b3tree.specs.declared.mode.Mode.{Mode}
use Rattle.b3tree.specs.Bytes.{word_at, words_of}
use Rattle.b3tree.specs.Chunk.{block, block_input, block_words, chunk_input}
use Rattle.b3tree.specs.Pieces.{before_block, lane_place, piece}
use Rattle.b3tree.specs.Parents.{value_at}
use Rattle.b3tree.specs.Tree.{parent_input, subtree_cv, top_input}
use Rattle.b3tree.proofs.Joining.{pair_top}

pub length-piece : (s : List ℕ) (at n : ℕ) → at + n ≤ length s → length (piece s at n) ≡ n
length-piece s at n fits = length-take-le n (drop at s) (omega (arith, length-drop at s))

-- two pieces side by side
pub piece-append : (s : List ℕ) (at n m : ℕ) → piece s at (n + m) ≡ piece s at n ++ piece s (at + n) m
piece-append s at n m = take-add n m (drop at s) ∙ (λ i. piece s at n ++ take m (drop-drop n at s i))

-- a piece of a piece
pub piece-piece : (s : List ℕ) (at n from m : ℕ) → from + m ≤ n → piece (piece s at n) from m ≡ piece s (at + from) m
piece-piece s at n from m fits =
    let rest : from + (n - from) ≡ n = omega arith in
    (λ i. take m (drop from (take (sym rest i) (drop at s))))
    ∙ (λ i. take m (drop-take from (n - from) (drop at s) i))
    ∙ take-take m (n - from) (drop from (drop at s)) (omega arith)
    ∙ (λ i. take m (drop-drop from at s i))

-- the word at place p
abbrev word_from : List ℕ → ℕ → ℕ
word_from s p = from_le_bytes w32 (slice_index s p ∷ slice_index s (p + 1) ∷ slice_index s (p + 2) ∷ slice_index s (p + 3) ∷ [])

byte-piece : (s : List ℕ) (at n i p : ℕ) → i < n → at + i ≡ p → slice_index (piece s at n) i ≡ slice_index s p
byte-piece s at n i p lt e = get_or-take n (drop at s) i 0 lt ∙ get_or-drop at s i 0 ∙ ap (λ (q : ℕ). slice_index s q) e

word_at-piece : (s : List ℕ) (at n i p : ℕ) → 4 * i + 4 ≤ n → at + 4 * i ≡ p → word_at (piece s at n) i ≡ word_from s p
word_at-piece s at n i p fits e =
    let b0 : slice_index (piece s at n) (4 * i) ≡ slice_index s p = byte-piece s at n (4 * i) p (omega arith) e in
    let b1 : slice_index (piece s at n) (4 * i + 1) ≡ slice_index s (p + 1) = byte-piece s at n (4 * i + 1) (p + 1) (omega arith) (omega arith) in
    let b2 : slice_index (piece s at n) (4 * i + 2) ≡ slice_index s (p + 2) = byte-piece s at n (4 * i + 2) (p + 2) (omega arith) (omega arith) in
    let b3 : slice_index (piece s at n) (4 * i + 3) ≡ slice_index s (p + 3) = byte-piece s at n (4 * i + 3) (p + 3) (omega arith) (omega arith) in
    λ k. from_le_bytes w32 (b0 k ∷ b1 k ∷ b2 k ∷ b3 k ∷ [])

-- the words of two halves of a block
pub words_of-halves : (s : List ℕ) (at : ℕ) → words_of 8 (piece s at 32) ++ words_of 8 (piece s (at + 32) 32) ≡ words_of 16 (piece s at 64)
words_of-halves s at =
    let l : (i : ℕ) → i < 8 → word_at (piece s at 32) i ≡ word_at (piece s at 64) i =
    λ i h. word_at-piece s at 32 i (at + 4 * i) (omega arith) refl ∙ sym (word_at-piece s at 64 i (at + 4 * i) (omega arith) refl) in
    let r : (i j : ℕ) → i < 8 → j ≡ 8 + i → word_at (piece s (at + 32) 32) i ≡ word_at (piece s at 64) j =
    λ i j h e. word_at-piece s (at + 32) 32 i (at + 4 * j) (omega arith) (omega arith) ∙ sym (word_at-piece s at 64 j (at + 4 * j) (omega arith) refl) in
    λ k. l 0 (omega arith) k ∷ l 1 (omega arith) k ∷ l 2 (omega arith) k ∷ l 3 (omega arith) k
    ∷ l 4 (omega arith) k ∷ l 5 (omega arith) k ∷ l 6 (omega arith) k ∷ l 7 (omega arith) k
    ∷ r 0 8 (omega arith) refl k ∷ r 1 9 (omega arith) refl k ∷ r 2 10 (omega arith) refl k ∷ r 3 11 (omega arith) refl k
    ∷ r 4 12 (omega arith) refl k ∷ r 5 13 (omega arith) refl k ∷ r 6 14 (omega arith) refl k ∷ r 7 15 (omega arith) refl k ∷ []

-- a full block has no bytes after its end
pub block_words-full : (s : List ℕ) → length s ≡ 64 → block_words s ≡ words_of 16 s
unfolding block_words
block_words-full s full = (λ i. words_of 16 (s ++ replicate (64 - full i) 0)) ∙ ap (words_of 16) (append-nil s)

-- a block of a whole chunk
pub block-piece : (s : List ℕ) (at k : ℕ) → k < 16 → block (piece s at 1024) k ≡ piece s (at + 64 * k) 64
block-piece s at k lt = piece-piece s at 1024 (64 * k) 64 (omega arith)

pub block_words-piece : (s : List ℕ) (at k : ℕ) → k < 16 → at + 1024 ≤ length s
    → words_of 8 (piece s (at + 64 * k) 32) ++ words_of 8 (piece s (at + 64 * k + 32) 32) ≡ block_words (block (piece s at 1024) k)
block_words-piece s at k lt fits =
    words_of-halves s (at + 64 * k)
    ∙ sym (ap block_words (block-piece s at k lt) ∙ block_words-full (piece s (at + 64 * k) 64) (length-piece s (at + 64 * k) 64 (omega arith)))

-- a block follows the value before it
pub chunk_input-before : (mode : Mode) (i : ℕ) (s : List ℕ) (k : ℕ) → chunk_input mode i s k ≡ block_input mode i s k (before_block mode i s k)
unfolding chunk_input
chunk_input-before mode i s zero = refl
chunk_input-before mode i s (suc k) = refl

-- the value of a block comes before the next
pub before_next : (mode : Mode) (i : ℕ) (s : List ℕ) (k : ℕ) → cv (chunk_input mode i s k) ≡ before_block mode i s (k + 1)
before_next mode i s k = rw add-one refl

pub value_next : (mode : Mode) (i : ℕ) (s : List ℕ) (k : ℕ) (h : List ℕ) → h ≡ before_block mode i s k
    → cv (block_input mode i s k h) ≡ before_block mode i s (k + 1)
value_next mode i s k h at =
    (λ j. cv (block_input mode i s k (at j))) ∙ ap cv (sym (chunk_input-before mode i s k)) ∙ before_next mode i s k

-- the parent of two whole subtrees of n chunks, side by side
pub top_parent : (mode : Mode) (first : ℕ) (s : List ℕ) (at n : ℕ) → IsPowerOfTwo n → at + 1024 * (n + n) ≤ length s
    → parent_input mode (subtree_cv mode first (piece s at (1024 * n))) (subtree_cv mode (first + n) (piece s (at + 1024 * n) (1024 * n)))
    ≡ top_input mode first (piece s at (1024 * (n + n)))
top_parent mode first s at n power fits =
    let k : ℕ = power.0 in
    let e : n ≡ 2 ^ k = power.1 in
    let a : List ℕ = piece s at (1024 * n) in
    let b : List ℕ = piece s (at + 1024 * n) (1024 * n) in
    let la : length a ≡ 1024 * n = length-piece s at (1024 * n) (omega arith) in
    let lb : length b ≡ 1024 * n = length-piece s (at + 1024 * n) (1024 * n) (omega arith) in
    let both : 1024 * (n + n) ≡ 1024 * n + 1024 * n = omega arith in
    (λ i. parent_input mode (subtree_cv mode first a) (subtree_cv mode (first + e i) b))
    ∙ sym (pair_top mode k first a b (la ∙ ap (λ (m : ℕ). 1024 * m) e) (lb ∙ ap (λ (m : ℕ). 1024 * m) e))
    ∙ ap (top_input mode first) (sym (ap (λ (m : ℕ). piece s at m) both ∙ piece-append s at (1024 * n) (1024 * n)))

pub valued_parent : (mode : Mode) (first : ℕ) (s : List ℕ) (at n : ℕ) → IsPowerOfTwo n → at + 1024 * (n + n) ≤ length s
    → cv (parent_input mode (subtree_cv mode first (piece s at (1024 * n))) (subtree_cv mode (first + n) (piece s (at + 1024 * n) (1024 * n))))
    ≡ subtree_cv mode first (piece s at (1024 * (n + n)))
valued_parent mode first s at n power fits = ap cv (top_parent mode first s at n power fits)

-- half of a power of two above one
pub IsPowerOfTwo_half : (n : ℕ) → IsPowerOfTwo n → 1 < n → IsPowerOfTwo (n / 2) × (n / 2 + n / 2 ≡ n)
IsPowerOfTwo_half n (zero, e) more = absurd (omega arith)
IsPowerOfTwo_half n (suc k, e) more = ((k, omega arith), omega arith)

pub IsPowerOfTwo_double : (n : ℕ) → IsPowerOfTwo n → IsPowerOfTwo (n + n)
IsPowerOfTwo_double n (k, e) = (suc k, omega arith)

-- the parent of two neighbours that stand so many chunks on
pub paired : (mode : Mode) (first : ℕ) (s l r : List ℕ) (m a b n : ℕ) → IsPowerOfTwo m → 1024 * (a + (m + m)) ≤ length s → b ≡ a + m → n ≡ m + m
    → l ≡ value_at mode first s m a → r ≡ value_at mode first s m b → cv (parent_input mode l r) ≡ value_at mode first s n a
paired mode first s l r m a b n power fits place twice el er =
    let number : first + b ≡ first + a + m = omega arith in
    let at : 1024 * b ≡ 1024 * a + 1024 * m = omega arith in
    (λ i. cv (parent_input mode (el i) (er i)))
    ∙ (λ i. cv (parent_input mode (value_at mode first s m a) (subtree_cv mode (number i) (piece s (at i) (1024 * m)))))
    ∙ valued_parent mode (first + a) s (1024 * a) m power (omega arith)
    ∙ ap (λ (k : ℕ). value_at mode first s k a) (sym twice)

-- eight subtrees of n chunks side by side, joined in two steps and a last compression: of each step the values of its subtrees
pub joined_eight : (mode : Mode) (first : ℕ) (s : List ℕ) (n : ℕ) (c p q : ℕ → List ℕ) → IsPowerOfTwo n → length s ≡ 8192 * n
    → ((j : ℕ) → j < 8 → c j ≡ value_at mode first s n (n * j))
    → ((j : ℕ) → j < 4 → p j ≡ cv (parent_input mode (c (2 * j)) (c (2 * j + 1))))
    → ((j : ℕ) → j < 4 → q j ≡ cv (parent_input mode (p (2 * j)) (p (2 * j + 1))))
    → parent_input mode (q 0) (q 1) ≡ top_input mode first s
joined_eight mode first s n c p q power size each to_p to_q =
    let two : IsPowerOfTwo (n + n) = IsPowerOfTwo_double n power in
    let four : IsPowerOfTwo (n + n + (n + n)) = IsPowerOfTwo_double (n + n) two in
    let p0 = to_p 0 (omega arith) ∙ paired mode first s (c 0) (c 1) n (n * 0) (n * 1) (n + n) power (omega arith) (omega arith) refl (each 0 (omega arith)) (each 1 (omega arith)) in
    let p1 = to_p 1 (omega arith) ∙ paired mode first s (c 2) (c 3) n (n * 2) (n * 3) (n + n) power (omega arith) (omega arith) refl (each 2 (omega arith)) (each 3 (omega arith)) in
    let p2 = to_p 2 (omega arith) ∙ paired mode first s (c 4) (c 5) n (n * 4) (n * 5) (n + n) power (omega arith) (omega arith) refl (each 4 (omega arith)) (each 5 (omega arith)) in
    let p3 = to_p 3 (omega arith) ∙ paired mode first s (c 6) (c 7) n (n * 6) (n * 7) (n + n) power (omega arith) (omega arith) refl (each 6 (omega arith)) (each 7 (omega arith)) in
    let q0 = to_q 0 (omega arith) ∙ paired mode first s (p 0) (p 1) (n + n) (n * 0) (n * 2) (n + n + (n + n)) two (omega arith) (omega arith) refl p0 p1 in
    let q1 = to_q 1 (omega arith) ∙ paired mode first s (p 2) (p 3) (n + n) (n * 4) (n * 6) (n + n + (n + n)) two (omega arith) (omega arith) refl p2 p3 in
    let m : ℕ = n + n + (n + n) in
    let number : first + n * 0 ≡ first = omega arith in
    let start : 1024 * (n * 0) ≡ 0 = omega arith in
    let middle : first + n * 4 ≡ first + m = omega arith in
    let halfway : 1024 * (n * 4) ≡ 0 + 1024 * m = omega arith in
    (λ i. parent_input mode (q0 i) (q1 i))
    ∙ (λ i. parent_input mode (subtree_cv mode (number i) (piece s (start i) (1024 * m))) (subtree_cv mode (middle i) (piece s (halfway i) (1024 * m))))
    ∙ top_parent mode first s 0 m four (omega arith)
    ∙ ap (top_input mode first) (take_all (1024 * (m + m)) s (omega arith))

-- n bytes of a lane end within the text where those of the last lane do
pub lane_fits : (at step j n len : ℕ) → j ≤ 7 → at + step * 7 + 256 + n ≤ len → lane_place at step j + n ≤ len
lane_fits at step j n len h fits = let within : step * j ≤ step * 7 = mul-le-mul_left step h in omega arith
