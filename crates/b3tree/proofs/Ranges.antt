-- Each compression of a tree is one of words, so its chaining value has them, and bytes keep it whole.
use Rattle.std.proofs.Common.{◌≡◌, ℕ, zero, suc, ◌+◌, ◌*◌, ◌/◌, ◌^◌, ◌<◌, ◌==◌, Bool, List, [], ◌∷◌, take, drop, get_or, length, bit_or, if◌then◌else◌, true, false, refl, sym, subst, ap, ◌∙◌, arith, lit<, inl, inr, length-take}
use Rattle.std.proofs.lemmas.Bool.{cases_lt}
use Rattle.std.proofs.lemmas.List.{ext_get_or}
use Rattle.std.proofs.lemmas.List.FromFn.{get_or-map-range_with_len, length-map-range_with_len}
use Rattle.std.proofs.lemmas.Nat.{from_le_bytes-to_le_bytes_4, or_of_32}
use Rattle.b3word.specs.declared.input.Input.{Input}
use Rattle.b3word.specs.Compression.{cv, out}
use Rattle.b3word.specs.Words.{AreWords}
use Rattle.b3word.proofs.Ranges.{IsInput, cv_words, length-cv}
use Rattle.b3tree.specs.declared.mode.Mode.{Mode}
use Rattle.b3tree.specs.Bytes.{bytes_of, word_at, words_of}
use Rattle.b3tree.specs.Flags.{chunk_end, chunk_start, parent, root}
use Rattle.b3tree.specs.Chunk.{block_count, block_flags, block_input, chunk_input}
use Rattle.b3tree.specs.Hashing.{hash, root_hash, rooted}
use Rattle.b3tree.specs.Tree.{IsLeftLen, left_len, parent_input, subtree_cv, top_input}
use Rattle.b3tree.specs.Valid.{IsKeyed}
use Rattle.b3tree.proofs.LeftLen.{left_len-IsLeftLen}
use Rattle.b3tree.proofs.TopInput.{top_input-chunk, top_input-parent}
use Rattle.b3tree.proofs.Words.{bytes_of-take}

-- a flag or none
flag_word : (test : Bool) (flag : ℕ) → flag < 2 ^ 32 → (if test then flag else 0) < 2 ^ 32
flag_word true flag small = small
flag_word false flag small = lit< tt

block_flags-word : (mode : Mode) (n k : ℕ) → IsKeyed mode → block_flags mode n k < 2 ^ 32
block_flags-word mode n k keyed =
    or_of_32 (bit_or mode.domain (if k == 0 then chunk_start else 0)) (if k + 1 == n then chunk_end else 0)
    (or_of_32 mode.domain (if k == 0 then chunk_start else 0) keyed.flags (flag_word (k == 0) chunk_start (lit< tt)))
    (flag_word (k + 1 == n) chunk_end (lit< tt))

block_input-IsInput : (mode : Mode) (i : ℕ) (s : List ℕ) (k : ℕ) (h : List ℕ) → IsKeyed mode → i < 2 ^ 64 → AreWords h → IsInput (block_input mode i s k h)
block_input-IsInput mode i s k h keyed number words = record {
  h = words;
  t = number;
  b = omega (arith, length-take 64 (drop (64 * k) s));
  d = block_flags-word mode (block_count (length s)) k keyed;
}

pub chunk_input-IsInput : (mode : Mode) (i : ℕ) (s : List ℕ) (k : ℕ) → IsKeyed mode → i < 2 ^ 64 → IsInput (chunk_input mode i s k)
unfolding chunk_input
chunk_input-IsInput mode i s zero keyed number = block_input-IsInput mode i s 0 mode.key keyed number keyed.key
chunk_input-IsInput mode i s (suc k) keyed number =
    block_input-IsInput mode i s (suc k) (cv (chunk_input mode i s k)) keyed number
    (cv_words (chunk_input mode i s k) (chunk_input-IsInput mode i s k keyed number))

pub parent_input-IsInput : (mode : Mode) (left right : List ℕ) → IsKeyed mode → IsInput (parent_input mode left right)
parent_input-IsInput mode left right keyed = record {
  h = keyed.key;
  t = lit< tt;
  b = lit< tt;
  d = or_of_32 mode.domain parent keyed.flags (lit< tt);
}

pub rooted-IsInput : (x : Input) → IsInput x → IsInput (rooted x)
rooted-IsInput x is = record { h = is.h; t = is.t; b = is.b; d = or_of_32 x.d root is.d (lit< tt) }

pub top_input-IsInput : (mode : Mode) (first : ℕ) (s : List ℕ) → IsKeyed mode → first < 2 ^ 64 → IsInput (top_input mode first s)
top_input-IsInput mode first s keyed number = elim (cases_lt 1024 (length s)) [
  | inr one ↦
      subst IsInput (sym (top_input-chunk mode first s one)) (chunk_input-IsInput mode first s _ keyed number)
  | inl more ↦
      let l : ℕ = left_len (length s) in
      let is : IsLeftLen (length s) l = left_len-IsLeftLen (length s) more in
      subst IsInput (sym (top_input-parent mode first s l is more))
      (parent_input-IsInput mode (subtree_cv mode first (take l s)) (subtree_cv mode (first + l / 1024) (drop l s)) keyed)
]

-- a word from the bytes of words
word_at_later : (w : ℕ) (ws : List ℕ) (i : ℕ) → word_at (bytes_of (w ∷ ws)) (suc i) ≡ word_at (bytes_of ws) i
word_at_later w ws i =
    let a : 4 * suc i ≡ suc (suc (suc (suc (4 * i)))) = omega arith in
    let b : 4 * suc i + 1 ≡ suc (suc (suc (suc (4 * i + 1)))) = omega arith in
    let c : 4 * suc i + 2 ≡ suc (suc (suc (suc (4 * i + 2)))) = omega arith in
    let d : 4 * suc i + 3 ≡ suc (suc (suc (suc (4 * i + 3)))) = omega arith in
    rw (b, c, d, a) refl

word_at-bytes_of : (ws : List ℕ) (i : ℕ) → AreWords ws → i < length ws → word_at (bytes_of ws) i ≡ get_or ws i 0
word_at-bytes_of [] i words below = absurd (omega arith)
word_at-bytes_of (w ∷ ws) zero words below = from_le_bytes-to_le_bytes_4 w (words.at 0)
word_at-bytes_of (w ∷ ws) (suc i) words below =
    word_at_later w ws i ∙ word_at-bytes_of ws i (record { at = λ k. words.at (suc k) }) (omega arith)

-- the words of the bytes of words
pub words_of-bytes_of : (n : ℕ) (ws : List ℕ) → AreWords ws → length ws ≡ n → words_of n (bytes_of ws) ≡ ws
words_of-bytes_of n ws words many =
    ext_get_or 0 (words_of n (bytes_of ws)) ws (length-map-range_with_len (word_at (bytes_of ws)) 0 n ∙ sym many)
    (λ i below. let low : i < n = omega (arith, length-map-range_with_len (word_at (bytes_of ws)) 0 n) in
    get_or-map-range_with_len (word_at (bytes_of ws)) 0 n i i 0 low (omega arith) ∙ word_at-bytes_of ws i words (omega arith))

-- a chaining value as bytes and back
pub words_of-cv : (x : Input) → IsInput x → words_of 8 (bytes_of (cv x)) ≡ cv x
words_of-cv x is = words_of-bytes_of 8 (cv x) (cv_words x is) (length-cv x)

pub words_of-root_hash : (x : Input) → IsInput x → words_of 8 (root_hash x) ≡ cv x
words_of-root_hash x is = ap (words_of 8) (bytes_of-take 8 (out x)) ∙ words_of-cv x is

-- the words of a hash
pub words_of-hash : (mode : Mode) (s : List ℕ) → IsKeyed mode → words_of 8 (hash mode s) ≡ cv (rooted (top_input mode 0 s))
unfolding hash
words_of-hash mode s keyed =
    words_of-root_hash (rooted (top_input mode 0 s)) (rooted-IsInput (top_input mode 0 s) (top_input-IsInput mode 0 s keyed (lit< tt)))
