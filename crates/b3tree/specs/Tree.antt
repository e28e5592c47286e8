-- The tree over the chunks of an input (BLAKE3 paper, 2.1 and 2.5).
use Rattle.std.specs.Prelude.{◌≡◌, ℕ, zero, suc, ◌+◌, ◌*◌, ◌/◌, ◌^◌, ◌<◌, ◌≤◌, List, ◌++◌, length, take, drop, nat_le, nat_lt, bit_or, if◌then◌else◌}
use Rattle.b3word.specs.declared.input.Input.{Input}
use Rattle.b3word.specs.Compression.{cv}
use Rattle.b3tree.specs.declared.mode.Mode.{Mode}
use Rattle.b3tree.specs.Flags.{parent}
use Rattle.b3tree.specs.Modes.{key_words, mode_flags}
use Rattle.b3tree.specs.Chunk.{last_chunk_input}

-- l is how many of n bytes, more than one chunk, the left subtree has: the largest number of the
-- form 1024 * 2 ^ k that is below n
pub record IsLeftLen (n l : ℕ) : Type 0 where
  pub form : (k : ℕ) × (l ≡ 1024 * 2 ^ k)
  pub below : l < n
  pub largest : (k : ℕ) → 1024 * 2 ^ k < n → 1024 * 2 ^ k ≤ l

-- the largest of 1024 * 2 ^ 1, .., 1024 * 2 ^ k that is below n, or else 1024
unfoldable pub largest_below : ℕ → ℕ → ℕ
largest_below n zero = 1024
largest_below n (suc k) = if nat_lt (1024 * 2 ^ suc k) n then 1024 * 2 ^ suc k else largest_below n k

-- the function that `IsLeftLen` describes
unfoldable pub left_len : ℕ → ℕ
left_len n = largest_below n n

-- the input of a parent of two subtrees with these chaining values
abbrev pub parent_input : Mode → List ℕ → List ℕ → Input
parent_input mode left right = record {
  h = key_words mode;
  m = left ++ right;
  t = 0;
  b = 64;
  d = bit_or (mode_flags mode) parent;
}

-- `top_input` in a tree of at most `levels` levels of parents
unfoldable pub top_within : ℕ → Mode → ℕ → List ℕ → Input
top_within zero mode first s = last_chunk_input mode first s
top_within (suc levels) mode first s =
    let l = left_len (length s) in
    if nat_le (length s) 1024 then last_chunk_input mode first s
    else parent_input mode (cv (top_within levels mode first (take l s)))
    (cv (top_within levels mode (first + l / 1024) (drop l s)))

-- the last compression of the tree over the bytes s, whose first chunk has the number `first`, before
-- it is known whether it is the root: a chunk's, or the parent's of the trees over the left part and
-- the rest. A tree has fewer levels of parents than bytes.
unfoldable pub top_input : Mode → ℕ → List ℕ → Input
top_input mode first s = top_within (length s / 1024) mode first s

-- the chaining value of that tree as a subtree of a larger one
abbrev pub subtree_cv : Mode → ℕ → List ℕ → List ℕ
subtree_cv mode first s = cv (top_input mode first s)
