-- Pieces of an input, and the value that comes before a block.
use Rattle.std.specs.Prelude.{ℕ, zero, suc, ◌+◌, ◌*◌, ◌/◌, List, take, drop}
use Rattle.b3word.specs.Compression.{cv}
use Rattle.b3tree.specs.declared.mode.Mode.{Mode}
use Rattle.b3tree.specs.Chunk.{chunk_input}
use Rattle.b3tree.specs.Modes.{key_words}

-- the n bytes of s from offset `at` on
abbrev pub piece : List ℕ → ℕ → ℕ → List ℕ
piece s at n = take n (drop at s)

-- the chaining value before block k of chunk number i with the bytes s: the key words before the first block,
-- else the value after the block before it
abbrev pub before_block : Mode → ℕ → List ℕ → ℕ → List ℕ
before_block mode i s zero = key_words mode
before_block mode i s (suc k) = cv (chunk_input mode i s k)

-- where lane j begins in a text in pre-order, in which parents stand between the lanes: one after each pair,
-- one more after each four
abbrev pub lane_place : ℕ → ℕ → ℕ → ℕ
lane_place at step j = at + step * j + 64 * (j / 2 + j / 4)
