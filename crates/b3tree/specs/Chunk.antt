-- The compressions of one chunk (BLAKE3 paper, 2.4). A byte is a number below 256, and a chunk a list
-- of at most 1024 bytes.
use Rattle.std.specs.Prelude.{ℕ, zero, suc, ◌+◌, ◌-◌, ◌*◌, ◌/◌, ◌==◌, List, ◌++◌, length, max, take, drop, replicate, bit_or, if◌then◌else◌}
use Rattle.b3word.specs.declared.input.Input.{Input}
use Rattle.b3word.specs.Compression.{cv}
use Rattle.b3tree.specs.declared.mode.Mode.{Mode}
use Rattle.b3tree.specs.Bytes.{words_of}
use Rattle.b3tree.specs.Flags.{chunk_start, chunk_end}
use Rattle.b3tree.specs.Modes.{key_words, mode_flags}

-- how many blocks a chunk of n bytes has: no bytes are one empty block
abbrev pub block_count : ℕ → ℕ
block_count n = max 1 ((n + 63) / 64)

-- block k of the chunk s: 64 bytes, or fewer at its end
abbrev pub block : List ℕ → ℕ → List ℕ
block s k = take 64 (drop (64 * k) s)

-- a block with zero bytes after its end, 64 bytes in all
abbrev pub padded : List ℕ → List ℕ
padded bytes = bytes ++ replicate (64 - length bytes) 0

-- the 16 words of a block
unfoldable pub block_words : List ℕ → List ℕ
block_words bytes = words_of 16 (padded bytes)

-- the flags of block k of n: CHUNK_START on the first, CHUNK_END on the last
abbrev pub block_flags : Mode → ℕ → ℕ → ℕ
block_flags mode n k =
    bit_or (bit_or (mode_flags mode) (if k == 0 then chunk_start else 0)) (if k + 1 == n then chunk_end else 0)

-- the input of block k of the chunk s with number i, after the chaining value h
abbrev pub block_input : Mode → ℕ → List ℕ → ℕ → List ℕ → Input
block_input mode i s k h = record {
  h = h;
  m = block_words (block s k);
  t = i;
  b = length (block s k);
  d = block_flags mode (block_count (length s)) k;
}

-- the input of block k: the key words come before the first block, and before each later one the
-- chaining value of the block before it
unfoldable pub chunk_input : Mode → ℕ → List ℕ → ℕ → Input
chunk_input mode i s zero = block_input mode i s 0 (key_words mode)
chunk_input mode i s (suc k) = block_input mode i s (suc k) (cv (chunk_input mode i s k))

-- the input of a chunk's last block
abbrev pub last_chunk_input : Mode → ℕ → List ℕ → Input
last_chunk_input mode i s = chunk_input mode i s (block_count (length s) - 1)
