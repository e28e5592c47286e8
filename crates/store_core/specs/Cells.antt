-- A chunk's cell: 129 words. Word 0 is the chunk's size, words 1 to 128 its bytes, eight a word, little-endian, with
-- zero bytes after the last.
use Rattle.std.specs.Prelude.{ℕ, zero, suc, ◌+◌, ◌*◌, ◌/◌, ◌%◌, List, length, take, drop, slice_index}
use Rattle.std.specs.Int.{w64, from_le_bytes, to_le_bytes}
use Rattle.std.specs.List.{flat_map, range_with_len}

-- word w of the cell of a chunk with these bytes
abbrev pub cell_word : List ℕ → ℕ → ℕ
cell_word bytes zero = length bytes
cell_word bytes (suc w) = from_le_bytes w64 (take 8 (drop (8 * w) bytes))

-- byte k of the words of a cell, and all of its bytes
abbrev pub cell_byte : (ℕ → ℕ) → ℕ → ℕ
cell_byte word k = slice_index (to_le_bytes w64 (word (k / 8 + 1))) (k % 8)

abbrev pub cell_bytes : (ℕ → ℕ) → List ℕ
cell_bytes word = take (word 0) (flat_map (λ w. to_le_bytes w64 (word (w + 1))) (range_with_len 0 128))
