-- Words as bytes, little-endian (BLAKE3 paper, 2).
use Rattle.std.specs.Prelude.{ℕ, ◌+◌, ◌*◌, List, [], ◌∷◌, map, slice_index}
use Rattle.std.specs.List.{flat_map, range_with_len}
use Rattle.std.specs.Int.{w32, from_le_bytes, to_le_bytes}

-- word i of the bytes
abbrev pub word_at : List ℕ → ℕ → ℕ
word_at bytes i = from_le_bytes w32
    (slice_index bytes (4 * i) ∷ slice_index bytes (4 * i + 1) ∷ slice_index bytes (4 * i + 2) ∷ slice_index bytes (4 * i + 3) ∷ [])

-- the first n words of the bytes
abbrev pub words_of : ℕ → List ℕ → List ℕ
words_of n bytes = map (word_at bytes) (range_with_len 0 n)

-- the bytes of words
abbrev pub bytes_of : List ℕ → List ℕ
bytes_of words = flat_map (to_le_bytes w32) words
