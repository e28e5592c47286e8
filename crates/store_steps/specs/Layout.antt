-- The order of a store's words: the held words of all groups, their claim words, the chunks' cells and the
-- length word; then for parents: the held words of all groups of boundaries, their claim words and the parents'
-- cells.
use Rattle.std.specs.Prelude.{ℕ, ◌+◌, ◌*◌, List, Option, None, Some, slice_index, take, drop}
use Rattle.std.specs.Int.{w64, from_le_bytes}
use Rattle.holders.specs.declared.fixed.Fixed.{Fixed}
use Rattle.holders.specs.Room.{groups}

abbrev pub claim_place : Fixed → ℕ → ℕ
claim_place fixed group = groups fixed + group

-- word w of chunk c's cell has the number 129 * c + w
abbrev pub cell_place : Fixed → ℕ → ℕ
cell_place fixed number = 2 * groups fixed + number

abbrev pub length_place : Fixed → ℕ
length_place fixed = cell_place fixed (129 * fixed.capacity)

-- the index of the first word for parents
abbrev pub parents_place : Fixed → ℕ
parents_place fixed = length_place fixed + 1

abbrev pub parent_held_place : Fixed → ℕ → ℕ
parent_held_place fixed group = parents_place fixed + group

abbrev pub parent_claim_place : Fixed → ℕ → ℕ
parent_claim_place fixed group = parents_place fixed + groups fixed + group

-- word w of boundary m's parent has the number 8 * m + w
abbrev pub parent_word_place : Fixed → ℕ → ℕ
parent_word_place fixed number = parents_place fixed + 2 * groups fixed + number

abbrev pub word_count : Fixed → ℕ
word_count fixed = parent_word_place fixed (8 * fixed.capacity)

abbrev pub held_word : List ℕ → ℕ → ℕ
held_word words group = slice_index words group

abbrev pub claim_word : Fixed → List ℕ → ℕ → ℕ
claim_word fixed words group = slice_index words (claim_place fixed group)

abbrev pub cell_at : Fixed → List ℕ → ℕ → ℕ
cell_at fixed words number = slice_index words (cell_place fixed number)

abbrev pub length_word : Fixed → List ℕ → ℕ
length_word fixed words = slice_index words (length_place fixed)

abbrev pub parent_held_word : Fixed → List ℕ → ℕ → ℕ
parent_held_word fixed words group = slice_index words (parent_held_place fixed group)

abbrev pub parent_claim_word : Fixed → List ℕ → ℕ → ℕ
parent_claim_word fixed words group = slice_index words (parent_claim_place fixed group)

abbrev pub parent_at : Fixed → List ℕ → ℕ → ℕ
parent_at fixed words number = slice_index words (parent_word_place fixed number)

-- word w of a parent's 64 bytes, little-endian
abbrev pub parent_word : List ℕ → ℕ → ℕ
parent_word bytes w = from_le_bytes w64 (take 8 (drop (8 * w) bytes))

-- a length as a word: 0 for none, else the length plus 1
abbrev pub length_code : Option ℕ → ℕ
length_code None = 0
length_code (Some l) = l + 1
