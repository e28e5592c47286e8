-- The definitions give the digests that b3sum 1.2.0 gives, by computing.
use Rattle.std.proofs.Common.{◌≡◌, [], ◌∷◌, refl}
use Rattle.b3word.specs.Compression.{iv, quarter_round, g, round, rounds, round_words, permuted, out}
use Rattle.b3tree.specs.declared.mode.Mode.{Mode}
use Rattle.b3tree.specs.Chunk.{chunk_input, block_words}
use Rattle.b3tree.specs.Tree.{top_input, top_within}
use Rattle.b3tree.specs.Hashing.{hash}

-- plain hashing
abbrev pub plain : Mode
plain = record { key = iv; domain = 0; apart = refl }

-- the empty input
pub hash_of_nothing : hash plain []
    ≡ 0xaf ∷ 0x13 ∷ 0x49 ∷ 0xb9 ∷ 0xf5 ∷ 0xf9 ∷ 0xa1 ∷ 0xa6 ∷ 0xa0 ∷ 0x40 ∷ 0x4d ∷ 0xea ∷ 0x36 ∷ 0xdc ∷ 0xc9 ∷ 0x49
    ∷ 0x9b ∷ 0xcb ∷ 0x25 ∷ 0xc9 ∷ 0xad ∷ 0xc1 ∷ 0x12 ∷ 0xb7 ∷ 0xcc ∷ 0x9a ∷ 0x93 ∷ 0xca ∷ 0xe4 ∷ 0x1f ∷ 0x32 ∷ 0x62 ∷ []
unfolding hash top_input top_within chunk_input block_words out rounds round_words permuted round g quarter_round
hash_of_nothing = refl

-- the three bytes `abc`
pub hash_of_abc : hash plain (97 ∷ 98 ∷ 99 ∷ [])
    ≡ 0x64 ∷ 0x37 ∷ 0xb3 ∷ 0xac ∷ 0x38 ∷ 0x46 ∷ 0x51 ∷ 0x33 ∷ 0xff ∷ 0xb6 ∷ 0x3b ∷ 0x75 ∷ 0x27 ∷ 0x3a ∷ 0x8d ∷ 0xb5
    ∷ 0x48 ∷ 0xc5 ∷ 0x58 ∷ 0x46 ∷ 0x5d ∷ 0x79 ∷ 0xdb ∷ 0x03 ∷ 0xfd ∷ 0x35 ∷ 0x9c ∷ 0x6c ∷ 0xd5 ∷ 0xbd ∷ 0x9d ∷ 0x85 ∷ []
unfolding hash top_input top_within chunk_input block_words out rounds round_words permuted round g quarter_round
hash_of_abc = refl
