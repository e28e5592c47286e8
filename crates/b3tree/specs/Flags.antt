-- the flags of a compression, each one bit (BLAKE3 paper, 2.2, Table 3)
use Rattle.std.specs.Prelude.{ℕ}

abbrev pub chunk_start : ℕ
chunk_start = 1

abbrev pub chunk_end : ℕ
chunk_end = 2

abbrev pub parent : ℕ
parent = 4

abbrev pub root : ℕ
root = 8

abbrev pub keyed_hash : ℕ
keyed_hash = 16

abbrev pub derive_key_context : ℕ
derive_key_context = 32

abbrev pub derive_key_material : ℕ
derive_key_material = 64
