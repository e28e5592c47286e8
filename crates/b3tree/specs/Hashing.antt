-- The root of the tree and what comes out of it (BLAKE3 paper, 2.3 and 2.6).
use Rattle.std.specs.Prelude.{ℕ, ◌/◌, ◌%◌, List, map, take, slice_index, bit_or}
use Rattle.std.specs.List.{range_with_len}
use Rattle.b3word.specs.declared.input.Input.{Input}
use Rattle.b3word.specs.Compression.{out}
use Rattle.b3tree.specs.declared.mode.Mode.{Mode}
use Rattle.b3tree.specs.Bytes.{bytes_of}
use Rattle.b3tree.specs.Flags.{root}
use Rattle.b3tree.specs.Modes.{of_context_key, of_context}
use Rattle.b3tree.specs.Tree.{top_input}

-- the input x with the flag ROOT
abbrev pub rooted : Input → Input
rooted x = record x { d = bit_or x.d root }

-- the first 32 bytes of the output of the root x
abbrev pub root_hash : Input → List ℕ
root_hash x = take 32 (bytes_of (out x))

-- the hash of the bytes s
unfoldable pub hash : Mode → List ℕ → List ℕ
hash mode s = root_hash (rooted (top_input mode 0 s))

-- the key of a context: the hash that is the first step of key derivation
abbrev pub context_key : List ℕ → List ℕ
context_key context = hash of_context context

-- the mode that derives keys from key material, for the purpose that the context names
abbrev pub derived : List ℕ → Mode
derived context = of_context_key (context_key context)

-- block n of the output of the root x: the 64 bytes of its output with the counter n
abbrev pub output_block : Input → ℕ → List ℕ
output_block x n = bytes_of (out (record x { t = n }))

-- the byte at offset p of the output stream of the root x: its blocks 0, 1, 2, .. one after another
unfoldable pub output_byte : Input → ℕ → ℕ
output_byte x p = slice_index (output_block x (p / 64)) (p % 64)

-- n bytes of that stream, from offset p on
abbrev pub output : Input → ℕ → ℕ → List ℕ
output x p n = map (output_byte x) (range_with_len p n)

-- n bytes of the output stream of the bytes s, from offset p on
abbrev pub stream : Mode → List ℕ → ℕ → ℕ → List ℕ
stream mode s p n = output (rooted (top_input mode 0 s)) p n
