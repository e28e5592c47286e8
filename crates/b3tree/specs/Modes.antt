-- The key words and the flags that a mode gives every compression (BLAKE3 paper, 2.3).
use Rattle.std.specs.Prelude.{◌≡◌, ℕ, ◌%◌, List, refl}
use Rattle.b3word.specs.Compression.{iv}
use Rattle.b3tree.specs.declared.mode.Mode.{Mode}
use Rattle.b3tree.specs.Bytes.{words_of}
use Rattle.b3tree.specs.Flags.{keyed_hash, derive_key_context, derive_key_material}

-- the eight words of the key
abbrev pub key_words : Mode → List ℕ
key_words mode = mode.key

-- the flags that every compression of the mode carries
abbrev pub mode_flags : Mode → ℕ
mode_flags mode = mode.domain

-- the mode with these key words and flags, none of which is a flag of the tree
abbrev pub mode_with : List ℕ → (flags : ℕ) → flags % 16 ≡ 0 → Mode
mode_with key flags apart = record { key = key; domain = flags; apart = apart }

-- plain hashing
abbrev pub plain : Mode
plain = mode_with iv 0 refl

-- keyed hashing, with the 32 bytes of a key
abbrev pub keyed : List ℕ → Mode
keyed key = mode_with (words_of 8 key) keyed_hash refl

-- derivation of keys from key material, with the 32 bytes of a context's key
abbrev pub of_context_key : List ℕ → Mode
of_context_key key = mode_with (words_of 8 key) derive_key_material refl

-- the first step of key derivation, which hashes the context
abbrev pub of_context : Mode
of_context = mode_with iv derive_key_context refl
