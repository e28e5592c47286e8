-- The state of a store: which chunks and which parents it holds, who claims which chunks, and the blob's length
-- once it is recorded.
use Rattle.std.specs.Prelude.{ℕ, zero, suc, ◌+◌, ◌/◌, ◌%◌, Bool, false, List, [], ◌∷◌, Option, None, Some, is_some, option_and_then, slice_get, if◌then◌else◌}
use Rattle.store_core.specs.Names.{Name, has_name}

-- Each is a finite map: from a chunk's index to its bytes, from a chunk's index to the name that claims it, and
-- from a boundary to the 64 bytes of the parent whose right child begins there.
pub record State : Type 0 where
  pub held : ℕ → Option (List ℕ)
  pub claim : ℕ → Option Name
  pub recorded : Option ℕ
  pub parents : ℕ → Option (List ℕ)

-- nothing is held, claimed or recorded
abbrev pub empty : State
empty = record { held = λ c. None; claim = λ c. None; recorded = None; parents = λ m. None }

abbrev pub is_held : State → ℕ → Bool
is_held s c = is_some (s.held c)

-- how many of the first n chunks are held
abbrev pub held_count : State → ℕ → ℕ
held_count s zero = 0
held_count s (suc n) = held_count s n + (if is_held s n then 1 else 0)

abbrev pub is_claimed : State → ℕ → Bool
is_claimed s c = is_some (s.claim c)

-- whether the chunk is claimed under one of these names
abbrev pub is_among : List Name → Option Name → Bool
is_among names None = false
is_among names (Some name) = has_name names name

abbrev pub claims : List Name → State → ℕ → Bool
claims names s c = is_among names (s.claim c)

-- The byte at offset q. It is held if chunk q / 1024 is held and has more than q % 1024 bytes.
abbrev pub byte_at : State → ℕ → Option ℕ
byte_at s q = option_and_then (λ bytes. slice_get bytes (q % 1024)) (s.held (q / 1024))

-- a byte before the bytes after it, or nothing if it isn't held
abbrev pub byte_and : Option ℕ → List ℕ → List ℕ
byte_and None rest = []
byte_and (Some x) rest = x ∷ rest

-- at most `len` bytes from offset `at` on, up to the first that isn't held
abbrev pub read_bytes : State → ℕ → ℕ → List ℕ
read_bytes s at zero = []
read_bytes s at (suc len) = byte_and (byte_at s at) (read_bytes s (at + 1) len)
