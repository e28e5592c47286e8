-- How a read fills its buffer, range by range.
use Rattle.std.specs.Prelude.{◌≡◌, ◌⊎◌, ℕ, ◌+◌, ◌<◌, ◌≤◌, List, [], length, None, Some, slice_index}
use Rattle.std.specs.Option.{unwrap_or}
use Rattle.store_core.specs.States.{State, byte_at}

-- how many bytes of a chunk are held: all or none
abbrev pub held_size : State → ℕ → ℕ
held_size s c = length (unwrap_or (s.held c) [])

-- From index `from` up to `done`, the buffer, whose first byte is for offset `at`, has the bytes held there;
-- elsewhere it is unchanged.
pub record IsBufferFilled (s : State) (at from done : ℕ) (old new : List ℕ) : Type 0 where
  pub forward : from ≤ done
  pub within : done ≤ length old
  pub size : length new ≡ length old
  pub bytes : (i : ℕ) → from ≤ i → i < done → byte_at s (at + i) ≡ Some (slice_index new i)
  pub others : (i : ℕ) → (i < from) ⊎ (done ≤ i) → slice_index new i ≡ slice_index old i

-- Why a buffer of `len` bytes isn't filled past `done`, at offset p: it is full, p is the end, or p isn't held.
pub record StopsFilling (s : State) (p end done len : ℕ) : Type 0 where
  pub within : p ≤ end
  pub why : (done ≡ len) ⊎ ((p ≡ end) ⊎ (byte_at s p ≡ None))
