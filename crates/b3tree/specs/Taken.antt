-- The input that a hasher represents.
use Rattle.std.specs.Prelude.{◌≡◌, ℕ, ◌*◌, ◌<◌, List, ◌++◌, length, take}
use Rattle.b3tree.specs.declared.hasher.Hasher.{Hasher}
use Rattle.b3tree.specs.declared.mode.Mode.{Mode}
use Rattle.b3tree.specs.Stack.{whole_subtrees}

-- The hasher has the mode, and its input so far is `earlier` followed by `last`: the stack has the whole
-- subtrees of the earlier bytes, which are whole chunks, and the buffer begins with the last ones.
pub record Splits (hasher : Hasher) (mode : Mode) (earlier last : List ℕ) : Type 0 where
  pub same_mode : hasher.mode ≡ mode
  pub chunks : length earlier ≡ 1024 * hasher.chunks
  pub stack : hasher.stack.items ≡ whole_subtrees 54 mode 0 earlier
  pub last_len : length last ≡ hasher.buffered
  pub buffer : take hasher.buffered hasher.buffer ≡ last

-- The hasher has the mode and this input so far. The last bytes stay in the buffer, since they may be the end.
pub record Holds (hasher : Hasher) (mode : Mode) (bytes : List ℕ) : Type 0 where
  pub earlier : List ℕ
  pub last : List ℕ
  pub whole : bytes ≡ earlier ++ last
  pub splits : Splits hasher mode earlier last
  pub ends : 0 < hasher.chunks → 0 < hasher.buffered
