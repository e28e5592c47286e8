-- Where the values of chunks are looked up.
use Rattle.std.specs.Prelude.{◌≡◌, ℕ, ◌+◌, ◌*◌, ◌≤◌, false}
use Rattle.bao_text.specs.declared.choice.Choice.{Choice}

-- the choice wants each parent of the subtree over n bytes from chunk `number` on, and none of its chunks
pub record WantsParents (choice : Choice) (number n : ℕ) : Type 0 where
  pub start : choice.start ≤ 1024 * number
  pub end : 1024 * number + n ≤ choice.end
  pub without : choice.chunks ≡ false
