-- What a script's run leaves is a blob's, or there is a collision.
use Rattle.std.specs.Prelude.{◌≡◌, ◌⊎◌, ℕ, ◌+◌, List, length, Some}
use Rattle.b3tree.specs.Valid.{IsKeyed}
use Rattle.bao_check.specs.declared.checked.Checked.{Checked}
use Rattle.bao_check.specs.Pieces.{chunk_of}
use Rattle.holders.specs.Blobs.{IsBlob, CollidesWith}
use Rattle.holders.specs.Pieces.{EndsBlob, chunk_bytes, length_of}
use Rattle.holders.specs.declared.fixed.Fixed.{Fixed}
use Rattle.holders.specs.declared.piece.Piece.{Piece}
use Rattle.store_core.specs.Machine.{Machine, start, store_of}
use Rattle.store_core.specs.Replays.{IsListed}
use Rattle.store_core.specs.Schedules.{AreTexts}
use Rattle.store_core.specs.declared.micro.Reply.{Reply}
use Rattle.bao_script.specs.declared.numbered.NumberedLine.{NumberedLine}
use Rattle.bao_script.specs.ScriptRuns.{RunsScript}

-- A blob has a collision with a slice of the list that has chunk c with these bytes.
pub record CollisionOfHolder (fixed : Fixed) (pieces : List Checked) (blob : List ℕ) (c : ℕ) (bytes : List ℕ) : Type 0 where
  pub piece : Piece
  pub listed : IsListed fixed pieces piece
  pub has : chunk_bytes piece c ≡ Some bytes
  pub pair : CollidesWith fixed blob piece

-- A blob has a collision with a slice of the list that has the last chunk of this length.
pub record CollisionOfEnd (fixed : Fixed) (pieces : List Checked) (blob : List ℕ) (l : ℕ) : Type 0 where
  pub piece : Piece
  pub listed : IsListed fixed pieces piece
  pub ends : EndsBlob piece
  pub is : length_of piece ≡ l
  pub pair : CollidesWith fixed blob piece

-- For every blob with the root, each chunk held at the end is the blob's chunk of that index, and a recorded
-- length is the blob's; or a collision is exhibited between the blob and the slice of the list that it came
-- from.
abbrev pub EndBinds : Fixed → List Checked → Machine → Type 0
EndBinds fixed pieces last = (blob : List ℕ) → IsBlob fixed blob
    → ((c : ℕ) (bytes : List ℕ) → (store_of last).held c ≡ Some bytes → (chunk_of blob (fixed.base + c) ≡ Some bytes) ⊎ CollisionOfHolder fixed pieces blob c bytes)
    × ((l : ℕ) → (store_of last).recorded ≡ Some l → (l ≡ length blob) ⊎ CollisionOfEnd fixed pieces blob l)

-- So it is after each run of a script from the empty store, over accepted slices whose encodings consist of bytes.
abbrev pub ScriptsBind : Type 0
ScriptsBind = (fixed : Fixed) (pieces : List Checked) (script : List NumberedLine) (answers : List (ℕ × Reply)) (last : Machine) → IsKeyed fixed.mode → AreTexts pieces
    → RunsScript fixed pieces 0 start script answers last → EndBinds fixed pieces last
