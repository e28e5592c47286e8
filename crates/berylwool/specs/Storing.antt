-- Storing all that a slice has: its chunks, group after group, and then its parents.
use Rattle.std.specs.Prelude.{◌≡◌, ◌≢◌, ◌⊎◌, ℕ, zero, suc, ◌+◌, ◌/◌, ◌<◌, ◌≤◌, List, take, Bool, false, count_ones, Option, Some}
use Rattle.bao_text.specs.Cut.{claimed, slice_len}
use Rattle.bao_check.specs.Accepted.{IsAccepted, slice_nodes}
use Rattle.store_shared.specs.Parents.{SeatParentsBind}
use Rattle.holders.specs.declared.fixed.Fixed.{Fixed}
use Rattle.store_core.specs.declared.history.Call.TheVariants.{Commit, Length, Parents, Take}
use Rattle.holders.specs.declared.piece.Piece.{Piece}
use Rattle.store_core.specs.declared.history.Storing.TheVariants.{Stored}
use Rattle.store_core.specs.declared.view.SeatView.{SeatView}
use Rattle.store_core.specs.Knowledge.{AreAllNames, Called}
use Rattle.holders.specs.Room.{groups}
use Rattle.store_core.specs.Masks.{IsMaskOf}
use Rattle.holders.specs.Pieces.{holds_chunk, holds_parent, length_of}
use Rattle.store_core.specs.Stores.{ChunksBind}
use Rattle.store_shared.specs.Calls.{AreParentsHeld}
use Rattle.berylwool.specs.Calls.{slice_piece}

-- The slice has nothing of the group, and nothing is done.
pub record Passes (has : ℕ → Bool) (group count : ℕ) (old new : SeatView) : Type 0 where
  pub none : (c : ℕ) → c / 64 ≡ group → has c ≡ false
  pub count_is : count ≡ 0
  pub same : new ≡ old

-- Those chunks of a group that the slice has and nobody holds or claims are claimed, and those that the seat
-- then claims and the slice has are stored. For each blob with the store's root they are the blob's, or a
-- collision is exhibited.
pub record ClaimsAndCommits (fixed : Fixed) (piece : Piece) (group count : ℕ) (old new : SeatView) : Type 0 where
  pub want : ℕ
  pub granted : ℕ
  pub mask : ℕ
  pub claimed : SeatView
  pub wants : IsMaskOf group want (λ c. holds_chunk piece c)
  pub takes : Called (Take group want granted) old claimed
  pub commits : Called (Commit group piece mask) claimed new
  pub binds : ChunksBind fixed piece group mask
  pub count_is : count ≡ count_ones mask

abbrev pub CommitsGroup : Fixed → Piece → ℕ → ℕ → SeatView → SeatView → Type 0
CommitsGroup fixed piece group count old new = Passes (λ c. holds_chunk piece c) group count old new ⊎ ClaimsAndCommits fixed piece group count old new

-- The parents that the slice has at a group's boundaries are stored. If the seat has all names, all of them are
-- then held.
pub record StoresSome (piece : Piece) (group count : ℕ) (old new : SeatView) : Type 0 where
  pub mask : ℕ
  pub stores : Called (Parents group piece (Stored mask)) old new
  pub binds : SeatParentsBind new
  pub held : AreAllNames old.names → AreParentsHeld new group piece
  pub count_is : count ≡ count_ones mask

abbrev pub StoresGroup : Piece → ℕ → ℕ → SeatView → SeatView → Type 0
StoresGroup piece group count old new = Passes (λ m. holds_parent piece m) group count old new ⊎ StoresSome piece group count old new

-- a step for each group below `end`, in order, with the sum of what they count
unfoldable pub EachGroup : (ℕ → ℕ → SeatView → SeatView → Type 0) → ℕ → ℕ → SeatView → SeatView → Type 0
EachGroup step zero count old new = (count ≡ 0) × (new ≡ old)
EachGroup step (suc group) count old new =
    (before one : ℕ) × (between : SeatView) × EachGroup step group before old between × step group one between new × (count ≡ before + one)

-- The recorded length is the one that the slice claims. Each chunk of the slice that nobody else holds or
-- claims is then stored, and each parent.
pub record StoresAll (fixed : Fixed) (piece : Piece) (chunks parents : ℕ) (old new : SeatView) : Type 0 where
  pub asked : SeatView
  pub committed : SeatView
  pub length_is : Called (Length (Some (length_of piece))) old asked
  pub commits : EachGroup (CommitsGroup fixed piece) (groups fixed) chunks asked committed
  pub stores : EachGroup (StoresGroup piece) (groups fixed) parents committed new

-- The recorded length isn't the one that the slice claims, or none is recorded.
pub record IsOfOther (piece : Piece) (old new : SeatView) : Type 0 where
  pub recorded : Option ℕ
  pub length_is : Called (Length recorded) old new
  pub other : recorded ≢ Some (length_of piece)

-- what an encoding has of a slice, if it begins with that slice's encoding
abbrev pub front_text : List ℕ → ℕ → ℕ → List ℕ
front_text text start part = take (slice_len (claimed text) start part) text

-- An encoding that isn't accepted as the slice (start, len) has its first fault at offset `at`. Of the slices
-- (start, n) with n up to `len` whose encoding ends no later than there, this is the one with the largest n. The
-- encoding begins with it, and it is accepted.
pub record IsFront (fixed : Fixed) (text : List ℕ) (start len at part : ℕ) : Type 0 where
  pub within : part ≤ len
  pub before : slice_len (claimed text) start part ≤ at
  pub most : (n : ℕ) → part < n → n ≤ len → at < slice_len (claimed text) start n
  pub accepted : IsAccepted fixed.mode fixed.root.0 (front_text text start part) (slice_nodes (front_text text start part) start part)

-- The chunks of that slice are stored. If the first chunk ends later than the fault, or the encoding claims that the
-- blob is empty, none are.
abbrev pub CommitsFront : Fixed → List ℕ → ℕ → ℕ → ℕ → ℕ → SeatView → SeatView → Type 0
CommitsFront fixed text start len at count old new =
    (((claimed text ≡ 0) ⊎ (at < slice_len (claimed text) start 0)) × (count ≡ 0) × (new ≡ old))
    ⊎ ((part : ℕ) × IsFront fixed text start len at part
    × EachGroup (CommitsGroup fixed (slice_piece fixed.base (front_text text start part) start part)) (groups fixed) count old new)
