-- The result of replaying a schedule.
use Rattle.std.specs.Prelude.{◌≡◌, ◌⊎◌, ℕ, ◌+◌, List, Some, length, slice_get, take}
use Rattle.bao_check.specs.declared.checked.Checked.{Checked}
use Rattle.bao_check.specs.Pieces.{chunk_of}
use Rattle.holders.specs.declared.fixed.Fixed.{Fixed}
use Rattle.store_core.specs.declared.history.Event.{Event}
use Rattle.holders.specs.declared.piece.Piece.{Piece}
use Rattle.store_core.specs.declared.micro.MicroStep.{MicroStep}
use Rattle.store_core.specs.declared.micro.Reply.{Reply}
use Rattle.store_core.specs.declared.schedule.ScheduleRun.{ScheduleRun}
use Rattle.store_core.specs.declared.store.Store.{Store}
use Rattle.store_core.specs.Histories.{IsLegal, state_after}
use Rattle.store_core.specs.Laws.{IsCommitted, IsSettled}
use Rattle.holders.specs.Blobs.{IsBlob, CollidesWith}
use Rattle.store_core.specs.Machine.{Machine, start, store_of}
use Rattle.holders.specs.Pieces.{piece_of}
use Rattle.store_core.specs.Schedules.{IsLegalStep, Runs}
use Rattle.store_core.specs.ScheduleRuns.{HasRun}
use Rattle.store_core.specs.Stores.{fixed_of, state_of}

-- Each step was legal in its turn, and these are their replies. The store represents what the words do at the
-- end, which is the state after the legal history of the steps' events.
pub record IsReplayed (fixed : Fixed) (pieces : List Checked) (steps : List MicroStep) (replies : List Reply) (store : Store) : Type 0 where
  pub history : List Event
  pub last : Machine
  pub runs : Runs fixed pieces start steps replies history last
  pub fixed_is : fixed_of store ≡ fixed
  pub words : state_of store ≡ store_of last
  pub legal : IsLegal fixed history
  pub events : state_of store ≡ state_after history

-- from this machine the steps before this index ran, and the step with this index isn't legal in its turn
pub record IsIllegalFrom (fixed : Fixed) (pieces : List Checked) (m : Machine) (steps : List MicroStep) (index : ℕ) : Type 0 where
  pub replies : List Reply
  pub history : List Event
  pub last : Machine
  pub runs : Runs fixed pieces m (take index steps) replies history last
  pub step : MicroStep
  pub is : slice_get steps index ≡ Some step
  pub illegal : ¬ IsLegalStep fixed pieces last step

abbrev pub IsIllegalAt : Fixed → List Checked → List MicroStep → ℕ → Type 0
IsIllegalAt fixed pieces steps index = IsIllegalFrom fixed pieces start steps index

-- The first step is legal in the empty store.
pub record BeginsLegally (fixed : Fixed) (pieces : List Checked) (steps : List MicroStep) : Type 0 where
  pub step : MicroStep
  pub is : slice_get steps 0 ≡ Some step
  pub legal : IsLegalStep fixed pieces start step

-- the slice is in the list
pub record IsListed (fixed : Fixed) (pieces : List Checked) (piece : Piece) : Type 0 where
  pub index : ℕ
  pub checked : Checked
  pub there : slice_get pieces index ≡ Some checked
  pub is : piece ≡ piece_of fixed.base checked

-- A blob has a collision with the slice of the list from which a run committed chunk c with these bytes.
pub record CollisionOfChunk (fixed : Fixed) (pieces : List Checked) (history : List Event) (blob : List ℕ) (c : ℕ) (bytes : List ℕ) : Type 0 where
  pub committed : IsCommitted fixed history c bytes
  pub listed : IsListed fixed pieces committed.piece
  pub pair : CollidesWith fixed blob committed.piece

-- a blob has a collision with the slice of the list by which a run settled the length
pub record CollisionOfLength (fixed : Fixed) (pieces : List Checked) (history : List Event) (blob : List ℕ) (l : ℕ) : Type 0 where
  pub settled : IsSettled fixed history l
  pub listed : IsListed fixed pieces settled.piece
  pub pair : CollidesWith fixed blob settled.piece

-- For every blob with the store's root, and every run of the steps: each held chunk is the blob's chunk of that
-- index, and a recorded length is the blob's; or a collision is exhibited between the blob and the slice of the
-- list from which this run committed the chunk, or by which it settled the length.
abbrev pub ReplayBinds : Fixed → List Checked → List MicroStep → List Reply → Store → Type 0
ReplayBinds fixed pieces steps replies store = (blob : List ℕ) → IsBlob fixed blob → (by : IsReplayed fixed pieces steps replies store)
    → ((c : ℕ) (bytes : List ℕ) → (state_of store).held c ≡ Some bytes → (chunk_of blob (fixed.base + c) ≡ Some bytes) ⊎ CollisionOfChunk fixed pieces by.history blob c bytes)
    × ((l : ℕ) → (state_of store).recorded ≡ Some l → (l ≡ length blob) ⊎ CollisionOfLength fixed pieces by.history blob l)

-- the store is the result of replaying the run's steps, and the run represents the machine at their end
abbrev pub LeavesStore : ScheduleRun → Store → Type 0
LeavesStore run store = (fixed : Fixed) (pieces : List Checked) (steps : List MicroStep) (replies : List Reply) (history : List Event) (m : Machine)
    → HasRun fixed pieces steps replies history m run → (by : IsReplayed fixed pieces steps replies store) × (by.last ≡ m)
