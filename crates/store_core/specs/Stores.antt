-- What a store represents, and what a call does to it.
use Rattle.std.specs.Prelude.{◌≡◌, ℕ, ◌*◌, ◌/◌, ◌<◌, List, ◌+◌, ◌++◌, length, drop, Option, None, Some, Result, Ok, Err, ◌⊎◌, ◌-◌, slice_get, slice_index, Bool, true, false}
use Rattle.holders.specs.declared.fixed.Fixed.{Fixed}
use Rattle.store_core.specs.declared.history.Call.{Call}
use Rattle.store_core.specs.declared.history.Event.{Event}
use Rattle.store_core.specs.declared.history.Call.TheVariants.{Parents, Read, Serve, Settle}
use Rattle.store_core.specs.declared.history.Serving.{Serving}
use Rattle.store_core.specs.declared.history.Serving.TheVariants.{Lacking, NoLength}
use Rattle.store_core.specs.declared.fault.ServeFault.{ServeFault}
use Rattle.store_core.specs.declared.fault.ServeFault.TheVariants as refused
use Rattle.store_core.specs.declared.fault.StoreFault.{StoreFault}
use Rattle.store_core.specs.declared.fault.StoreFault.TheVariants as unstored
use Rattle.store_core.specs.declared.history.Storing.{Storing}
use Rattle.store_core.specs.declared.history.Storing.TheVariants as storing
use Rattle.store_core.specs.declared.history.Settling.{Settling}
use Rattle.store_core.specs.declared.history.Settling.TheVariants.{Settled, Known, Differs, OtherRoot, TooLarge}
use Rattle.holders.specs.Pieces.{chunk_bytes, holds_parent, length_of, piece_of}
use Rattle.bao_check.specs.declared.checked.Checked.{Checked}
use Rattle.store_core.specs.declared.fault.Missing.{Missing}
use Rattle.store_core.specs.declared.store.Store.{Store}
use Rattle.store_core.specs.Events.{IsRightReply, after_call}
use Rattle.holders.specs.Room.{has_room}
use Rattle.store_core.specs.Laws.{IsCommitted, IsServed, IsSettled, CollisionOf, PiecesClash}
use Rattle.holders.specs.Blobs.{IsBlob, CollidesWith}
use Rattle.bao_text.specs.declared.walk.Node.TheVariants.{Parent}
use Rattle.bao_text.specs.Texts.{slice_text}
use Rattle.store_core.specs.Reached.{IsReached}
use Rattle.bao_check.specs.Accepted.{IsAccepted, slice_nodes}
use Rattle.bao_check.specs.Parents.{parent_of}
use Rattle.bao_check.specs.Pieces.{chunk_of}
use Rattle.holders.specs.declared.piece.Piece.{Piece}
use Rattle.store_core.specs.Masks.{in_mask}
use Rattle.store_core.specs.Names.{Name}
use Rattle.store_core.specs.Slots.{state_in, with_parents}
use Rattle.store_core.specs.States.{State, empty}

abbrev pub fixed_of : Store → Fixed
fixed_of store = store.fixed

abbrev pub state_of : Store → State
state_of store = with_parents (state_in store.slots.items store.recorded) store.parents.items

-- the store has this root, mode, capacity and base, and nothing is held, claimed or recorded
pub record IsNew (store : Store) (fixed : Fixed) : Type 0 where
  pub fixed_is : fixed_of store ≡ fixed
  pub state : state_of store ≡ empty

-- the store's state is unchanged
pub record IsSame (old new : Store) : Type 0 where
  pub fixed : fixed_of new ≡ fixed_of old
  pub state : state_of new ≡ state_of old

-- the call with its reply is an event of the store: the reply is right, and the new state is the one after it
pub record IsEvent (old new : Store) (who : List Name) (call : Call) : Type 0 where
  pub fixed : fixed_of new ≡ fixed_of old
  pub right : IsRightReply (fixed_of old) (state_of old) who call
  pub after : state_of new ≡ after_call who call (state_of old)

-- the accepted slice is of the store's root and mode
pub record IsOf (fixed : Fixed) (piece : Checked) : Type 0 where
  pub root : piece.root ≡ fixed.root
  pub mode : piece.mode ≡ fixed.mode

-- the result of settling a length, and the state afterwards; the call involves no seat, so its event may be any
-- caller's
abbrev pub Settles : Store → Store → Checked → Settling → Type 0
Settles old new piece OtherRoot = (¬ IsOf (fixed_of old) piece) × IsSame old new
Settles old new piece TooLarge = IsOf (fixed_of old) piece × (has_room (fixed_of old) (length_of (piece_of (fixed_of old).base piece)) ≡ false) × IsSame old new
Settles old new piece Settled = (who : List Name) → IsEvent old new who (Settle (piece_of (fixed_of old).base piece) Settled)
Settles old new piece Known = (who : List Name) → IsEvent old new who (Settle (piece_of (fixed_of old).base piece) Known)
Settles old new piece Differs = (who : List Name) → IsEvent old new who (Settle (piece_of (fixed_of old).base piece) Differs)

-- Storing a slice's parents, or refusing them for another length, is an event of the store, and may be any
-- caller's.
abbrev pub DidStore : Store → Store → ℕ → Checked → Storing → Type 0
DidStore old new group piece answer = (who : List Name) → IsEvent old new who (Parents group (piece_of (fixed_of old).base piece) answer)

-- The slice has a parent at a boundary of the group where the store holds none.
pub record StoresParent (store : Store) (group : ℕ) (piece : Checked) : Type 0 where
  pub boundary : ℕ
  pub place : boundary / 64 ≡ group
  pub holds : holds_parent (piece_of (fixed_of store).base piece) boundary ≡ true
  pub lacks : (state_of store).parents boundary ≡ None

-- the meaning of refused parents: only another length is an event, and the store's state is unchanged
abbrev pub IsUnstored : Store → Store → ℕ → Checked → StoreFault → Type 0
IsUnstored old new group piece unstored.Memory = IsSame old new
IsUnstored old new group piece unstored.NoGroup = IsSame old new
IsUnstored old new group piece unstored.OtherRoot = IsSame old new
IsUnstored old new group piece unstored.OtherLength = IsSame old new × DidStore old new group piece storing.OtherLength

-- the missing offset that a read returns, if it does
abbrev pub missing_in : Result Unit Missing → Option ℕ
missing_in (Ok done) = None
missing_in (Err missing) = Some missing.0

-- all bytes were read, or the offset is the one after those that were
abbrev pub AnswersRead : ℕ → ℕ → List ℕ → Option ℕ → Type 0
AnswersRead at len bytes None = length bytes ≡ len
AnswersRead at len bytes (Some p) = (length bytes < len) × (p ≡ at + length bytes)

-- A read is an event of the store, and may be any caller's. Its bytes fill the buffer from the front, and the
-- rest of the buffer is unchanged.
pub record DidRead (store : Store) (at : ℕ) (old new : List ℕ) (missing : Option ℕ) : Type 0 where
  pub bytes : List ℕ
  pub event : (who : List Name) → IsEvent store store who (Read at (length old) bytes)
  pub filled : new ≡ bytes ++ drop (length bytes) old
  pub answer : AnswersRead at (length old) bytes missing

-- A blob has a collision with the slice from which the history committed chunk c.
pub record CollisionCommitted (fixed : Fixed) (history : List Event) (blob : List ℕ) (c : ℕ) : Type 0 where
  pub bytes : List ℕ
  pub committed : IsCommitted fixed history c bytes
  pub pair : CollidesWith fixed blob committed.piece

-- a blob has a collision with the slice by which the history settled the length
pub record CollisionSettled (fixed : Fixed) (history : List Event) (blob : List ℕ) (l : ℕ) : Type 0 where
  pub settled : IsSettled fixed history l
  pub pair : CollidesWith fixed blob settled.piece

-- how many bytes a read filled in
abbrev pub filled_count : ℕ → ℕ → Option ℕ → ℕ
filled_count at len None = len
filled_count at len (Some p) = p - at

-- For every blob with the store's root, and every legal history that leads to the store: each byte filled in is
-- the blob's byte there, or a collision is exhibited between the blob and the slice from which this history
-- committed the byte's chunk.
abbrev pub ReadBinds : Store → ℕ → List ℕ → ℕ → Type 0
ReadBinds store at bytes count = (blob : List ℕ) → IsBlob (fixed_of store) blob → (by : IsReached (fixed_of store) (state_of store)) → (i : ℕ) → i < count
    → (slice_get blob (1024 * (fixed_of store).base + (at + i)) ≡ Some (slice_index bytes i)) ⊎ CollisionCommitted (fixed_of store) by.history blob ((at + i) / 1024)

-- For every such blob and history, a recorded length is the blob's, or a collision is exhibited between the
-- blob and the slice by which the history settled it.
abbrev pub LengthBinds : Store → ℕ → Type 0
LengthBinds store l = (blob : List ℕ) → IsBlob (fixed_of store) blob → (by : IsReached (fixed_of store) (state_of store))
    → (l ≡ length blob) ⊎ CollisionSettled (fixed_of store) by.history blob l

-- For every blob with the store's root, each chunk of the group's mask that the slice has is the blob's chunk
-- of that index, counted from the base, or a collision is exhibited between the blob and the slice.
abbrev pub ChunksBind : Fixed → Piece → ℕ → ℕ → Type 0
ChunksBind fixed piece group mask = (blob : List ℕ) → IsBlob fixed blob → (c : ℕ) (bytes : List ℕ) → in_mask group mask c ≡ true
    → chunk_bytes piece c ≡ Some bytes → (chunk_of blob (fixed.base + c) ≡ Some bytes) ⊎ CollidesWith fixed blob piece

-- For every blob with the store's root, the length that the slice claims is the blob's, or a collision is
-- exhibited between the blob and the slice.
abbrev pub ClaimBinds : Fixed → Piece → Type 0
ClaimBinds fixed piece = (blob : List ℕ) → IsBlob fixed blob → (length_of piece ≡ length blob) ⊎ CollidesWith fixed blob piece

-- Serving a slice is an event of the store, may be any caller's, and doesn't change the state.
abbrev pub DidServe : Store → ℕ → ℕ → Serving → Type 0
DidServe store start len answer = (who : List Name) → IsEvent store store who (Serve start len answer)

-- the meaning of a refused slice: lack of memory is no event, the other refusals are
abbrev pub IsUnserved : Store → ℕ → ℕ → ServeFault → Type 0
IsUnserved store start len refused.NoLength = DidServe store start len NoLength
IsUnserved store start len (refused.Lacking node) = DidServe store start len (Lacking node)
IsUnserved store start len refused.Memory = Unit {0}

-- the bytes grow by those of a node, if they are held
abbrev pub GainsNode : Option (List ℕ) → List ℕ → List ℕ → Bool → Type 0
GainsNode None old new there = there ≡ false
GainsNode (Some bytes) old new there = (there ≡ true) × (new ≡ old ++ bytes)

-- For every blob with the root, and every legal history that leads to the store: a served encoding is the
-- blob's slice, or a collision is exhibited between the blob and a slice of this history from which a node or
-- the length came.
abbrev pub SliceBinds : Store → ℕ → ℕ → List ℕ → Type 0
SliceBinds store start len text = (blob : List ℕ) → IsBlob (fixed_of store) blob → (by : IsReached (fixed_of store) (state_of store))
    → (text ≡ slice_text (fixed_of store).mode blob start len) ⊎ CollisionOf (fixed_of store) by.history blob (IsServed (state_of store) start len)

-- It is accepted under the store's root, a blob's hash or not; or two such slices of this history contradict
-- each other.
abbrev pub SliceIsAccepted : Store → ℕ → ℕ → List ℕ → Type 0
SliceIsAccepted store start len text = (by : IsReached (fixed_of store) (state_of store))
    → IsAccepted (fixed_of store).mode (fixed_of store).root.0 text (slice_nodes text start len) ⊎ PiecesClash (fixed_of store) by.history (IsServed (state_of store) start len)

-- Each held parent is the blob's at that boundary, or a collision is exhibited with the slice from which this
-- parent or the length came.
abbrev pub ParentsBind : Store → Type 0
ParentsBind store = (blob : List ℕ) → IsBlob (fixed_of store) blob → (by : IsReached (fixed_of store) (state_of store))
    → (m : ℕ) (bytes : List ℕ) → (state_of store).parents m ≡ Some bytes
    → (parent_of (fixed_of store).mode blob m ≡ Some bytes) ⊎ CollisionOf (fixed_of store) by.history blob (λ node. node ≡ Parent m)
