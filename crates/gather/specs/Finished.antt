-- What the blob of a store is, why there is none yet, and to whom it binds: of a store's root, mode and capacity, its state, and any
-- legal history that leads there. The one-thread store's `finish_one` and the shared store's `finish` and `Whole` keep it.
use Rattle.std.specs.Prelude.{◌≡◌, ◌≢◌, ◌⊎◌, ℕ, ◌*◌, ◌<◌, ◌≤◌, List, length, None, Some, Err, IfErr, IfOk, IsErrOf, OnErr, OnOk, Result}
use Rattle.b3tree.specs.Hashing.{hash}
use Rattle.gather.specs.declared.fault.FinishFault.{FinishFault}
use Rattle.gather.specs.declared.fault.FinishFault.TheVariants.{NotTheRoot, Unfinished}
use Rattle.holders.specs.declared.fixed.Fixed.{Fixed}
use Rattle.store_core.specs.declared.history.Event.{Event}
use Rattle.store_core.specs.Histories.{IsLegal, state_after}
use Rattle.holders.specs.Blobs.{IsBlob}
use Rattle.store_core.specs.Stores.{CollisionCommitted, CollisionSettled}
use Rattle.store_core.specs.States.{State, byte_at, read_bytes}

-- these are the bytes below the recorded length, all of them held
pub record IsWhole (s : State) (bytes : List ℕ) : Type 0 where
  pub recorded : s.recorded ≡ Some (length bytes)
  pub held : read_bytes s 0 (length bytes) ≡ bytes

-- a position below the recorded length isn't held
pub record LacksByte (s : State) : Type 0 where
  pub len : ℕ
  pub recorded : s.recorded ≡ Some len
  pub position : ℕ
  pub below : position < len
  pub missing : byte_at s position ≡ None

-- no length is recorded, or a byte is missing
abbrev pub IsUnfinished : State → Type 0
IsUnfinished s = (s.recorded ≡ None) ⊎ LacksByte s

-- all bytes are held, and their hash isn't the root
pub record IsOther (fixed : Fixed) (s : State) : Type 0 where
  pub bytes : List ℕ
  pub whole : IsWhole s bytes
  pub hashed : hash fixed.mode bytes ≢ fixed.root.0

-- these bytes are all that are held, their hash is the root, and there was room for them
pub record IsFinished (fixed : Fixed) (s : State) (bytes : List ℕ) : Type 0 where
  pub whole : IsWhole s bytes
  pub root : hash fixed.mode bytes ≡ fixed.root.0
  pub fits : length bytes ≤ 1024 * fixed.capacity

-- The blob of a state is answered, or why there is none: always so where no length is recorded.
pub record Finishes {T : Type 0} (bytes_of : T → List ℕ) (fixed : Fixed) (s : State) (result : Result T FinishFault) : Type 0 where
  pub blob : IfOk result (λ blob. IsFinished fixed s (bytes_of blob))
  pub no_length : s.recorded ≡ None → result ≡ Err Unfinished
  pub unfinished : IsErrOf result Unfinished → IsUnfinished s
  pub other : IsErrOf result NotTheRoot → IsOther fixed s

-- A collision is exhibited, two different inputs with one chaining value: one of the blob's, and one of a piece's of which the history
-- committed a chunk, or by which it settled the length.
abbrev pub IsNamedIn : Fixed → List Event → List ℕ → Type 0
IsNamedIn fixed history blob = ((c : ℕ) × CollisionCommitted fixed history blob c) ⊎ ((l : ℕ) × CollisionSettled fixed history blob l)

-- so it is for each blob with the root
abbrev pub BindsNone : Fixed → List Event → Type 0
BindsNone fixed history = (blob : List ℕ) → IsBlob fixed blob → IsNamedIn fixed history blob

-- or else the bytes are that blob's
abbrev pub BindsTo : Fixed → List Event → List ℕ → Type 0
BindsTo fixed history bytes = (blob : List ℕ) → IsBlob fixed blob → (bytes ≡ blob) ⊎ IsNamedIn fixed history blob

-- What is answered binds each blob with the root, by a history of the state: it is the blob, and none is another's.
pub record Binds {T : Type 0} (bytes_of : T → List ℕ) (fixed : Fixed) (history : List Event) (result : Result T FinishFault) : Type 0 where
  pub found : IfOk result (λ blob. BindsTo fixed history (bytes_of blob))
  pub none : IsErrOf result NotTheRoot → BindsNone fixed history

-- The verdict on bytes is that their hash is the root; or wherever they are whole they are another's.
pub record Judges (fixed : Fixed) (bytes : List ℕ) (result : Result Unit FinishFault) : Type 0 where
  pub root : OnOk result (hash fixed.mode bytes ≡ fixed.root.0)
  pub fault : IfErr result (λ fault. fault ≡ NotTheRoot)
  pub other : OnErr result ((s : State) → IsWhole s bytes → IsOther fixed s)
  pub none : OnErr result ((history : List Event) → IsLegal fixed history → IsWhole (state_after history) bytes → BindsNone fixed history)
