-- What a worker alone does to a one-thread store: a history of its own calls, each legal in turn.
use Rattle.std.specs.Prelude.{◌+◌, ◌≡◌, ◌⊎◌, Some, ℕ, ◌-◌, ◌^◌, min, Bool, List, count_ones}
use Rattle.std.specs.List.{AllByRecursion, sum_by}
use Rattle.store_core.specs.declared.history.Call.{Call}
use Rattle.store_core.specs.declared.history.Call.TheVariants.{Take, Give, Commit, Settle, Read, Length, Parents, Serve}
use Rattle.store_core.specs.declared.history.Event.{Event}
use Rattle.holders.specs.declared.fixed.Fixed.{Fixed}
use Rattle.holders.specs.declared.piece.Piece.{Piece}
use Rattle.store_core.specs.declared.history.Storing.TheVariants.{OtherLength, Stored}
use Rattle.bao_check.specs.Pieces.{chunk_of}
use Rattle.store_core.specs.Laws.{chunks_of}
use Rattle.holders.specs.Blobs.{IsBlob, CollidesWith}
use Rattle.holders.specs.Pieces.{IsAcceptedPiece, chunk_bytes}
use Rattle.store_core.specs.declared.store.Store.{Store}
use Rattle.store_core.specs.Histories.{AreLegalFrom, run}
use Rattle.store_core.specs.Names.{Name}
use Rattle.store_core.specs.Slots.{caller}
use Rattle.store_core.specs.States.{claims}
use Rattle.store_core.specs.Stores.{fixed_of, state_of}
use Rattle.gather.specs.declared.report.Report.{Report}

-- how many parents a call stores: those of its mask
abbrev pub parents_of : Call → ℕ
parents_of (Take group want granted) = 0
parents_of (Give group mask given) = 0
parents_of (Commit group piece committed) = 0
parents_of (Settle piece answer) = 0
parents_of (Read at len bytes) = 0
parents_of (Length recorded) = 0
parents_of (Parents group piece OtherLength) = 0
parents_of (Parents group piece (Stored mask)) = count_ones mask
parents_of (Serve start len answer) = 0

-- how many the calls of a history store
abbrev pub chunks_in : List Event → ℕ
chunks_in events = sum_by (λ (e : Event). chunks_of e.call) events

abbrev pub parents_in : List Event → ℕ
parents_in events = sum_by (λ (e : Event). parents_of e.call) events

-- the names of the worker: those of seat 0
abbrev pub worker : List Name
worker = caller 0

abbrev pub IsOwn : Event → Type 0
IsOwn e = e.who ≡ worker

-- whether the worker claims a chunk
abbrev pub worker_claims : Store → ℕ → Bool
worker_claims store c = claims worker (state_of store) c

-- the pieces of a call, if it has one, are of these
abbrev pub IsFrom : (Piece → Type 0) → Call → Type 0
IsFrom handed (Take group want granted) = Unit {0}
IsFrom handed (Give group mask given) = Unit {0}
IsFrom handed (Commit group piece committed) = handed piece
IsFrom handed (Settle piece answer) = handed piece
IsFrom handed (Read at len bytes) = Unit {0}
IsFrom handed (Length recorded) = Unit {0}
IsFrom handed (Parents group piece answer) = handed piece
IsFrom handed (Serve start len answer) = Unit {0}

abbrev pub AreFrom : (Piece → Type 0) → List Event → Type 0
AreFrom handed events = AllByRecursion (λ (e : Event). IsFrom handed e.call) events

-- the bytes are the chunk in a piece that was handed over and is accepted under the store's root and in its mode
pub record IsCertified (handed : Piece → Type 0) (fixed : Fixed) (c : ℕ) (bytes : List ℕ) : Type 0 where
  pub piece : Piece
  pub from : handed piece
  pub accepted : IsAcceptedPiece fixed piece
  pub has : chunk_bytes piece c ≡ Some bytes

-- nothing but such chunks is stored
abbrev pub AddsCertified : (Piece → Type 0) → Store → Store → Type 0
AddsCertified handed old new = (c : ℕ) (bytes : List ℕ) → (state_of new).held c ≡ Some bytes
    → ((state_of old).held c ≡ Some bytes) ⊎ IsCertified handed (fixed_of old) c bytes

-- Each chunk stored is the one of that number, counted from the store's first, of each blob with the root, or a collision is exhibited from that blob and from
-- the piece that the chunk comes from.
abbrev pub AddsBlobs : (Piece → Type 0) → Store → Store → Type 0
AddsBlobs handed old new = (blob : List ℕ) → IsBlob (fixed_of old) blob → (c : ℕ) (bytes : List ℕ) → (state_of new).held c ≡ Some bytes
    → ((state_of old).held c ≡ Some bytes) ⊎ (chunk_of blob ((fixed_of old).base + c) ≡ Some bytes) ⊎ ((from : IsCertified handed (fixed_of old) c bytes) × CollidesWith (fixed_of old) blob from.piece)

-- Calls of the worker, each with the right reply where it stands, lead from one state of a store to the other, and
-- store so many chunks and parents. They are of accepted pieces alone, which were handed over: nothing is stored that the
-- root doesn't certify.
pub record HasWorked (handed : Piece → Type 0) (old new : Store) (chunks parents : ℕ) : Type 0 where
  pub events : List Event
  pub own : AllByRecursion IsOwn events
  pub from : AreFrom handed events
  pub legal : AreLegalFrom (fixed_of old) (state_of old) events
  pub after : state_of new ≡ run (state_of old) events
  pub fixed : fixed_of new ≡ fixed_of old
  pub counts : chunks ≡ chunks_in events
  pub counts_parents : parents ≡ parents_in events

-- it has, and the report's counts are of the chunks and parents stored, as far as a count goes
pub record Gains (handed : Piece → Type 0) (old new : Store) (report : Report) : Type 0 where
  pub chunks : ℕ
  pub parents : ℕ
  pub worked : HasWorked handed old new chunks parents
  pub committed : report.committed ≡ min chunks (2 ^ 64 - 1)
  pub stored : report.parents ≡ min parents (2 ^ 64 - 1)
