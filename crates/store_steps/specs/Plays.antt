-- What each kind of step establishes, in the form that the table requires: from the step, the seat before, the
-- number found and the seat after.
use Rattle.std.specs.Prelude.{◌≡◌, ℕ, ◌-◌, ◌/◌, ◌%◌, ◌==◌, Bool, not, ◌&&◌, if◌then◌else◌, List, [], ◌∷◌, Option, None, Some, is_some, bit_and}
use Rattle.std.specs.Int.{w64, bit_not}
use Rattle.atomic_table.specs.Table.{Me}
use Rattle.bao_text.specs.declared.walk.Node.{Node}
use Rattle.store_core.specs.declared.history.Call.TheVariants.{Commit, Give, Length, Parents, Settle, Take}
use Rattle.holders.specs.declared.piece.Piece.{Piece}
use Rattle.store_core.specs.declared.history.Storing.TheVariants.{Stored}
use Rattle.store_core.specs.declared.view.SeatView.{SeatView}
use Rattle.store_core.specs.Events.{settling}
use Rattle.store_core.specs.Histories.{state_after}
use Rattle.store_core.specs.Masks.{has_bit}
use Rattle.holders.specs.Pieces.{length_of}
use Rattle.store_core.specs.Serves.{node_held}
use Rattle.store_core.specs.Views.{mine, split_first, split_second}
use Rattle.store_core.specs.Knowledge.{AreAllNames, AreMet, ArePartsOf, Did, EndsStoring, IsMerged, Looked}
use Rattle.store_steps.specs.Kinds.{Kind}
use Rattle.store_steps.specs.Reads.{read_events}
use Rattle.store_steps.specs.Slices.{node_events, node_number, unserved_events, unstored_events}
use Rattle.store_steps.specs.Tells.{FindsHeld, FindsWord, IsStoringNow}

-- a seat with one view has one afterwards, and `Told` holds of the two
abbrev pub OfOne : (SeatView → SeatView → Type 0) → Me Unit (List SeatView) → Me Unit (List SeatView) → Type 0
OfOne Told me later = (view : SeatView) → me.0 ≡ view ∷ []
    → (new : SeatView) × (later.0 ≡ new ∷ []) × (later.1 ≡ me.1) × Told view new

-- a piece that nobody has
abbrev pub no_piece : Piece
no_piece = record { base = 0; start = 0; len = 0; text = [] }

-- `asked` are the wanted chunks below the capacity; those whose bit wasn't set are granted
abbrev pub TakesChunks : ℕ → ℕ → ℕ → ℕ → SeatView → SeatView → Type 0
TakesChunks group want asked found old new = Did (Take group want (bit_and asked (bit_not w64 found))) old new

abbrev pub Gives : ℕ → ℕ → ℕ → SeatView → SeatView → Type 0
Gives group mask given old new = Did (Give group mask given) old new

abbrev pub Publishes : ℕ → Piece → ℕ → SeatView → SeatView → Type 0
Publishes group piece mask old new = Did (Commit group piece mask) old new

pub record Loads (group at len found : ℕ) (old new : SeatView) : Type 0 where
  pub looked : Looked (read_events old group at len) old new
  pub finds : FindsHeld group found new

pub record CopiesWord (kind : Kind) (item w found : ℕ) (old new : SeatView) : Type 0 where
  pub same : new ≡ old
  pub finds : FindsWord kind item w found old

pub record LoadsNode (node : Node) (last : Bool) (start len found : ℕ) (old new : SeatView) : Type 0 where
  pub looked : Looked (node_events old node last start len) old new
  pub finds : has_bit found (node_number node % 64) ≡ is_some (node_held (state_after new.seen) node)

-- The seat, which was storing no parents, is now storing those at the boundaries asked for whose bit wasn't
-- set. Nothing else changes. If it has all existing names, each call that it has seen is its own, and the bits
-- that were set are those of the boundaries whose parents it has seen held.
pub record ClaimsParents (group asked found : ℕ) (old new : SeatView) : Type 0 where
  pub stores : IsStoringNow group (bit_and asked (bit_not w64 found)) old new
  pub own : AreAllNames old.names → mine old ≡ old.seen
  pub free : AreAllNames old.names → (m : ℕ) → m / 64 ≡ group
      → has_bit (bit_and asked (bit_not w64 found)) (m % 64) ≡ (has_bit asked (m % 64) && not (is_some ((state_after old.seen).parents m)))

-- Parents of the slice are stored, and the seat is storing none afterwards.
pub record PublishesParents (group : ℕ) (piece : Piece) (mask : ℕ) (old new : SeatView) : Type 0 where
  pub called : EndsStoring (Parents group piece (Stored mask)) old new
  pub written_are : new.written ≡ old.written

-- the length that a word encodes
abbrev pub length_in : ℕ → Option ℕ
length_in word = if word == 0 then None else Some (word - 1)

abbrev pub SettlesLength : Piece → ℕ → SeatView → SeatView → Type 0
SettlesLength piece found old new = Did (Settle piece (settling (length_in found) (length_of piece))) old new

pub record LoadsToServe (start len found : ℕ) (old new : SeatView) : Type 0 where
  pub looked : Looked (unserved_events old start len) old new
  pub finds : length_in found ≡ (state_after new.seen).recorded

pub record LoadsToStore (group : ℕ) (piece : Piece) (found : ℕ) (old new : SeatView) : Type 0 where
  pub looked : Looked (unstored_events old group piece) old new
  pub finds : length_in found ≡ (state_after new.seen).recorded

abbrev pub LoadsLength : ℕ → SeatView → SeatView → Type 0
LoadsLength found old new = Did (Length (length_in found)) old new

-- the loads of a split, a join and a meeting
pub record PartsInTwo (old new : SeatView) : Type 0 where
  pub same : new ≡ old
  pub parts : ArePartsOf old (split_first old) (split_second old)

-- `Told` holds of a seat's two views and of the views that it has afterwards
abbrev pub OfTwo : (SeatView → SeatView → List SeatView → Type 0) → Me Unit (List SeatView) → Me Unit (List SeatView) → Type 0
OfTwo Told me later = (first second : SeatView) → me.0 ≡ first ∷ second ∷ [] → Told first second later.0 × (later.1 ≡ me.1)

pub record Merges (first second : SeatView) (later : List SeatView) : Type 0 where
  pub view : SeatView
  pub is : later ≡ view ∷ []
  pub merged : IsMerged first second view

pub record MeetsSeat (first second : SeatView) (later : List SeatView) : Type 0 where
  pub new_first : SeatView
  pub new_second : SeatView
  pub is : later ≡ new_first ∷ new_second ∷ []
  pub met : AreMet first second new_first new_second

-- a seat's second view, and the views after the first
abbrev pub later_views : List SeatView → List SeatView
later_views [] = []
later_views (view ∷ views) = views
