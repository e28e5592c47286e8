-- What a crew's rounds come to where its holders have a blob between them.
use Rattle.std.specs.Prelude.{◌≡◌, ◌⊎◌, ℕ, true, false, List, Contains}
use Rattle.gather.specs.declared.crew.Crew.{Crew}
use Rattle.gather.specs.Crews.{WorkedOn}
use Rattle.gather.specs.Joined.{IsClaimedBy}
use Rattle.gather.specs.SeatLasting.{HasParentOn, HoldsOn, IsAlone, IsClaimedMeanwhile, RecordsOn}
use Rattle.gather.specs.Seats.{claims_of}
use Rattle.gather.specs.Filled.{HasAllParents, IsFilled}
use Rattle.holders.specs.Available.{IsServed}
use Rattle.gather.specs.Counts.{HasFailed, IsToldTooLarge}
use Rattle.holders.specs.Forms.{made_of}
use Rattle.holders.specs.Holders.{IsHanded}
use Rattle.holders.specs.Parts.{HaveParts, IsFor}
use Rattle.holders.specs.declared.form.Form.{Form}
use Rattle.holders.specs.declared.grain.Grain.TheVariants.{Group as ByGroup}
use Rattle.store_core.specs.Names.{Name, has_name}
use Rattle.store_core.specs.Views.{names_of}
use Rattle.holders.specs.declared.fixed.Fixed.{Fixed}
use Rattle.store_shared.specs.Seats.{Gripped, fixed_of}
use Rattle.store_shared.specs.declared.assembly.Assembly.{Assembly}

-- the name is none of these crews'
abbrev pub IsOfNone : {H : Type 0} → List (Crew H) → Name → Type 0
IsOfNone crews name = (crew : _) → Contains crews crew → has_name (names_of crew.seat.view) name ≡ false

-- A seat itself claims the chunk. Or it isn't alone, and one of the crews claims the chunk, or somebody outside them did while the
-- seat went on.
abbrev pub IsBusyBeside : {H : Type 0} → List (Crew H) → Gripped → Gripped → ℕ → Type 0
IsBusyBeside crews old new c = (claims_of old c ≡ true) ⊎ ((¬ IsAlone old.view) × (IsClaimedBy crews c ⊎ IsClaimedMeanwhile (IsOfNone crews) old.view new.view c))

-- Where the crew's holders have what makes a blob's slices, its seat knows a length recorded, unless memory was refused or one
-- of its holders certifies a length that the store has no room for. If that length is the blob's, each chunk of the blob is held,
-- or was claimed as `busy` says, and each parent is held if the seat is alone.
abbrev pub Fills : {H : Type 0} → Form → (H → ℕ → ℕ → List ℕ → Type 0) → Fixed → List ℕ → (Gripped → Gripped → ℕ → Type 0) → Crew H → Crew H → Type 0
Fills form gives fixed blob busy old new = HaveParts form ByGroup gives fixed.mode blob old.holders.items
    → HasFailed new.report ⊎ IsToldTooLarge new.report (IsHanded (made_of form gives) old.holders.items) fixed
    ⊎ (IsFilled RecordsOn HoldsOn busy old.seat new.seat blob × HasAllParents RecordsOn HasParentOn new.seat blob)

-- what a crew's closing round does
pub record Closes {H : Type 0} (assembly : Assembly) (form : Form) (gives : H → ℕ → ℕ → List ℕ → Type 0) (count : H → ℕ) (busy : Gripped → Gripped → ℕ → Type 0) (old new : Crew H) : Type 0 where
  pub worked : WorkedOn assembly (made_of form gives) count old new
  pub fills : (blob : List ℕ) → IsFor form (fixed_of assembly) blob → IsServed (fixed_of assembly) blob → Fills form gives (fixed_of assembly) blob busy old new
