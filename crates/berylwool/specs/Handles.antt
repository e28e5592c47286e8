-- What handles own, and what holds for it.
use Rattle.std.specs.Prelude.{◌≡◌, ℕ, List, Option, None, Some}
use Rattle.std.specs.Arc.{arc_value}
use Rattle.std.specs.declared.alloc.Global.{Global}
use Rattle.std.specs.contracts.impls.GlobalAllocator.TheImpl.{ghosts}
use Rattle.std_alloc.specs.Box.Ownership.{box_owns}
use Rattle.b3tree.specs.declared.mode.Mode.{Mode}
use Rattle.b3tree.specs.Taken.{Holds}
use Rattle.bao_check.specs.declared.checking.Checking.{Checking}
use Rattle.store_shared.specs.declared.assembly.Assembly.{Assembly}
use Rattle.store_shared.specs.Seats.{Gripped, IsSeatOf, fixed_of}
use Rattle.berylwool.specs.declared.owned.Held.{Held}
use Rattle.berylwool.specs.declared.owned.Held.TheVariants.{Feed, Hasher, Outline, Seat}
use Rattle.berylwool.specs.declared.outlined.Outlined.{Outlined}
use Rattle.berylwool.specs.contracts.owned.Held.{the_row}
use base.Fml.{Fml, ftrue, fex}
use denote.RawPtr.{Ptr, block_ptr, null_ptr}

-- a seat is one of the store beside it
abbrev pub IsGood : Held → Type 0
IsGood (Seat seated) = IsSeatOf (arc_value seated.store) seated.seat
IsGood _ = Unit {0}

-- A handle with a value owns the memory block of that value, which is good. The pointer of an empty handle is
-- null.
abbrev pub handle_owns : Ptr → Global → Option Held → Fml
handle_owns null_ptr alloc None = ftrue
handle_owns null_ptr alloc (Some held) = fex ⊥ (λ _. ftrue)
handle_owns (block_ptr b o) alloc None = fex ⊥ (λ _. ftrue)
handle_owns (block_ptr b o) alloc (Some held) = fex (IsGood held) (λ _. box_owns (ghosts.dealloc_token alloc) the_row (block_ptr b o) held)

-- the handle has a hasher of this mode with this input
abbrev pub HoldsIn : Option Held → Mode → List ℕ → Type 0
HoldsIn (Some (Hasher boxed)) mode bytes = Holds boxed.value mode bytes
HoldsIn _ mode bytes = ⊥

-- the handle has a hasher
abbrev pub HasHasher : Option Held → Type 0
HasHasher (Some (Hasher boxed)) = Unit {0}
HasHasher _ = ⊥

-- the handle has a check in pieces, and this holds for it
abbrev pub HasFeed : (Checking → Type 0) → Option Held → Type 0
HasFeed so (Some (Feed boxed)) = so boxed.value
HasFeed so _ = ⊥

-- the handle has a seat, and this holds for its store and the seat
abbrev pub HasSeat : (Assembly → Gripped → Type 0) → Option Held → Type 0
HasSeat so (Some (Seat seated)) = so (arc_value seated.store) seated.seat
HasSeat so _ = ⊥

-- the handle has an outline, and this holds for it
abbrev pub HasOutline : (Outlined → Type 0) → Option Held → Type 0
HasOutline so (Some (Outline shared)) = so (arc_value shared)
HasOutline so _ = ⊥

-- both handles have a seat
abbrev pub HaveSeats : Option Held → Option Held → Type 0
HaveSeats first second = HasSeat (λ _ _. HasSeat (λ _ _. Unit) second) first

-- both handles have a seat, and their stores have the same root, mode, capacity and first chunk
abbrev pub AreAlike : Option Held → Option Held → Type 0
AreAlike first second = HasSeat (λ store _. HasSeat (λ other _. fixed_of store ≡ fixed_of other) second) first

-- both handles have a seat, and their stores differ in one of these
abbrev pub AreUnlike : Option Held → Option Held → Type 0
AreUnlike first second = HasSeat (λ store _. HasSeat (λ other _. ¬ (fixed_of store ≡ fixed_of other)) second) first

-- both handles have a seat of the same store
abbrev pub AreOfOneStore : Option Held → Option Held → Type 0
AreOfOneStore first second = HasSeat (λ store _. HasSeat (λ other _. other ≡ store) second) first

-- a seat before and after a call is of the same store, and this holds for the store and both
abbrev pub OneSeat : (Assembly → Gripped → Gripped → Type 0) → Held → Held → Type 0
OneSeat so (Seat old) (Seat new) = (arc_value new.store ≡ arc_value old.store) × so (arc_value old.store) old.seat new.seat
OneSeat so _ _ = ⊥

-- the handle has a seat of the same store before and after a call, and this holds for the store and both
abbrev pub SeatDid : (Assembly → Gripped → Gripped → Type 0) → Option Held → Option Held → Type 0
SeatDid so (Some old) (Some new) = OneSeat so old new
SeatDid so _ _ = ⊥

-- three seats are of the same store, and this holds for them
abbrev pub OnePart : (Gripped → Gripped → Gripped → Type 0) → Held → Held → Held → Type 0
OnePart so (Seat old) (Seat first) (Seat second) =
    (arc_value first.store ≡ arc_value old.store) × (arc_value second.store ≡ arc_value old.store) × so old.seat first.seat second.seat
OnePart so _ _ _ = ⊥

-- three handles have seats of the same store, and this holds for them
abbrev pub SeatParts : (Gripped → Gripped → Gripped → Type 0) → Option Held → Option Held → Option Held → Type 0
SeatParts so (Some old) (Some first) (Some second) = OnePart so old first second
SeatParts so _ _ _ = ⊥
