-- Each step on the words is the machine's step of the same name; what is no step of the machine doesn't change
-- it.
use Rattle.std.specs.Prelude.{◌≡◌, ◌⊎◌, ℕ, ◌+◌, ◌*◌, ◌%◌, ◌^◌, ◌<◌, nat_lt, ◌==◌, true, false, ◌&&◌, List, [], ◌∷◌, Option, None, Some, bit_and, bit_or, ◌++◌, replicate, slice_index, slice_set, if◌then◌else◌}
use Rattle.std.specs.Int.{bit_not, w64}
use prog.Atomic.{either}
use Rattle.atomic_table.specs.Table.{State as Table, keeps, opening, stepped}
use Rattle.bao_check.specs.declared.checked.Checked.{Checked}
use Rattle.holders.specs.declared.fixed.Fixed.{Fixed}
use Rattle.store_core.specs.declared.history.Call.TheVariants.{Read}
use Rattle.store_core.specs.declared.history.Event.{Event}
use Rattle.holders.specs.declared.piece.Piece.{Piece}
use Rattle.store_core.specs.declared.history.Settling.TheVariants.{TooLarge}
use Rattle.store_core.specs.declared.micro.MicroStep.TheVariants.{Claim, GiveBack, Hash, Length, Publish, Settle, Write}
use Rattle.store_core.specs.declared.micro.Reply.{Reply}
use Rattle.store_core.specs.declared.micro.Reply.TheVariants.{Committed, Given, Granted, LengthIs, Settling}
use Rattle.store_core.specs.declared.view.SeatView.{SeatView}
use Rattle.store_core.specs.Cells.{cell_word}
use Rattle.store_core.specs.Events.{settling}
use Rattle.holders.specs.Room.{has_room}
use Rattle.store_core.specs.Histories.{state_after}
use Rattle.store_core.specs.Machine.{Machine, current_bytes, current_holds, loaded_group, start}
use Rattle.holders.specs.Room.{groups}
use Rattle.store_core.specs.Masks.{IsMaskOf, has_bit}
use Rattle.holders.specs.Pieces.{EndsBlob, length_of}
use Rattle.store_core.specs.Schedules.{AreTexts, IsLegalStep, IsWritten, after_step, end_reply, is_last_load, read_after, read_before}
use Rattle.store_core.specs.States.{State}
use Rattle.store_core.specs.Views.{seat_claims, split_first, split_second}
use Rattle.store_steps.specs.Asks.{AreClaimed, AreHeldClaims, AreWordsStored}
use Rattle.store_core.specs.Knowledge.{Looked, event_of, opening_view}
use Rattle.store_steps.specs.Kinds.{chunk_kind, parent_kind}
use Rattle.store_steps.specs.Layout.{cell_at, cell_place, claim_place, claim_word, held_word, length_place, length_word, parent_at, parent_claim_place, parent_claim_word, parent_held_place, parent_held_word, parent_word_place, word_count}
use Rattle.store_steps.specs.Machines.{IsAtMachine, IsMachineLoad, IsMachineStep, IsReading, StandsForMachine}
use Rattle.store_steps.specs.Plays.{ClaimsParents, CopiesWord, Gives, Loads, LoadsLength, PartsInTwo, Publishes, PublishesParents, SettlesLength, TakesChunks, length_in}
use Rattle.store_steps.specs.Reads.{read_events}
use Rattle.store_steps.specs.Rule.{RuleHolds}
use Rattle.store_steps.specs.Tells.{Stores}

-- Take is Claim: an `or` on the claim word with the wanted chunks below the capacity.
abbrev pub TakeIsClaim : Type 0
TakeIsClaim = (fixed : Fixed) (pieces : List Checked) (table : Table Unit (List SeatView)) (m : Machine) (seat group want asked : ℕ) (view new : SeatView)
    → IsAtMachine fixed pieces table m seat view → group < groups fixed → IsMaskOf group asked (λ c. has_bit want (c % 64) && nat_lt c fixed.capacity)
    → claim_word fixed table.words group < 2 ^ 64 → TakesChunks group want asked (claim_word fixed table.words group) view new
    → IsMachineStep fixed pieces table (claim_place fixed group) (bit_or (claim_word fixed table.words group) asked) seat new m
    (Claim seat group want) (Some (Granted (bit_and asked (bit_not w64 (claim_word fixed table.words group)))))

-- Give is GiveBack: an `and` on the claim word.
abbrev pub GiveIsGiveBack : Type 0
GiveIsGiveBack = (fixed : Fixed) (pieces : List Checked) (table : Table Unit (List SeatView)) (m : Machine) (seat group mask given : ℕ) (view new : SeatView)
    → IsAtMachine fixed pieces table m seat view → group < groups fixed → AreClaimed view group mask given
    → claim_word fixed table.words group < 2 ^ 64 → Gives group mask given view new
    → IsMachineStep fixed pieces table (claim_place fixed group) (bit_and (claim_word fixed table.words group) (bit_not w64 given)) seat new m
    (GiveBack seat group mask) (Some (Given given))

-- Storing the word that the seat's current slice has there is Write.
abbrev pub StoreIsWrite : Type 0
StoreIsWrite = (fixed : Fixed) (pieces : List Checked) (table : Table Unit (List SeatView)) (m : Machine) (seat c w value : ℕ) (view new : SeatView)
    → IsAtMachine fixed pieces table m seat view → w < 129 → seat_claims view c ≡ true → current_holds (m.seat seat).piece c ≡ true
    → value ≡ cell_word (current_bytes (m.seat seat).piece c) w → Stores chunk_kind c w value view new
    → IsMachineStep fixed pieces table (cell_place fixed (129 * c + w)) value seat new m (Write seat c w) None

-- Publish of the seat's current slice, all of whose words were written, and so stored, is Publish: an `or` on
-- the held word.
abbrev pub PublishIsPublish : Type 0
PublishIsPublish = (fixed : Fixed) (pieces : List Checked) (table : Table Unit (List SeatView)) (m : Machine) (seat group mask : ℕ) (piece : Piece) (view new : SeatView)
    → IsAtMachine fixed pieces table m seat view → group < groups fixed → (m.seat seat).piece ≡ Some piece → IsWritten m seat group
    → AreHeldClaims view group piece mask → Publishes group piece mask view new
    → AreWordsStored chunk_kind view group mask piece
    × IsMachineStep fixed pieces table group (bit_or (held_word table.words group) mask) seat new m (Publish seat group) (Some (Committed mask))

-- Settle by the seat's current slice, whose length fits the store, is Settle: an exchange of the length word if
-- that is 0.
abbrev pub SettleIsSettle : Type 0
SettleIsSettle = (fixed : Fixed) (pieces : List Checked) (table : Table Unit (List SeatView)) (m : Machine) (seat : ℕ) (piece : Piece) (view new : SeatView)
    → IsAtMachine fixed pieces table m seat view → (m.seat seat).piece ≡ Some piece → EndsBlob piece → has_room fixed (length_of piece) ≡ true
    → SettlesLength piece (length_word fixed table.words) view new
    → IsMachineStep fixed pieces table (length_place fixed)
    (either (length_word fixed table.words == 0) (length_of piece + 1) (length_word fixed table.words)) seat new m
    (Settle seat) (Some (Settling (settling (length_in (length_word fixed table.words)) (length_of piece))))

-- Length is Length: a load of the length word.
abbrev pub LengthIsLength : Type 0
LengthIsLength = (fixed : Fixed) (pieces : List Checked) (table : Table Unit (List SeatView)) (m : Machine) (seat : ℕ) (view new : SeatView)
    → IsAtMachine fixed pieces table m seat view → LoadsLength (length_word fixed table.words) view new
    → IsMachineStep fixed pieces table (length_place fixed) (length_word fixed table.words) seat new m
    (Length seat) (Some (LengthIs (length_in (length_word fixed table.words))))

-- A load of the held word of the group where a read continues is Load, whatever the read's length. It is the
-- read's last exactly if the machine's is, and then its event has the machine's bytes.
abbrev pub load_reply : Fixed → Machine → ℕ → ℕ → ℕ → Option Reply
load_reply fixed m seat at len = if is_last_load fixed m seat at len then Some (end_reply (read_after fixed m seat at len)) else None

abbrev pub load_events : Fixed → Machine → ℕ → ℕ → ℕ → SeatView → List Event
load_events fixed m seat at len view = if is_last_load fixed m seat at len then event_of view (Read at len (read_after fixed m seat at len).bytes) ∷ [] else []

abbrev pub LoadIsLoad : Type 0
LoadIsLoad = (fixed : Fixed) (pieces : List Checked) (table : Table Unit (List SeatView)) (m : Machine) (seat group at len : ℕ) (view new : SeatView)
    → IsAtMachine fixed pieces table m seat view → group < groups fixed → IsReading m seat at len
    → group ≡ loaded_group fixed (read_before m seat at len) → (loads : Loads group at len (held_word table.words group) view new)
    → RuleHolds fixed (stepped table group (held_word table.words group) seat [] (new ∷ []) keeps)
    → IsMachineLoad fixed pieces table group (held_word table.words group) seat new m at len (load_reply fixed m seat at len)
    × (read_events view group at len (state_after (view.seen ++ loads.looked.between)) ≡ load_events fixed m seat at len view)

-- Words of zeros and the first seat's view represent the machine's start.
abbrev pub OpeningIsStart : Type 0
OpeningIsStart = (fixed : Fixed) → StandsForMachine fixed (opening (replicate (word_count fixed) 0) [] (opening_view fixed ∷ [])) start

-- Hash is no step on the words.
abbrev pub HashIsNoStep : Type 0
HashIsNoStep = (fixed : Fixed) (pieces : List Checked) (table : Table Unit (List SeatView)) (m : Machine) (seat i : ℕ) → AreTexts pieces
    → StandsForMachine fixed table m → IsLegalStep fixed pieces m (Hash seat i) → StandsForMachine fixed table (after_step fixed pieces m (Hash seat i) None)

-- The table after a load by a seat with one view: the words are unchanged.
abbrev pub after_load : Table Unit (List SeatView) → ℕ → ℕ → SeatView → Table Unit (List SeatView)
after_load table place seat new = stepped table place (slice_index table.words place) seat [] (new ∷ []) keeps

-- A load at which a seat sees the history doesn't change the machine, whatever events it has.
abbrev pub LookStays : Type 0
LookStays = (fixed : Fixed) (pieces : List Checked) (table : Table Unit (List SeatView)) (m : Machine) (seat place : ℕ) (view new : SeatView) (events : State → List Event)
    → IsAtMachine fixed pieces table m seat view → Looked events view new → StandsForMachine fixed (after_load table place seat new) m

-- If the length doesn't fit the store, such a load is Settle.
abbrev pub LookIsTooLarge : Type 0
LookIsTooLarge = (fixed : Fixed) (pieces : List Checked) (table : Table Unit (List SeatView)) (m : Machine) (seat place : ℕ) (piece : Piece) (view new : SeatView)
    (events : State → List Event) → IsAtMachine fixed pieces table m seat view → (m.seat seat).piece ≡ Some piece → EndsBlob piece
    → has_room fixed (length_of piece) ≡ false → Looked events view new
    → IsMachineStep fixed pieces table place (slice_index table.words place) seat new m (Settle seat) (Some (Settling TooLarge))

-- A copy doesn't change the machine, and returns the machine's word.
abbrev pub CopyStays : Type 0
CopyStays = (fixed : Fixed) (pieces : List Checked) (table : Table Unit (List SeatView)) (m : Machine) (seat c w : ℕ) (view new : SeatView)
    → IsAtMachine fixed pieces table m seat view → c < fixed.capacity → w < 129 → CopiesWord chunk_kind c w (cell_at fixed table.words (129 * c + w)) view new
    → (cell_at fixed table.words (129 * c + w) ≡ m.cell c w) × StandsForMachine fixed (after_load table (cell_place fixed (129 * c + w)) seat new) m

-- A load that stands for a give or a commit of a group that doesn't exist doesn't change the machine.
abbrev pub AbsentStays : Type 0
AbsentStays = (fixed : Fixed) (pieces : List Checked) (table : Table Unit (List SeatView)) (m : Machine) (seat place group mask : ℕ) (piece : Piece) (view new : SeatView)
    → IsAtMachine fixed pieces table m seat view → Gives group mask 0 view new ⊎ Publishes group piece 0 view new
    → StandsForMachine fixed (after_load table place seat new) m

-- The machine has no parents, so claiming parents doesn't change it.
abbrev pub ClaimParentsStays : Type 0
ClaimParentsStays = (fixed : Fixed) (pieces : List Checked) (table : Table Unit (List SeatView)) (m : Machine) (seat group asked : ℕ) (view new : SeatView)
    → IsAtMachine fixed pieces table m seat view → ClaimsParents group asked (parent_claim_word fixed table.words group) view new
    → StandsForMachine fixed (stepped table (parent_claim_place fixed group) (bit_or (parent_claim_word fixed table.words group) asked) seat [] (new ∷ []) keeps) m

-- Storing a word of a parent doesn't change the machine.
abbrev pub StoreParentStays : Type 0
StoreParentStays = (fixed : Fixed) (pieces : List Checked) (table : Table Unit (List SeatView)) (m : Machine) (seat boundary w value : ℕ) (view new : SeatView)
    → IsAtMachine fixed pieces table m seat view → Stores parent_kind boundary w value view new
    → StandsForMachine fixed (stepped table (parent_word_place fixed (8 * boundary + w)) value seat [] (new ∷ []) keeps) m

-- Publishing parents doesn't change the machine.
abbrev pub PublishParentsStays : Type 0
PublishParentsStays = (fixed : Fixed) (pieces : List Checked) (table : Table Unit (List SeatView)) (m : Machine) (seat group mask : ℕ) (piece : Piece) (view new : SeatView)
    → IsAtMachine fixed pieces table m seat view → PublishesParents group piece mask view new
    → StandsForMachine fixed (stepped table (parent_held_place fixed group) (bit_or (parent_held_word fixed table.words group) mask) seat [] (new ∷ []) keeps) m

-- Copying a word of a parent doesn't change the machine.
abbrev pub CopyParentStays : Type 0
CopyParentStays = (fixed : Fixed) (pieces : List Checked) (table : Table Unit (List SeatView)) (m : Machine) (seat boundary w : ℕ) (view new : SeatView)
    → IsAtMachine fixed pieces table m seat view → CopiesWord parent_kind boundary w (parent_at fixed table.words (8 * boundary + w)) view new
    → StandsForMachine fixed (after_load table (parent_word_place fixed (8 * boundary + w)) seat new) m

-- The table after a seat with one view parted: a new seat has the second view.
abbrev pub parted_table : Table Unit (List SeatView) → ℕ → SeatView → Table Unit (List SeatView)
parted_table table seat view = record {
  words = table.words;
  homes = table.homes;
  views = slice_set table.views seat (split_first view ∷ []) ++ (split_second view ∷ []) ∷ [];
}

-- Parting doesn't change the machine, neither by its load nor when the new seat appears, which claims nothing.
abbrev pub PartStays : Type 0
PartStays = (fixed : Fixed) (pieces : List Checked) (table : Table Unit (List SeatView)) (m : Machine) (seat place : ℕ) (view new : SeatView)
    → IsAtMachine fixed pieces table m seat view → PartsInTwo view new
    → StandsForMachine fixed (after_load table place seat new) m × StandsForMachine fixed (parted_table table seat view) m
