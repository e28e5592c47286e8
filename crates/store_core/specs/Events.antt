-- The events of a store: which reply to a call is right, and the state after it.
use Rattle.std.specs.Prelude.{◌≡◌, ℕ, ◌%◌, nat_lt, ◌==◌, ◌≢◌, Bool, true, not, ◌&&◌, ◌||◌, if◌then◌else◌, List, Option, None, Some}
use Rattle.holders.specs.declared.fixed.Fixed.{Fixed}
use Rattle.store_core.specs.declared.history.Call.{Call}
use Rattle.store_core.specs.declared.history.Call.TheVariants.{Take, Give, Commit, Settle, Read, Length, Parents, Serve}
use Rattle.store_core.specs.declared.history.Event.{Event}
use Rattle.holders.specs.declared.piece.Piece.{Piece}
use Rattle.store_core.specs.declared.history.Settling.{Settling}
use Rattle.store_core.specs.declared.history.Settling.TheVariants.{Settled, Known, Differs, OtherRoot, TooLarge}
use Rattle.store_core.specs.declared.history.Storing.{Storing}
use Rattle.store_core.specs.declared.history.Storing.TheVariants.{OtherLength, Stored}
use Rattle.store_core.specs.Masks.{IsMaskOf, has_bit, in_mask}
use Rattle.store_core.specs.Names.{Name, least_name}
use Rattle.holders.specs.Pieces.{EndsBlob, IsAcceptedPiece, chunk_bytes, holds_chunk, holds_parent, length_of, parent_bytes}
use Rattle.store_core.specs.Serves.{serving}
use Rattle.store_core.specs.States.{State, claims, is_claimed, is_held, read_bytes}
use Rattle.holders.specs.Room.{has_room}

-- whether a chunk may be granted: it is below the capacity, and neither held nor claimed
abbrev pub is_free : Fixed → State → ℕ → Bool
is_free fixed s c = nat_lt c fixed.capacity && not (is_held s c || is_claimed s c)

-- the result of settling a length
abbrev pub settling : Option ℕ → ℕ → Settling
settling None l = Settled
settling (Some m) l = if m == l then Known else Differs

-- The result of storing an accepted slice's parents in a group: the recorded length isn't the one that the
-- slice claims; or the mask is of boundaries whose parents the slice has and the store doesn't hold, though not
-- necessarily of all of them. A tree of another length has other parents at the same boundaries, and a root
-- certifies contents, not lengths.
abbrev pub IsStoring : State → ℕ → Piece → Storing → Type 0
IsStoring s group piece OtherLength = s.recorded ≢ Some (length_of piece)
IsStoring s group piece (Stored mask) = (s.recorded ≡ Some (length_of piece))
    × ((m : ℕ) → in_mask group mask m ≡ true → (holds_parent piece m ≡ true) × (s.parents m ≡ None))

-- The reply to a call is right in a state, for a caller with these names.
-- Take: exactly the wanted chunks of the group that may be granted.
-- Give: the mask's chunks of the group that the caller claims.
-- Commit, of an accepted slice: the chunks of the group that the caller claims and the slice has.
-- Settle, by an accepted slice with the last chunk of a length that fits: whether none, the same or another
-- length is recorded.
-- Read: the bytes of the range up to the first that isn't held, whose offset is then the one missing.
-- Length: the recorded length, or none.
-- Parents, of an accepted slice: that its length isn't the recorded one, or which boundaries' parents become
-- held.
-- Serve: that no length is recorded, the first node that isn't held, or the encoding.
abbrev pub IsRightReply : Fixed → State → List Name → Call → Type 0
IsRightReply fixed s who (Take group want granted) = IsMaskOf group granted (λ c. has_bit want (c % 64) && is_free fixed s c)
IsRightReply fixed s who (Give group mask given) = IsMaskOf group given (λ c. has_bit mask (c % 64) && claims who s c)
IsRightReply fixed s who (Commit group piece committed) =
    IsAcceptedPiece fixed piece × IsMaskOf group committed (λ c. claims who s c && holds_chunk piece c)
IsRightReply fixed s who (Settle piece answer) =
    IsAcceptedPiece fixed piece × EndsBlob piece × (has_room fixed (length_of piece) ≡ true) × (answer ≡ settling s.recorded (length_of piece))
IsRightReply fixed s who (Read at len bytes) = bytes ≡ read_bytes s at len
IsRightReply fixed s who (Length recorded) = recorded ≡ s.recorded
IsRightReply fixed s who (Parents group piece answer) = IsAcceptedPiece fixed piece × IsStoring s group piece answer
IsRightReply fixed s who (Serve start len answer) = answer ≡ serving s start len

-- the event's reply is right in the state
abbrev pub IsLegalIn : Fixed → State → Event → Type 0
IsLegalIn fixed s e = IsRightReply fixed s e.who e.call

-- the recorded length after settling: the new one if none was recorded
abbrev pub recorded_after : Settling → ℕ → Option ℕ → Option ℕ
recorded_after Settled l o = Some l
recorded_after Known l o = o
recorded_after Differs l o = o
recorded_after OtherRoot l o = o
recorded_after TooLarge l o = o

-- the held parents after storing: those stored have the slice's bytes, and no others change
abbrev pub parents_after : Storing → ℕ → Piece → (ℕ → Option (List ℕ)) → ℕ → Option (List ℕ)
parents_after OtherLength group piece parents m = parents m
parents_after (Stored mask) group piece parents m = if in_mask group mask m then parent_bytes piece m else parents m

-- The state after a call. The reply's chunks are now claimed under the caller's least name, or no longer
-- claimed, or held with the slice's bytes and no longer claimed. A settled length is recorded, and stored
-- parents are held. Nothing else changes.
abbrev pub after_call : List Name → Call → State → State
after_call who (Take group want granted) s =
    record s { claim = λ c. if in_mask group granted c then least_name who else s.claim c }
after_call who (Give group mask given) s = record s { claim = λ c. if in_mask group given c then None else s.claim c }
after_call who (Commit group piece committed) s = record s {
  held = λ c. if in_mask group committed c then chunk_bytes piece c else s.held c;
  claim = λ c. if in_mask group committed c then None else s.claim c;
}
after_call who (Settle piece answer) s = record s { recorded = recorded_after answer (length_of piece) s.recorded }
after_call who (Read at len bytes) s = s
after_call who (Length recorded) s = s
after_call who (Parents group piece answer) s = record s { parents = λ m. parents_after answer group piece s.parents m }
after_call who (Serve start len answer) s = s

abbrev pub after : State → Event → State
after s e = after_call e.who e.call s
