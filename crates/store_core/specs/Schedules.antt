-- The steps of schedules: when each is legal, its reply, its effect, and its event in the store's history.
use Rattle.std.specs.Prelude.{◌≡◌, ℕ, ◌/◌, ◌%◌, ◌<◌, ◌≤◌, nat_lt, ◌==◌, Bool, true, false, not, ◌&&◌, ◌||◌, if◌then◌else◌, List, [], ◌∷◌, ◌++◌, Option, None, Some, is_some, option_map, option_to_list, bit_or, slice_get, IfSome}
use Rattle.b3tree.specs.Valid.{AreBytes}
use Rattle.bao_check.specs.declared.checked.Checked.{Checked}
use Rattle.bao_check.specs.Checked.{piece_text}
use Rattle.holders.specs.declared.fixed.Fixed.{Fixed}
use Rattle.store_core.specs.declared.history.Call.{Call}
use Rattle.store_core.specs.declared.history.Call.TheVariants.{Take, Give, Commit, Read, Settle as SettleCall, Length as LengthCall}
use Rattle.store_core.specs.declared.history.Event.{Event}
use Rattle.holders.specs.declared.piece.Piece.{Piece}
use Rattle.store_core.specs.declared.history.Settling.{Settling as Answer}
use Rattle.store_core.specs.declared.history.Settling.TheVariants.{TooLarge}
use Rattle.store_core.specs.declared.micro.MicroStep.{MicroStep}
use Rattle.store_core.specs.declared.micro.MicroStep.TheVariants.{Claim, Hash, Write, Publish, GiveBack, Load, Settle, Length}
use Rattle.store_core.specs.declared.micro.Reply.{Reply}
use Rattle.store_core.specs.declared.micro.Reply.TheVariants.{Granted, Committed, Given, Bytes, NotHeld, Settling, LengthIs}
use Rattle.store_core.specs.Cells.{cell_word}
use Rattle.store_core.specs.Events.{recorded_after, settling}
use Rattle.holders.specs.Room.{has_room}
use Rattle.store_core.specs.Machine.{Machine, ReadUnderWay, current_bytes, current_holds, is_over, is_shown, is_whole, loaded, loaded_group, position, read_of, seat_has, with_seat}
use Rattle.holders.specs.Room.{groups}
use Rattle.store_core.specs.Masks.{IsMaskOf, has_bit, in_mask}
use Rattle.holders.specs.Pieces.{EndsBlob, length_of, piece_of}

-- the list has a slice with this index, of the store's root and mode
pub record HasPiece (fixed : Fixed) (pieces : List Checked) (i : ℕ) : Type 0 where
  pub piece : Checked
  pub is : slice_get pieces i ≡ Some piece
  pub root : piece.root.0 ≡ fixed.root.0
  pub mode : piece.mode ≡ fixed.mode

-- all words were written of each chunk of the group that the seat claims and its current slice has
abbrev pub IsWritten : Machine → ℕ → ℕ → Type 0
IsWritten m n group = (c w : ℕ) → c / 64 ≡ group → seat_has m n c ≡ true → current_holds (m.seat n).piece c ≡ true
    → w < 129 → (m.seat n).written c w ≡ true

-- the current slice has the last chunk of its length
abbrev pub HasTail : Option Piece → Type 0
HasTail None = ⊥
HasTail (Some piece) = EndsBlob piece

-- the step is legal
abbrev pub IsLegalStep : Fixed → List Checked → Machine → MicroStep → Type 0
IsLegalStep fixed pieces m (Claim n group want) = group < groups fixed
IsLegalStep fixed pieces m (Hash n i) = HasPiece fixed pieces i
IsLegalStep fixed pieces m (Write n c w) = (w < 129) × (seat_has m n c ≡ true) × (current_holds (m.seat n).piece c ≡ true)
IsLegalStep fixed pieces m (Publish n group) = (group < groups fixed) × (is_some (m.seat n).piece ≡ true) × IsWritten m n group
IsLegalStep fixed pieces m (GiveBack n group mask) = group < groups fixed
IsLegalStep fixed pieces m (Load n at len) = (len ≤ 65536) × IfSome (m.seat n).reading (λ r. (r.at ≡ at) × (r.len ≡ len))
IsLegalStep fixed pieces m (Settle n) = HasTail (m.seat n).piece
IsLegalStep fixed pieces m (Length n) = Unit {0}

-- the seat's read at a load, before it and after it
abbrev pub read_before : Machine → ℕ → ℕ → ℕ → ReadUnderWay
read_before m n at len = read_of (m.seat n).reading at len

abbrev pub read_after : Fixed → Machine → ℕ → ℕ → ℕ → ReadUnderWay
read_after fixed m n at len = loaded fixed m (read_before m n at len)

-- whether the load is the read's last
abbrev pub is_last_load : Fixed → Machine → ℕ → ℕ → ℕ → Bool
is_last_load fixed m n at len = is_over fixed m (loaded_group fixed (read_before m n at len)) (read_after fixed m n at len)

-- the reply of a read at its end: all bytes, or the offset that isn't held
abbrev pub end_reply : ReadUnderWay → Reply
end_reply r = if is_whole r then Bytes r.bytes else NotHeld (position r)

-- the result of settling the current slice's length
abbrev pub length_answer : Fixed → Option ℕ → ℕ → Answer
length_answer fixed recorded l = if has_room fixed l then settling recorded l else TooLarge

abbrev pub current_length : Option Piece → ℕ
current_length None = 0
current_length (Some piece) = length_of piece

abbrev pub settle_answer : Fixed → Machine → ℕ → Answer
settle_answer fixed m n = length_answer fixed m.recorded (current_length (m.seat n).piece)

-- the reply of a step, if it has one
abbrev pub IsReply : Fixed → Machine → MicroStep → Option Reply → Type 0
IsReply fixed m (Claim n group want) reply = (mask : ℕ) × (reply ≡ Some (Granted mask))
    × IsMaskOf group mask (λ c. has_bit want (c % 64) && (nat_lt c fixed.capacity && not (is_shown m c || is_some (m.claim c))))
IsReply fixed m (Hash n i) reply = reply ≡ None
IsReply fixed m (Write n c w) reply = reply ≡ None
IsReply fixed m (Publish n group) reply = (mask : ℕ) × (reply ≡ Some (Committed mask))
    × IsMaskOf group mask (λ c. seat_has m n c && current_holds (m.seat n).piece c)
IsReply fixed m (GiveBack n group mask) reply = (given : ℕ) × (reply ≡ Some (Given given))
    × IsMaskOf group given (λ c. has_bit mask (c % 64) && seat_has m n c)
IsReply fixed m (Load n at len) reply =
    reply ≡ (if is_last_load fixed m n at len then Some (end_reply (read_after fixed m n at len)) else None)
IsReply fixed m (Settle n) reply = reply ≡ Some (Settling (settle_answer fixed m n))
IsReply fixed m (Length n) reply = reply ≡ Some (LengthIs m.recorded)

-- the mask of a reply
abbrev pub mask_in : Option Reply → ℕ
mask_in None = 0
mask_in (Some (Granted mask)) = mask
mask_in (Some (Committed mask)) = mask
mask_in (Some (Given mask)) = mask
mask_in (Some reply) = 0

-- the machine after a step with its reply
abbrev pub after_step : Fixed → List Checked → Machine → MicroStep → Option Reply → Machine
after_step fixed pieces m (Claim n group want) reply =
    record m { claim = λ c. if in_mask group (mask_in reply) c then Some n else m.claim c }
after_step fixed pieces m (Hash n i) reply =
    with_seat m n (record (m.seat n) { piece = option_map (piece_of fixed.base) (slice_get pieces i); written = λ c w. false })
after_step fixed pieces m (Write n c w) reply =
    record (with_seat m n (record (m.seat n) { written = λ d v. ((d == c) && (v == w)) || (m.seat n).written d v })) {
      cell = λ d v. if (d == c) && (v == w) then cell_word (current_bytes (m.seat n).piece c) w else m.cell d v;
    }
after_step fixed pieces m (Publish n group) reply = record m {
  held_word = λ g. if g == group then bit_or (m.held_word g) (mask_in reply) else m.held_word g;
  claim = λ c. if in_mask group (mask_in reply) c then None else m.claim c;
}
after_step fixed pieces m (GiveBack n group mask) reply =
    record (with_seat m n (record (m.seat n) { written = λ c w. not (in_mask group (mask_in reply) c) && (m.seat n).written c w })) {
      claim = λ c. if in_mask group (mask_in reply) c then None else m.claim c;
    }
after_step fixed pieces m (Load n at len) reply =
    with_seat m n (record (m.seat n) { reading = if is_last_load fixed m n at len then None else Some (read_after fixed m n at len) })
after_step fixed pieces m (Settle n) reply =
    record m { recorded = recorded_after (settle_answer fixed m n) (current_length (m.seat n).piece) m.recorded }
after_step fixed pieces m (Length n) reply = m

-- The event of a step. There is none while a read continues, if a settled length is too large, or for steps
-- without a reply. The event has only what was read.
abbrev pub event_by : ℕ → Call → List Event
event_by n call = record { who = (n ∷ []) ∷ []; call = call } ∷ []

abbrev pub commit_by : ℕ → ℕ → Option Piece → ℕ → List Event
commit_by n group None mask = []
commit_by n group (Some piece) mask = event_by n (Commit group piece mask)

abbrev pub settle_by : ℕ → Option Piece → Answer → List Event
settle_by n None answer = []
settle_by n (Some piece) TooLarge = []
settle_by n (Some piece) answer = event_by n (SettleCall piece answer)

abbrev pub step_events : Fixed → Machine → MicroStep → Option Reply → List Event
step_events fixed m (Claim n group want) reply = event_by n (Take group want (mask_in reply))
step_events fixed m (Hash n i) reply = []
step_events fixed m (Write n c w) reply = []
step_events fixed m (Publish n group) reply = commit_by n group (m.seat n).piece (mask_in reply)
step_events fixed m (GiveBack n group mask) reply = event_by n (Give group mask (mask_in reply))
step_events fixed m (Load n at len) reply =
    if is_last_load fixed m n at len then event_by n (Read at len (read_after fixed m n at len).bytes) else []
step_events fixed m (Settle n) reply = settle_by n (m.seat n).piece (settle_answer fixed m n)
step_events fixed m (Length n) reply = event_by n (LengthCall m.recorded)

-- The steps are legal one after another, have these replies and events, and lead to this machine.
abbrev pub Runs : Fixed → List Checked → Machine → List MicroStep → List Reply → List Event → Machine → Type 0
Runs fixed pieces m [] replies history last = (replies ≡ []) × (history ≡ []) × (last ≡ m)
Runs fixed pieces m (step ∷ steps) replies history last =
    (reply : Option Reply) × (later : List Reply) × (rest : List Event)
    × IsLegalStep fixed pieces m step × IsReply fixed m step reply
    × (replies ≡ option_to_list reply ++ later) × (history ≡ step_events fixed m step reply ++ rest)
    × Runs fixed pieces (after_step fixed pieces m step reply) steps later rest last

-- the slices' encodings consist of bytes
abbrev pub AreTexts : List Checked → Type 0
AreTexts pieces = (i : ℕ) (piece : Checked) → slice_get pieces i ≡ Some piece → AreBytes (piece_text piece)

-- the slice that a step uses has an encoding that consists of bytes
abbrev pub TakesBytes : List Checked → MicroStep → Type 0
TakesBytes pieces (Hash n i) = (piece : Checked) → slice_get pieces i ≡ Some piece → AreBytes (piece_text piece)
TakesBytes pieces step = Unit {0}
