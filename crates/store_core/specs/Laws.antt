-- Lemmas about histories.
use Rattle.std.specs.Prelude.{◌≡◌, ◌≢◌, ◌⊎◌, ℕ, ◌+◌, ◌*◌, ◌/◌, ◌%◌, ◌<◌, ◌≤◌, Bool, true, false, if◌then◌else◌, List, [], ◌++◌, length, Contains, count_by, count_ones, None, Some, slice_get, slice_index, ◌||◌}
use Rattle.std.specs.List.{sum_by}
use Rattle.b3tree.specs.Tree.{parent_input}
use Rattle.b3tree.specs.Valid.{IsKeyed}
use Rattle.bao_check.specs.Accepted.{IsAccepted, part_value, slice_nodes}
use Rattle.bao_check.specs.Inputs.{Names, marked, text_inputs}
use Rattle.bao_text.specs.declared.walk.Node.{Node}
use Rattle.bao_text.specs.declared.walk.Node.TheVariants.{Chunk, Parent}
use Rattle.bao_text.specs.NodeNames.{slice_names}
use Rattle.bao_text.specs.Nodes.{left, right}
use Rattle.bao_text.specs.Texts.{slice_text}
use Rattle.bao_check.specs.Parents.{parent_of}
use Rattle.bao_check.specs.Pieces.{chunk_of}
use Rattle.holders.specs.declared.fixed.Fixed.{Fixed}
use Rattle.store_core.specs.declared.history.Call.{Call}
use Rattle.store_core.specs.declared.history.Call.TheVariants.{Take, Give, Commit, Settle, Read, Length, Parents, Serve}
use Rattle.store_core.specs.declared.history.Event.{Event}
use Rattle.holders.specs.declared.piece.Piece.{Piece}
use Rattle.store_core.specs.declared.history.Settling.TheVariants.{Settled}
use Rattle.store_core.specs.declared.history.Serving.TheVariants.{NoLength, Text}
use Rattle.store_core.specs.declared.history.Storing.TheVariants.{OtherLength, Stored}
use Rattle.store_core.specs.Events.{IsRightReply}
use Rattle.holders.specs.Room.{has_room}
use Rattle.store_core.specs.Histories.{AreOfOthers, IsLegal, events_of, state_after}
use Rattle.store_core.specs.Masks.{in_mask}
use Rattle.store_core.specs.Names.{Name, has_name, share_name}
use Rattle.holders.specs.Pieces.{EndsBlob, IsAcceptedPiece, chunk_bytes, length_of, parent_bytes, places_in}
use Rattle.store_core.specs.Serves.{serving}
use Rattle.bao_check.specs.declared.checked.Checked.{Checked}
use Rattle.store_core.specs.declared.micro.MicroStep.{MicroStep}
use Rattle.store_core.specs.declared.micro.Reply.{Reply}
use Rattle.store_core.specs.Machine.{Machine, start, store_of}
use Rattle.store_core.specs.Schedules.{AreTexts, Runs}
use Rattle.store_core.specs.declared.view.SeatView.{SeatView}
use Rattle.store_core.specs.Views.{IsJoined, mine, names_of, seat_claims, split_first}
use Rattle.store_core.specs.States.{State, byte_at, claims, held_count, is_claimed, is_held, read_bytes}
use Rattle.holders.specs.Blobs.{IsBlob, CollidesWith}

-- a call without its reply
abbrev pub question : Call → Call
question (Take group want granted) = Take group want 0
question (Give group mask given) = Give group mask 0
question (Commit group piece committed) = Commit group piece 0
question (Settle piece answer) = Settle piece Settled
question (Read at len bytes) = Read at len []
question (Length recorded) = Length None
question (Parents group piece answer) = Parents group piece OtherLength
question (Serve at len answer) = Serve at len NoLength

-- whether a reply may be partial: other right replies to the same call may name other items
abbrev pub is_partial : Call → Bool
is_partial (Take group want granted) = false
is_partial (Give group mask given) = false
is_partial (Commit group piece committed) = false
is_partial (Settle piece answer) = false
is_partial (Read at len bytes) = false
is_partial (Length recorded) = false
is_partial (Parents group piece answer) = true
is_partial (Serve at len answer) = false

-- The state after a history determines every reply, except which parents are stored: two right replies to the
-- same call of the same caller are equal.
abbrev pub StateDetermines : Type 0
StateDetermines = (fixed : Fixed) (s : State) (who : List Name) (one other : Call) → IsRightReply fixed s who one → IsRightReply fixed s who other
    → is_partial one ≡ false → question one ≡ question other → one ≡ other

-- Held chunks stay, with the same bytes, and so does a recorded length.
abbrev pub HeldLasts : Type 0
HeldLasts = (fixed : Fixed) (history more : List Event) (c : ℕ) (bytes : List ℕ) → IsLegal fixed (history ++ more)
    → (state_after history).held c ≡ Some bytes → (state_after (history ++ more)).held c ≡ Some bytes

abbrev pub RecordLasts : Type 0
RecordLasts = (fixed : Fixed) (history more : List Event) (l : ℕ) → IsLegal fixed (history ++ more)
    → (state_after history).recorded ≡ Some l → (state_after (history ++ more)).recorded ≡ Some l

-- Held parents stay, with the same bytes.
abbrev pub ParentLasts : Type 0
ParentLasts = (fixed : Fixed) (history more : List Event) (m : ℕ) (bytes : List ℕ) → IsLegal fixed (history ++ more)
    → (state_after history).parents m ≡ Some bytes → (state_after (history ++ more)).parents m ≡ Some bytes

-- No chunk is claimed by two callers without a common name, or is both claimed and held, and all claimed or
-- held chunks are below the capacity. A caller's claims last while only others call.
abbrev pub ClaimsApart : Type 0
ClaimsApart = (s : State) (ours theirs : List Name) (c : ℕ) → share_name ours theirs ≡ false → claims theirs s c ≡ true → claims ours s c ≡ false

pub record IsSound (fixed : Fixed) (s : State) : Type 0 where
  pub apart : (c : ℕ) → is_held s c ≡ true → is_claimed s c ≡ false
  pub held_below : (c : ℕ) → is_held s c ≡ true → c < fixed.capacity
  pub claimed_below : (c : ℕ) → is_claimed s c ≡ true → c < fixed.capacity

abbrev pub LegalIsSound : Type 0
LegalIsSound = (fixed : Fixed) (history : List Event) → IsLegal fixed history → IsSound fixed (state_after history)

abbrev pub ClaimsLast : Type 0
ClaimsLast = (fixed : Fixed) (history more : List Event) (names : List Name) (c : ℕ) → IsLegal fixed (history ++ more) → AreOfOthers names more
    → claims names (state_after (history ++ more)) c ≡ claims names (state_after history) c

-- whether an event commits the chunk
abbrev pub commits : ℕ → Call → Bool
commits c (Take group want granted) = false
commits c (Give group mask given) = false
commits c (Commit group piece committed) = in_mask group committed c
commits c (Settle piece answer) = false
commits c (Read at len bytes) = false
commits c (Length recorded) = false
commits c (Parents group piece answer) = false
commits c (Serve at len answer) = false

-- Each held chunk is in exactly one Commit of the history, and no other chunk is in any.
abbrev pub CommittedOnce : Type 0
CommittedOnce = (fixed : Fixed) (history : List Event) (c : ℕ) → IsLegal fixed history
    → count_by (λ e. commits c e.call) history ≡ (if is_held (state_after history) c then 1 else 0)

-- how many chunks a call stores: those of a commit's mask
abbrev pub chunks_of : Call → ℕ
chunks_of (Take group want granted) = 0
chunks_of (Give group mask given) = 0
chunks_of (Commit group piece committed) = count_ones committed
chunks_of (Settle piece answer) = 0
chunks_of (Read at len bytes) = 0
chunks_of (Length recorded) = 0
chunks_of (Parents group piece answer) = 0
chunks_of (Serve at len answer) = 0

-- The numbers of chunks in a history's Commits add up to the number of chunks held.
abbrev pub CommittedAddUp : Type 0
CommittedAddUp = (fixed : Fixed) (history : List Event) → IsLegal fixed history
    → sum_by (λ e. chunks_of e.call) history ≡ held_count (state_after history) fixed.capacity

-- The bytes are chunk c of an accepted slice that the history committed.
pub record IsCommitted (fixed : Fixed) (history : List Event) (c : ℕ) (bytes : List ℕ) : Type 0 where
  pub who : List Name
  pub group : ℕ
  pub piece : Piece
  pub mask : ℕ
  pub there : Contains history (record { who = who; call = Commit group piece mask })
  pub accepted : IsAcceptedPiece fixed piece
  pub stored : in_mask group mask c ≡ true
  pub has : chunk_bytes piece c ≡ Some bytes

-- The length is that of an accepted slice by which the history settled it.
pub record IsSettled (fixed : Fixed) (history : List Event) (l : ℕ) : Type 0 where
  pub who : List Name
  pub piece : Piece
  pub there : Contains history (record { who = who; call = Settle piece Settled })
  pub accepted : IsAcceptedPiece fixed piece
  pub ends : EndsBlob piece
  pub fits : has_room fixed (length_of piece) ≡ true
  pub is : length_of piece ≡ l

abbrev pub HeldIsCommitted : Type 0
HeldIsCommitted = (fixed : Fixed) (history : List Event) (c : ℕ) (bytes : List ℕ) → IsLegal fixed history
    → (state_after history).held c ≡ Some bytes → IsCommitted fixed history c bytes

abbrev pub RecordIsSettled : Type 0
RecordIsSettled = (fixed : Fixed) (history : List Event) (l : ℕ) → IsLegal fixed history → (state_after history).recorded ≡ Some l
    → IsSettled fixed history l

-- The bytes are the parent at boundary m of an accepted slice from which the history stored it, and the slice
-- claims the recorded length.
pub record IsStored (fixed : Fixed) (history : List Event) (m : ℕ) (bytes : List ℕ) : Type 0 where
  pub who : List Name
  pub group : ℕ
  pub piece : Piece
  pub mask : ℕ
  pub there : Contains history (record { who = who; call = Parents group piece (Stored mask) })
  pub accepted : IsAcceptedPiece fixed piece
  pub stored : in_mask group mask m ≡ true
  pub has : parent_bytes piece m ≡ Some bytes
  pub length_is : (state_after history).recorded ≡ Some (length_of piece)

abbrev pub ParentIsStored : Type 0
ParentIsStored = (fixed : Fixed) (history : List Event) (m : ℕ) (bytes : List ℕ) → IsLegal fixed history
    → (state_after history).parents m ≡ Some bytes → IsStored fixed history m bytes

-- For every blob with the root, each held chunk is the blob's chunk of that index, each held byte is the blob's
-- byte at that offset (both counted from the store's first chunk), and a recorded length is the blob's; or a
-- collision is exhibited between the blob and the slice from which the history committed the chunk, or by which
-- it settled the length.
abbrev pub HeldBinds : Type 0
HeldBinds = (fixed : Fixed) (history : List Event) (blob : List ℕ) (c : ℕ) (bytes : List ℕ) → IsKeyed fixed.mode → IsBlob fixed blob
    → IsLegal fixed history → (state_after history).held c ≡ Some bytes
    → (chunk_of blob (fixed.base + c) ≡ Some bytes) ⊎ ((from : IsCommitted fixed history c bytes) × CollidesWith fixed blob from.piece)

-- The history used the slice: it committed a chunk or stored a parent from it that is among these nodes, or
-- settled the recorded length by it.
pub data IsUsed (fixed : Fixed) (history : List Event) (Among : Node → Type 0) (piece : Piece) : Type 0 where
  of_chunk : (c : ℕ) (bytes : List ℕ) (from : IsCommitted fixed history c bytes) → Among (Chunk c) → from.piece ≡ piece → IsUsed fixed history Among piece
  of_length : (l : ℕ) (from : IsSettled fixed history l) → (state_after history).recorded ≡ Some l → from.piece ≡ piece → IsUsed fixed history Among piece
  of_parent : (m : ℕ) (bytes : List ℕ) (from : IsStored fixed history m bytes) → Among (Parent m) → from.piece ≡ piece → IsUsed fixed history Among piece

-- The blob has a collision with a slice that the history used for these nodes.
pub record CollisionOf (fixed : Fixed) (history : List Event) (blob : List ℕ) (Among : Node → Type 0) : Type 0 where
  pub piece : Piece
  pub used : IsUsed fixed history Among piece
  pub pair : CollidesWith fixed blob piece

-- For every blob with the root, each held parent is the blob's at that boundary; or a collision is exhibited
-- between the blob and the slice from which the parent or the recorded length came.
abbrev pub ParentHeldBinds : Type 0
ParentHeldBinds = (fixed : Fixed) (history : List Event) (blob : List ℕ) (m : ℕ) (bytes : List ℕ) → IsKeyed fixed.mode → IsBlob fixed blob
    → IsLegal fixed history → (state_after history).parents m ≡ Some bytes
    → (parent_of fixed.mode blob m ≡ Some bytes) ⊎ CollisionOf fixed history blob (λ node. node ≡ Parent m)

-- the node belongs to the slice (start, len) of a blob of the recorded length
abbrev pub IsServed : State → ℕ → ℕ → Node → Type 0
IsServed s start len node = (l : ℕ) × ((s.recorded ≡ Some l) × Contains (slice_names l start len) node)

-- For every blob with the root, a served encoding is the blob's slice; or a collision is exhibited between the
-- blob and a slice from which one of its nodes or the recorded length came.
abbrev pub ServedBinds : Type 0
ServedBinds = (fixed : Fixed) (history : List Event) (blob : List ℕ) (start len : ℕ) (text : List ℕ) → IsKeyed fixed.mode → IsBlob fixed blob
    → IsLegal fixed history → serving (state_after history) start len ≡ Text text
    → (text ≡ slice_text fixed.mode blob start len) ⊎ CollisionOf fixed history blob (IsServed (state_after history) start len)

-- The history stored a parent at boundary m, and another slice has a different one there with the same chaining
-- value. This is a collision: one input is from the slice that the parent came from, the other from the other
-- slice.
pub record CollidesAt (fixed : Fixed) (history : List Event) (m : ℕ) (other : Piece) : Type 0 where
  pub bytes : List ℕ
  pub from : IsStored fixed history m bytes
  pub its : List ℕ
  pub has : parent_bytes other m ≡ Some its
  pub top : Bool
  pub pair : Names (text_inputs fixed.mode from.piece.text (places_in from.piece)) (text_inputs fixed.mode other.text (places_in other))
      (marked top (parent_input fixed.mode (part_value left bytes) (part_value right bytes))) (marked top (parent_input fixed.mode (part_value left its) (part_value right its)))

-- Two slices that the history used for these nodes contradict each other: a chunk among them was committed from
-- a slice that claims another length than the one that settled the length; or the slice from which a parent
-- among them was stored, and another that the history used for them, have a collision at this parent.
pub data PiecesClash (fixed : Fixed) (history : List Event) (Among : Node → Type 0) : Type 0 where
  of_lengths : (c l : ℕ) (bytes : List ℕ) (from : IsCommitted fixed history c bytes) (settled : IsSettled fixed history l) → Among (Chunk c)
      → (state_after history).recorded ≡ Some l → (length_of from.piece ≢ length_of settled.piece) → PiecesClash fixed history Among
  of_parents : (m : ℕ) (other : Piece) → Among (Parent m) → IsUsed fixed history Among other → CollidesAt fixed history m other → PiecesClash fixed history Among

-- A served encoding is accepted as that slice under the root, a blob's hash or not; or two slices from which
-- its nodes or the recorded length came contradict each other.
abbrev pub ServedAccepted : Type 0
ServedAccepted = (fixed : Fixed) (history : List Event) (start len : ℕ) (text : List ℕ) → IsLegal fixed history → serving (state_after history) start len ≡ Text text
    → IsAccepted fixed.mode fixed.root.0 text (slice_nodes text start len) ⊎ PiecesClash fixed history (IsServed (state_after history) start len)

-- x is the byte at offset q of a chunk that the history committed
pub record ByteFrom (fixed : Fixed) (history : List Event) (q x : ℕ) : Type 0 where
  pub bytes : List ℕ
  pub chunk : IsCommitted fixed history (q / 1024) bytes
  pub byte : slice_get bytes (q % 1024) ≡ Some x

abbrev pub ByteBinds : Type 0
ByteBinds = (fixed : Fixed) (history : List Event) (blob : List ℕ) (q x : ℕ) → IsKeyed fixed.mode → IsBlob fixed blob
    → IsLegal fixed history → byte_at (state_after history) q ≡ Some x
    → (slice_get blob (1024 * fixed.base + q) ≡ Some x) ⊎ ((from : ByteFrom fixed history q x) × CollidesWith fixed blob from.chunk.piece)

abbrev pub RecordBinds : Type 0
RecordBinds = (fixed : Fixed) (history : List Event) (blob : List ℕ) (l : ℕ) → IsKeyed fixed.mode → IsBlob fixed blob
    → IsLegal fixed history → (state_after history).recorded ≡ Some l
    → (l ≡ length blob) ⊎ ((from : IsSettled fixed history l) × CollidesWith fixed blob from.piece)

-- The bytes are those from offset `at` on, as far as they are held: all `len` of them, or those before the
-- least offset of the range that isn't held.
pub record IsRead (s : State) (at len : ℕ) (bytes : List ℕ) : Type 0 where
  pub within : length bytes ≤ len
  pub held : (i : ℕ) → i < length bytes → byte_at s (at + i) ≡ Some (slice_index bytes i)
  pub missing : length bytes < len → byte_at s (at + length bytes) ≡ None

abbrev pub ReadMeans : Type 0
ReadMeans = (s : State) (at len : ℕ) (bytes : List ℕ) → (bytes ≡ read_bytes s at len → IsRead s at len bytes)
    × (IsRead s at len bytes → bytes ≡ read_bytes s at len)

-- A split leaves the first seat's names, and so its calls and claims. A joined seat has the names of both, each
-- seat's own calls are unchanged in the history that it has seen, and it claims what either claimed.
abbrev pub SplitKeeps : Type 0
SplitKeeps = (view : SeatView) → names_of (split_first view) ≡ names_of view

abbrev pub JoinKeeps : Type 0
JoinKeeps = (first second joined : SeatView) → IsJoined first second joined
    → ((name : Name) → has_name (names_of joined) name ≡ (has_name (names_of first) name || has_name (names_of second) name))
    × (events_of (names_of first) joined.seen ≡ mine first) × (events_of (names_of second) joined.seen ≡ mine second)
    × (IsLegal joined.fixed joined.seen → (c : ℕ) → seat_claims joined c ≡ (seat_claims first c || seat_claims second c))

-- A run of the schedules' machine over slices whose encodings consist of bytes is a legal history of the store,
-- and the words represent the state after it.
abbrev pub RunsAreLegal : Type 0
RunsAreLegal = (fixed : Fixed) (pieces : List Checked) (steps : List MicroStep) (replies : List Reply) (history : List Event) (last : Machine)
    → AreTexts pieces → Runs fixed pieces start steps replies history last → IsLegal fixed history × (state_after history ≡ store_of last)

-- A schedule has one run: its steps determine the replies, the events and the end.
abbrev pub RunsAreOne : Type 0
RunsAreOne = (fixed : Fixed) (pieces : List Checked) (m : Machine) (steps : List MicroStep) (replies replies' : List Reply) (history history' : List Event) (last last' : Machine)
    → Runs fixed pieces m steps replies history last → Runs fixed pieces m steps replies' history' last'
    → (replies ≡ replies') × (history ≡ history') × (last ≡ last')
