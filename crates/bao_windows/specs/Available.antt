-- What sources don't have.
use Rattle.std.specs.Prelude.{◌≡◌, ◌⊎◌, ℕ, ◌+◌, ◌-◌, ◌*◌, ◌/◌, ◌%◌, ◌^◌, ◌<◌, min, List, length, IfErr, IfSome, IsErrOf, None, OnOk, Option, Result, Some, slice_get}
use Rattle.b3tree.specs.Valid.{AreBytes}
use Rattle.bao_check.specs.Accepted.{IsAccepted}
use Rattle.bao_check.specs.Bare.{bare_part}
use Rattle.bao_check.specs.Beside.{bare_len, beside_text}
use Rattle.bao_check.specs.declared.outline.Outline.{Outline}
use Rattle.bao_check.specs.Outline.{outline_claimed, outline_mode, outline_root, outline_text}
use Rattle.bao_text.specs.Choice.{chunk_count}
use Rattle.bao_windows.specs.declared.fault.GatherFault.{GatherFault}
use Rattle.bao_windows.specs.declared.fault.GatherFault.TheVariants.{Starved, Unfinished}
use Rattle.holders.specs.declared.form.Form.{Form}
use Rattle.holders.specs.declared.form.Form.TheVariants.{Slices, Bare}
use Rattle.holders.specs.declared.grain.Grain.TheVariants.{Chunk as ByChunk}
use Rattle.holders.specs.Lists.{part_gives, source_gives}
use Rattle.holders.specs.declared.piece.Piece.{Piece}
use Rattle.holders.specs.Pieces.{EndsBlob, length_of, nodes_of}
use Rattle.bao_windows.specs.declared.wanted.Wanted.{Wanted}
use Rattle.bao_windows.specs.declared.window.Slot.{Slot}
use Rattle.bao_windows.specs.Windows.{AreOfWindow, IsFrom, IsOfSlot, LacksChunk, fixed_for}

-- a text as a slice
abbrev pub slice_piece : ℕ → ℕ → List ℕ → Piece
slice_piece start len text = record { base = 0; start = start; len = len; text = text }

-- the piece is accepted as its slice, under the root in the mode
abbrev pub IsAcceptedAs : Wanted → Piece → Type 0
IsAcceptedAs wanted piece = IsAccepted wanted.mode wanted.root.0 piece.text (nodes_of piece)

-- the outline was accepted under the root in the mode
abbrev pub IsOfRoot : Wanted → Outline → Type 0
IsOfRoot wanted outline = (outline_mode outline ≡ wanted.mode) × (outline_root outline ≡ wanted.root.0)

-- so it was, where plain copies are given
abbrev pub IsFitting : Wanted → Form → Type 0
IsFitting wanted Slices = Unit {0}
IsFitting wanted (Bare outline) = IsOfRoot wanted outline.now

-- a range that begins there is asked for: at a chunk of the length that the outline claims
abbrev pub IsWithin : Form → ℕ → Type 0
IsWithin Slices at = Unit {0}
IsWithin (Bare outline) at = (at % 1024 ≡ 0) × (at / 1024 < chunk_count (outline_claimed outline.now))

-- How many bytes the slice has that `span` bytes from a place on are checked by: as many, or, of a plain copy, as many as the chunks may have that they begin
-- in, as far as that length goes.
abbrev pub span_in : Form → ℕ → ℕ → ℕ
span_in Slices at span = span
span_in (Bare outline) at span = bare_part (min (chunk_count span) (chunk_count (outline_claimed outline.now) - at / 1024))

-- what a source gives for it: a slice, or a part of a plain copy
abbrev pub gives_in : {S : Type 0} → Form → (S → Option (List ℕ)) → (S → Type 0) → S → ℕ → ℕ → List ℕ → Type 0
gives_in Slices contents faultless source at span text = source_gives contents faultless source at span text
gives_in (Bare outline) contents faultless source at span text = part_gives contents faultless source at (bare_len (outline_claimed outline.now) at span) text

-- the slice that this is, or that the outline's parents and this part make
abbrev pub slice_in : Form → ℕ → ℕ → List ℕ → Piece
slice_in Slices at span text = slice_piece at span text
slice_in (Bare outline) at span text = slice_piece at span (beside_text (outline_text outline.now) at span text)

-- A slice isn't accepted, or lacks a chunk of those that `len` bytes from a place on begin in.
abbrev pub HasNot : Wanted → Piece → ℕ → ℕ → Type 0
HasNot wanted piece at len = (IsAcceptedAs wanted piece → ⊥) ⊎ (AreBytes piece.text × LacksChunk piece at len)

-- What a source gave for a part isn't accepted, or lacks a chunk of it.
abbrev pub HasRefused : {S : Type 0} → Form → (S → Option (List ℕ)) → (S → Type 0) → Wanted → S → ℕ → ℕ → ℕ → Type 0
HasRefused form contents faultless wanted source at len span =
    (text : List ℕ) × AreBytes text × gives_in form contents faultless source at (span_in form at span) text
    × HasNot wanted (slice_in form at (span_in form at span) text) at len

-- What the source at this place gave for `span` bytes from a place on isn't accepted, or lacks a chunk that the first `len` of them begin in. Of plain copies
-- this is so where the outline is of the root and has the first chunk.
abbrev pub Refuses : {S : Type 0} → (S → Option (List ℕ)) → (S → Type 0) → Wanted → List S → ℕ → ℕ → ℕ → ℕ → Type 0
Refuses contents faultless wanted sources at len span place =
    IsFitting wanted wanted.form → IsWithin wanted.form at → (source : _) → slice_get sources place ≡ Some source
    → HasRefused wanted.form contents faultless wanted source at len span

-- what each of them gave
abbrev pub AllRefuse : {S : Type 0} → (S → Option (List ℕ)) → (S → Type 0) → Wanted → List S → ℕ → ℕ → ℕ → Type 0
AllRefuse contents faultless wanted sources at len span = (place : ℕ) → place < length sources → Refuses contents faultless wanted sources at len span place

-- no source has a chunk of a part by itself
pub record LacksOne {S : Type 0} (contents : S → Option (List ℕ)) (faultless : S → Type 0) (wanted : Wanted) (sources : List S) (at len : ℕ) : Type 0 where
  pub came : ℕ
  pub whole : came % 1024 ≡ 0
  pub below : came < len
  pub refused : AllRefuse contents faultless wanted sources (at + came) (min 1024 (len - came)) 1024

-- none has the chunks of a group, nor, where they are asked for each chunk by itself, one of its chunks
pub record LacksGroup {S : Type 0} (contents : S → Option (List ℕ)) (faultless : S → Type 0) (wanted : Wanted) (sources : List S) (at len : ℕ) : Type 0 where
  pub group : AllRefuse contents faultless wanted sources at len 65536
  pub chunk : wanted.grain ≡ ByChunk → LacksOne contents faultless wanted sources at len

-- none has some group of a blob of `total` bytes
pub record IsMissing {S : Type 0} (contents : S → Option (List ℕ)) (faultless : S → Type 0) (wanted : Wanted) (sources : List S) (total : ℕ) : Type 0 where
  pub at : ℕ
  pub whole : at % 65536 ≡ 0
  pub below : at < total
  pub lacks : LacksGroup contents faultless wanted sources at (min 65536 (total - at))

-- A byte is asked for to come by the length: the last that a blob may have, or the first of the last chunk of the length that the outline claims.
abbrev pub end_start : Form → ℕ
end_start Slices = 2 ^ 64 - 1
end_start (Bare outline) = 1024 * (chunk_count (outline_claimed outline.now) - 1)

abbrev pub end_span : Form → ℕ
end_span form = span_in form (end_start form) 1

-- Of the slice that what a source gave for the length makes this is so.
abbrev pub GaveEnd : {S : Type 0} → Form → (S → Option (List ℕ)) → (S → Type 0) → S → (Piece → Type 0) → Type 0
GaveEnd form contents faultless source P =
    (text : List ℕ) × gives_in form contents faultless source (end_start form) (end_span form) text × P (slice_in form (end_start form) (end_span form) text)

-- it isn't accepted, or hasn't the last chunk of the length that it claims
abbrev pub IsNoEnd : Wanted → Piece → Type 0
IsNoEnd wanted piece = (IsAcceptedAs wanted piece → ⊥) ⊎ (EndsBlob piece → ⊥)

abbrev pub HasRefusedEnd : {S : Type 0} → Form → (S → Option (List ℕ)) → (S → Type 0) → Wanted → S → Type 0
HasRefusedEnd form contents faultless wanted source = GaveEnd form contents faultless source (IsNoEnd wanted)

-- it is accepted, and has the last chunk of the length that it claims, which is this
abbrev pub IsEndOf : Wanted → ℕ → Piece → Type 0
IsEndOf wanted l piece = IsAcceptedAs wanted piece × EndsBlob piece × (l ≡ length_of piece)

-- So it is of the source at this place. Where plain copies are given, the outline is of the root.
abbrev pub CertifiesEnd : {S : Type 0} → (S → Option (List ℕ)) → (S → Type 0) → Wanted → List S → ℕ → ℕ → Type 0
CertifiesEnd {S} contents faultless wanted sources place l =
    (source : S) × (slice_get sources place ≡ Some source) × IsFitting wanted wanted.form × GaveEnd wanted.form contents faultless source (IsEndOf wanted l)

-- So it is of the source at this place. Of plain copies this is so where the outline is of the root.
abbrev pub RefusesEnd : {S : Type 0} → (S → Option (List ℕ)) → (S → Type 0) → Wanted → List S → ℕ → Type 0
RefusesEnd contents faultless wanted sources place =
    IsFitting wanted wanted.form → (source : _) → slice_get sources place ≡ Some source → HasRefusedEnd wanted.form contents faultless wanted source

-- the bytes of each source are known, as many as a file or a slice of memory can have, and no read of it fails
abbrev pub AreSound : {S : Type 0} → (S → Option (List ℕ)) → (S → Type 0) → List S → Type 0
AreSound contents faultless sources =
    (i : ℕ) (source : _) → slice_get sources i ≡ Some source → (bytes : List ℕ) × (contents source ≡ Some bytes) × (length bytes < 2 ^ 64) × faultless source

-- The first of the sources that has the last chunk certifies this length by it.
pub record IsFirstEnd {S : Type 0} (contents : S → Option (List ℕ)) (faultless : S → Type 0) (wanted : Wanted) (sources : List S) (l : ℕ) : Type 0 where
  pub place : ℕ
  pub below : place < length sources
  pub certifies : CertifiesEnd contents faultless wanted sources place l
  pub before : (k : ℕ) → k < place → RefusesEnd contents faultless wanted sources k

-- no source has the last chunk
abbrev pub HasNoEnd : {S : Type 0} → (S → Option (List ℕ)) → (S → Type 0) → Wanted → List S → Type 0
HasNoEnd contents faultless wanted sources = (place : ℕ) → place < length sources → RefusesEnd contents faultless wanted sources place

-- A slot of a window was to be filled: it has no fault and the bytes of its group with their value, or no source had them, or there was no memory.
pub record IsTried {S : Type 0} (contents : S → Option (List ℕ)) (faultless : S → Type 0) (wanted : Wanted) (sources : List S) (start total number : ℕ) (slot : Slot) : Type 0 where
  pub filled : slot.fault ≡ None → IsOfSlot (IsFrom wanted contents faultless sources) (fixed_for wanted) start total number slot
  pub fault : IfSome slot.fault (λ fault. (fault ≡ Unfinished) ⊎ (fault ≡ Starved))
  pub missing : slot.fault ≡ Some Unfinished → IsMissing contents faultless wanted sources total

-- A window was to be filled from a place on: it has the bytes of the blob there, or no source had some of them, or there was no memory.
pub record IsFilled {S : Type 0} (contents : S → Option (List ℕ)) (faultless : S → Type 0) (wanted : Wanted) (sources : List S) (start total : ℕ) (old new : List Slot) (result : Result Unit GatherFault) : Type 0 where
  pub same : length new ≡ length old
  pub whole : OnOk result (AreOfWindow (IsFrom wanted contents faultless sources) (fixed_for wanted) start total new)
  pub fault : IfErr result (λ fault. (fault ≡ Unfinished) ⊎ (fault ≡ Starved))
  pub missing : IsErrOf result Unfinished → IsMissing contents faultless wanted sources total
