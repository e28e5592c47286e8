-- What holders give between them where some of it is a blob's slices.
use Rattle.std.specs.Prelude.{◌≡◌, ℕ, ◌+◌, ◌*◌, ◌/◌, ◌^◌, ◌-◌, ◌<◌, ◌≤◌, true, List, length, Some, slice_get}
use Rattle.b3tree.specs.declared.mode.Mode.{Mode}
use Rattle.bao_check.specs.Accepted.{IsAccepted, slice_nodes}
use Rattle.bao_text.specs.Choice.{chunk_count}
use Rattle.bao_text.specs.Texts.{slice_text}
use Rattle.holders.specs.declared.grain.Grain.{Grain}
use Rattle.holders.specs.declared.grain.Grain.TheVariants.{Group as ByGroup, Chunk as ByChunk}
use Rattle.holders.specs.declared.fixed.Fixed.{Fixed}
use Rattle.holders.specs.declared.piece.Piece.{Piece}
use Rattle.holders.specs.Room.{has_room}
use Rattle.holders.specs.Pieces.{EndsBlob, holds_chunk, holds_parent, length_of}

-- the slice of a blob, as a piece to a store
abbrev pub slice_of : Fixed → List ℕ → ℕ → ℕ → Piece
slice_of fixed blob start len = record { base = fixed.base; start = start; len = len; text = slice_text fixed.mode blob start len }

-- the slice (start, len) that holders are asked for to come by a chunk: that of its group, or its own
abbrev pub IsAskedBy : Grain → ℕ → ℕ → ℕ → Type 0
IsAskedBy ByGroup c start len = (start ≡ 65536 * (c / 64)) × (len ≡ 65536)
IsAskedBy ByChunk c start len = (start ≡ 1024 * c) × (len ≡ 1024)

-- The slices of a blob, under a store's root and in its mode: each is accepted and claims the blob's length, for which
-- the store has room; the one of the last byte has the last chunk; and the one that a chunk is asked for by has the chunk.
pub record IsServed (fixed : Fixed) (blob : List ℕ) : Type 0 where
  pub fits : has_room fixed (length blob) ≡ true
  pub room : chunk_count (length blob) ≤ fixed.capacity
  pub few : chunk_count (length blob) ≤ 65536
  pub accepted : (start len : ℕ) → IsAccepted fixed.mode fixed.root.0 (slice_text fixed.mode blob start len) (slice_nodes (slice_text fixed.mode blob start len) start len)
  pub claims : (start len : ℕ) → length_of (slice_of fixed blob start len) ≡ length blob
  pub ends : (start len : ℕ) → length blob ≤ start + len → EndsBlob (slice_of fixed blob start len)
  pub holds : (c start len : ℕ) → c < chunk_count (length blob) → start ≤ 1024 * c → 1024 * c < start + len → holds_chunk (slice_of fixed blob start len) c ≡ true
  pub parents : (m start len : ℕ) → 0 < m → m < chunk_count (length blob) → start ≤ 1024 * m → 1024 * m < start + len → holds_parent (slice_of fixed blob start len) m ≡ true

-- what a holder gives as the slice (start, len) is the blob's
abbrev pub GivesSlice : {H : Type 0} → (H → ℕ → ℕ → List ℕ → Type 0) → Mode → List ℕ → ℕ → ℕ → H → Type 0
GivesSlice gives mode blob start len holder = (text : List ℕ) → gives holder start len text → text ≡ slice_text mode blob start len

-- one of these holders gives it, whatever it gives as other slices
pub record HasSlice {H : Type 0} (gives : H → ℕ → ℕ → List ℕ → Type 0) (mode : Mode) (blob : List ℕ) (start len : ℕ) (holders : List H) : Type 0 where
  pub place : ℕ
  pub holder : H
  pub there : slice_get holders place ≡ Some holder
  pub gives_slice : GivesSlice gives mode blob start len holder

-- One of them gives the slice of the last byte, and one the slice that a chunk is asked for by, for each chunk of the blob.
pub record HaveSlices {H : Type 0} (grain : Grain) (gives : H → ℕ → ℕ → List ℕ → Type 0) (mode : Mode) (blob : List ℕ) (holders : List H) : Type 0 where
  pub end : HasSlice gives mode blob (2 ^ 64 - 1) 1 holders
  pub each : (c start len : ℕ) → c < chunk_count (length blob) → IsAskedBy grain c start len → HasSlice gives mode blob start len holders

-- a holder gives nothing but slices of the blob
abbrev pub GivesSlices : {H : Type 0} → (H → ℕ → ℕ → List ℕ → Type 0) → Mode → List ℕ → H → Type 0
GivesSlices gives mode blob holder = (start len : ℕ) → GivesSlice gives mode blob start len holder

-- one of these holders does
pub record HasTrue {H : Type 0} (gives : H → ℕ → ℕ → List ℕ → Type 0) (mode : Mode) (blob : List ℕ) (holders : List H) : Type 0 where
  pub place : ℕ
  pub holder : H
  pub there : slice_get holders place ≡ Some holder
  pub gives_slices : GivesSlices gives mode blob holder
