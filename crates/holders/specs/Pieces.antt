-- Accepted slices: their encodings, the chunks that they have, and the length that the last chunk certifies.
use Rattle.std.specs.Prelude.{◌≡◌, ℕ, ◌+◌, ◌-◌, List, Bool, true, Option, is_some}
use Rattle.b3tree.specs.Valid.{AreBytes}
use Rattle.bao_text.specs.Choice.{chunk_count}
use Rattle.bao_text.specs.Cut.{claimed}
use Rattle.bao_text.specs.Nodes.{TreeNode}
use Rattle.bao_check.specs.declared.checked.Checked.{Checked}
use Rattle.bao_check.specs.Checked.{piece_len, piece_start, piece_text}
use Rattle.bao_check.specs.Accepted.{IsAccepted, places_of, slice_nodes}
use Rattle.bao_check.specs.Parents.{parent_in}
use Rattle.bao_check.specs.Pieces.{chunk_in}
use Rattle.holders.specs.declared.fixed.Fixed.{Fixed}
use Rattle.holders.specs.declared.piece.Piece.{Piece}

-- the nodes of a slice's encoding, by the range asked for and the length that it claims
abbrev pub nodes_of : Piece → List TreeNode
nodes_of piece = slice_nodes piece.text piece.start piece.len

-- these nodes with their offsets
abbrev pub places_in : Piece → List (ℕ × TreeNode)
places_in piece = places_of (nodes_of piece)

-- The encoding consists of bytes, and is accepted under the store's root in its mode. Its chunks are counted
-- from the store's first.
pub record IsAcceptedPiece (fixed : Fixed) (piece : Piece) : Type 0 where
  pub bytes : AreBytes piece.text
  pub accepted : IsAccepted fixed.mode fixed.root.0 piece.text (nodes_of piece)
  pub base : piece.base ≡ fixed.base

-- the bytes of the store's chunk c, which is the blob's chunk base + c, if the slice has it
abbrev pub chunk_bytes : Piece → ℕ → Option (List ℕ)
chunk_bytes piece c = chunk_in piece.text (places_in piece) (piece.base + c)

abbrev pub holds_chunk : Piece → ℕ → Bool
holds_chunk piece c = is_some (chunk_bytes piece c)

-- the 64 bytes of the parent whose right child begins at chunk m, if the slice has it
abbrev pub parent_bytes : Piece → ℕ → Option (List ℕ)
parent_bytes piece m = parent_in piece.text (places_in piece) m

abbrev pub holds_parent : Piece → ℕ → Bool
holds_parent piece m = is_some (parent_bytes piece m)

-- the blob's length in bytes that the slice claims
abbrev pub length_of : Piece → ℕ
length_of piece = claimed piece.text

-- The slice has the last chunk of that length, so its certificate goes right at every parent, and the length is
-- 1024 times the chunk's index plus its size.
abbrev pub EndsBlob : Piece → Type 0
EndsBlob piece = is_some (chunk_in piece.text (places_in piece) (chunk_count (length_of piece) - 1)) ≡ true

-- the accepted slice as a store with this base uses it
abbrev pub piece_of : ℕ → Checked → Piece
piece_of base checked = record { base = base; start = piece_start checked; len = piece_len checked; text = piece_text checked }
