-- What an accepted slice is of.
use Rattle.std.specs.Prelude.{◌≡◌, ℕ, ◌-◌, ◌≤◌, List, Some, is_some, length, true}
use Rattle.std.proofs.Math.Bool.{Bool-set}
use Rattle.b3tree.specs.declared.mode.Mode.{Mode}
use Rattle.bao_text.specs.Choice.{chunk_count}
use Rattle.bao_text.specs.Cut.{claimed}
use Rattle.bao_text.specs.Nodes.{TreeNode}
use Rattle.bao_check.specs.declared.checked.Checked.{Checked}
use Rattle.bao_check.specs.Bodies.{text_of}
use Rattle.bao_check.specs.Certificate.{Certificate, IsLast}
use Rattle.bao_check.specs.Pieces.{chunk_in}
use Rattle.bao_check.specs.Accepted.{places_of, slice_nodes}
use Rattle.bao_check.specs.Steps.{steps_to}

abbrev pub piece_mode : Checked → Mode
piece_mode piece = piece.mode

-- the root under which its encoding was accepted, 32 bytes
abbrev pub piece_root : Checked → List ℕ
piece_root piece = piece.root.0

abbrev pub piece_text : Checked → List ℕ
piece_text piece = text_of piece.body piece.start piece.len

-- the first position of the slice that it was accepted as
abbrev pub piece_start : Checked → ℕ
piece_start piece = piece.start

abbrev pub piece_len : Checked → ℕ
piece_len piece = piece.len

-- the nodes of its encoding, by the slice that was asked for and the length that it claims
abbrev pub piece_nodes : Checked → List TreeNode
piece_nodes piece = slice_nodes (piece_text piece) piece.start piece.len

-- the nodes with their offsets
abbrev pub piece_places : Checked → List (ℕ × TreeNode)
piece_places piece = places_of (piece_nodes piece)

-- the blob's length that its encoding claims
abbrev pub piece_claimed : Checked → ℕ
piece_claimed piece = claimed (piece_text piece)

-- the piece has the last chunk of the length that it claims
abbrev pub HoldsLast : Checked → Type 0
HoldsLast piece = is_some (chunk_in (piece_text piece) (piece_places piece) (chunk_count (piece_claimed piece) - 1)) ≡ true

-- has at most one proof, as a ghost field requires
pub HoldsLast-prop : (piece : Checked) → IsProp (HoldsLast piece)
HoldsLast-prop piece = Bool-set _ _

-- A certificate that the bytes, at most 1024, are chunk `number`. Its steps are exactly the parents that the
-- slice's own encoding has above that chunk.
pub record HasCertificate (piece : Checked) (number : ℕ) (bytes : List ℕ) : Type 0 where
  pub certificate : Certificate (piece_mode piece) (piece_root piece) number bytes
  pub steps_are : certificate.steps ≡ steps_to (piece_text piece) (piece_places piece) number
  pub size : length bytes ≤ 1024

-- the encoding has the last chunk of a blob of `total` bytes, and a certificate of it whose path goes right at
-- every parent
pub record HasLastCertificate (piece : Checked) (total : ℕ) : Type 0 where
  pub bytes : List ℕ
  pub there : chunk_in (piece_text piece) (piece_places piece) (chunk_count total - 1) ≡ Some bytes
  pub own : HasCertificate piece (chunk_count total - 1) bytes
  pub last : IsLast own.certificate

-- the accepted slice is this encoding, accepted as the slice (start, len) under the root in the mode
pub record IsPiece (piece : Checked) (mode : Mode) (root : List ℕ) (start len : ℕ) (text : List ℕ) : Type 0 where
  pub mode_is : piece.mode ≡ mode
  pub root_is : piece.root.0 ≡ root
  pub start_is : piece.start ≡ start
  pub len_is : piece.len ≡ len
  pub text_is : piece_text piece ≡ text
