-- The meaning of an audit of an accepted slice against a blob.
use Rattle.std.specs.Prelude.{◌≡◌, ◌≢◌, ℕ, ◌+◌, ◌<◌, List, length, Option, None, Some, slice_index_or}
use Rattle.b3word.specs.declared.input.Input.{Input}
use Rattle.b3tree.specs.Hashing.{hash}
use Rattle.bao_text.specs.Choice.{chunk_count}
use Rattle.bao_check.specs.declared.checked.Checked.{Checked}
use Rattle.bao_check.specs.Checked.{HoldsLast, piece_claimed, piece_mode, piece_places, piece_root, piece_text}
use Rattle.bao_check.specs.Inputs.{Names, blob_inputs, text_inputs}
use Rattle.bao_check.specs.Parents.{parent_in, parent_of}
use Rattle.bao_check.specs.Pieces.{chunk_in, chunk_of}
use Rattle.bao_bind.specs.declared.chunk_run.ChunkRun.{ChunkRun}
use Rattle.bao_bind.specs.declared.verdict.ParentVerdict.{ParentVerdict}
use Rattle.bao_bind.specs.declared.verdict.ParentVerdict.TheVariants as parents
use Rattle.bao_bind.specs.declared.verdict.Verdict.{Verdict}
use Rattle.bao_bind.specs.declared.verdict.Verdict.TheVariants.{Agrees, Collision}

-- Each chunk of the slice is the blob's chunk of that index, and if it has the last chunk of the length that it
-- claims, that length is the blob's.
pub record AgreesWith (blob : List ℕ) (piece : Checked) : Type 0 where
  pub chunks : (number : ℕ) (bytes : List ℕ) → chunk_in (piece_text piece) (piece_places piece) number ≡ Some bytes → chunk_of blob number ≡ Some bytes
  pub tail : HoldsLast piece → piece_claimed piece ≡ length blob

-- x is an input of the blob in the slice's mode, and y one of the slice; they differ, and have the same
-- chaining value
abbrev pub NamesFrom : List ℕ → Checked → Input → Input → Type 0
NamesFrom blob piece x y =
    Names (blob_inputs (piece_mode piece) blob) (text_inputs (piece_mode piece) (piece_text piece) (piece_places piece)) x y

-- the meaning of a verdict about a blob and an accepted slice
abbrev pub Says : List ℕ → Checked → Verdict → Type 0
Says blob piece Agrees = AgreesWith blob piece
Says blob piece (Collision ours theirs) = (¬ AgreesWith blob piece) × NamesFrom blob piece ours theirs

-- Each parent of the slice is the blob's parent at that boundary.
abbrev pub HasParentsOf : List ℕ → Checked → Type 0
HasParentsOf blob piece = (m : ℕ) (bytes : List ℕ) → parent_in (piece_text piece) (piece_places piece) m ≡ Some bytes → parent_of (piece_mode piece) blob m ≡ Some bytes

-- the meaning of a verdict about a blob and the parents of an accepted slice
abbrev pub SaysOfParents : List ℕ → Checked → ParentVerdict → Type 0
SaysOfParents blob piece parents.Agrees = (piece_claimed piece ≡ length blob) × HasParentsOf blob piece
SaysOfParents blob piece parents.OtherLength = piece_claimed piece ≢ length blob
SaysOfParents blob piece (parents.Collision ours theirs) = (piece_claimed piece ≡ length blob) × (¬ HasParentsOf blob piece) × NamesFrom blob piece ours theirs

-- The bytes are the blob's chunk of that index, and they end the blob if they end the length that the slice
-- claims.
abbrev pub IsOurs : List ℕ → ℕ → ℕ → List ℕ → Type 0
IsOurs blob claimed number bytes = (chunk_of blob number ≡ Some bytes) × (number + 1 ≡ chunk_count claimed → claimed ≡ length blob)

-- The result of comparing the slice's chunks before index `to`: all are the blob's, or this one isn't.
abbrev pub Compared : List ℕ → Checked → ℕ → Option ChunkRun → Type 0
Compared blob piece to None =
    (number : ℕ) (bytes : List ℕ) → number < to → chunk_in (piece_text piece) (piece_places piece) number ≡ Some bytes → IsOurs blob (piece_claimed piece) number bytes
Compared blob piece to (Some chunk) =
    (chunk_in (piece_text piece) (piece_places piece) chunk.first ≡ Some chunk.bytes.now) × (¬ IsOurs blob (piece_claimed piece) chunk.first chunk.bytes.now)

-- The slice's root is the blob's hash in the slice's mode.
abbrev pub HasRootOfPiece : List ℕ → Checked → Type 0
HasRootOfPiece blob piece = hash (piece_mode piece) blob ≡ piece_root piece

-- The three results of an audit: the slice agrees with the blob, has another root, or exhibits a collision.
abbrev pub IsOfBlob : List ℕ → Checked → Type 0
IsOfBlob blob piece = HasRootOfPiece blob piece × AgreesWith blob piece

abbrev pub IsOfOther : List ℕ → Checked → Type 0
IsOfOther blob piece = ¬ HasRootOfPiece blob piece

abbrev pub IsForged : List ℕ → Checked → Type 0
IsForged blob piece = HasRootOfPiece blob piece × (¬ AgreesWith blob piece)

-- All slices before index i agree with the blob, and P holds of slice i.
abbrev pub IsFirst : (Checked → Type 0) → List ℕ → List Checked → ℕ → Type 0
IsFirst P blob pieces i =
    (i < length pieces) × ((k : ℕ) (d : Checked) → k < i → IsOfBlob blob (slice_index_or pieces k d)) × ((d : Checked) → P (slice_index_or pieces i d))
