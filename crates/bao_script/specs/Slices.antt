-- The slices that a script's lines name, cut out of the files.
use Rattle.std.specs.Prelude.{◌≡◌, ℕ, List, [], ◌∷◌, ◌++◌, slice_index_or}
use Rattle.std.specs.List.{flat_map}
use Rattle.b3tree.specs.declared.mode.Mode.{Mode}
use Rattle.bao_text.specs.Cut.{cut_text}
use Rattle.bao_check.specs.declared.checked.Checked.{Checked}
use Rattle.bao_check.specs.declared.fault.CheckFault.{CheckFault}
use Rattle.bao_check.specs.Accepted.{IsAccepted, slice_nodes}
use Rattle.bao_check.specs.Faults.{IsFirstFault}
use Rattle.bao_check.specs.Checked.{IsPiece}
use Rattle.bao_script.specs.declared.line.Line.{Line}
use Rattle.bao_script.specs.declared.line.Line.TheVariants.{Hash}
use Rattle.bao_script.specs.declared.numbered.NumberedLine.{NumberedLine}
use Rattle.bao_script.specs.Forms.{NamesFile}

-- the encoding of the slice (start, len) that the line with this number names
pub record Slice : Type 0 where
  pub number : ℕ
  pub start : ℕ
  pub len : ℕ
  pub text : List ℕ

abbrev pub slice_of_line : List (List ℕ) → ℕ → Line → List Slice
slice_of_line files number (Hash seat file start len) =
    record { number = number; start = start; len = len; text = cut_text (slice_index_or files file []) start len } ∷ []
slice_of_line files number line = []

-- the slices of all lines, in order
abbrev pub slices_of : List (List ℕ) → List NumberedLine → List Slice
slices_of files lines = flat_map (λ line. slice_of_line files line.number line.line) lines

-- the lines only name files that were given
abbrev pub NameFiles : ℕ → List NumberedLine → Type 0
NameFiles files [] = Unit {0}
NameFiles files (line ∷ lines) = NamesFile files line.line × NameFiles files lines

-- the accepted slice is this slice, accepted under the root in the mode
pub record IsPieceOf (mode : Mode) (root : List ℕ) (slice : Slice) (piece : Checked) : Type 0 where
  pub accepted : IsAccepted mode root slice.text (slice_nodes slice.text slice.start slice.len)
  pub piece_is : IsPiece piece mode root slice.start slice.len slice.text

-- the accepted slices are these slices, one by one
abbrev pub ArePieces : Mode → List ℕ → List Slice → List Checked → Type 0
ArePieces mode root [] pieces = pieces ≡ []
ArePieces mode root (slice ∷ slices) pieces =
    (piece : Checked) × (rest : List Checked) × (pieces ≡ piece ∷ rest) × IsPieceOf mode root slice piece × ArePieces mode root slices rest

-- the slices are all accepted
abbrev pub AreAccepted : Mode → List ℕ → List Slice → Type 0
AreAccepted mode root slices = (pieces : List Checked) × ArePieces mode root slices pieces

-- The slice of the line with this number is the first that is refused, with this fault; those before it are
-- accepted.
pub record IsRefusedSlice (mode : Mode) (root : List ℕ) (slices : List Slice) (number : ℕ) (fault : CheckFault) : Type 0 where
  pub before : List Slice
  pub slice : Slice
  pub after : List Slice
  pub slices_are : slices ≡ before ++ slice ∷ after
  pub pieces : List Checked
  pub accepted : ArePieces mode root before pieces
  pub number_is : slice.number ≡ number
  pub first : IsFirstFault mode root slice.text (slice_nodes slice.text slice.start slice.len) fault
