-- Encodings that are read from a reader. What the reader has after the encoding is no fault.
use Rattle.std.specs.Prelude.{◌≡◌, ◌⊎◌, ℕ, ◌+◌, ◌<◌, ◌≤◌, List, ◌∷◌, ◌++◌, length, Option}
use Rattle.std.specs.List.{AllByRecursion}
use Rattle.std.specs.Borrow.{RattleType, u8}
use Rattle.std.specs.contracts.alloc.Global as global
use Rattle.std.specs.contracts.impls.GlobalAllocator.TheImpl.{ghosts}
use Rattle.std.specs.contracts.vec.Vec as vec
use Rattle.std.specs.Io.KnownBytes.{Consumes, IsAtEnd}
use Rattle.b3tree.specs.declared.mode.Mode.{Mode}
use Rattle.bao_text.specs.Nodes.{TreeNode}
use Rattle.bao_check.specs.declared.fault.CheckFault.{CheckFault}
use Rattle.bao_check.specs.declared.fault.CheckFault.TheVariants.{Short, Mismatch, Trailing, Memory, Reader}
use Rattle.bao_check.specs.Accepted.{IsAccepted, IsGoodNode, end_of, places_of, slice_nodes}
use Rattle.bao_check.specs.Faults.{IsFirstBad, IsMismatchAt, IsShortAt}

-- `Vec<u8>` in the logic, for the clause about the content of a vector once nothing borrows it
abbrev pub bytes_row : RattleType
bytes_row = vec.the_row u8 global.the_row ghosts

-- the bytes begin with an encoding that is accepted as the slice (start, len)
pub record BeginsAccepted (mode : Mode) (root : List ℕ) (start len : ℕ) (all : List ℕ) : Type 0 where
  pub text : List ℕ
  pub rest : List ℕ
  pub split : all ≡ text ++ rest
  pub accepted : IsAccepted mode root text (slice_nodes text start len)

-- The first fault of all that a reader has left, by the nodes of the slice (start, len) in it: `Short` and
-- `Mismatch` as in a complete encoding, and never `Trailing`. Lack of memory and a failed read aren't faults of
-- the encoding.
abbrev pub IsStreamFault : Mode → List ℕ → ℕ → ℕ → List ℕ → CheckFault → Type 0
IsStreamFault mode root start len all (Short at) = IsShortAt mode root all (slice_nodes all start len) at
IsStreamFault mode root start len all (Mismatch at) = IsMismatchAt mode root all (slice_nodes all start len) at
IsStreamFault mode root start len all (Trailing at) = ⊥
IsStreamFault mode root start len all Memory = Unit {0}
IsStreamFault mode root start len all Reader = Unit {0}

-- the fault is in the bytes: it is neither lack of memory nor a failed read
abbrev pub IsOfBytes : CheckFault → Type 0
IsOfBytes (Short at) = Unit {0}
IsOfBytes (Mismatch at) = Unit {0}
IsOfBytes (Trailing at) = Unit {0}
IsOfBytes Memory = ⊥
IsOfBytes Reader = ⊥

-- the bytes read end no later than the node at a place, and all nodes before it are good
pub record ReachesNode (mode : Mode) (root read : List ℕ) (places : List (ℕ × TreeNode)) (place : ℕ × TreeNode) : Type 0 where
  pub earlier : List (ℕ × TreeNode)
  pub later : List (ℕ × TreeNode)
  pub split : places ≡ earlier ++ place ∷ later
  pub good : AllByRecursion (IsGoodNode mode root read places) earlier
  pub within : length read ≤ end_of place

-- the bytes read end within the encoding's length, or no later than a node before which all are good
abbrev pub EndsWithin : Mode → List ℕ → List ℕ → List TreeNode → Type 0
EndsWithin mode root read nodes =
    (length read ≤ 8) ⊎ ((8 ≤ length read) × ((place : ℕ × TreeNode) × ReachesNode mode root read (places_of nodes) place))

-- The bytes read end with the first node that isn't good, which begins at `at`.
abbrev pub EndsMismatched : Mode → List ℕ → List ℕ → List TreeNode → ℕ → Type 0
EndsMismatched mode root read nodes at =
    (8 ≤ length read) × ((place : ℕ × TreeNode) × IsFirstBad mode root read (places_of nodes) place × (at ≡ place.0) × (length read ≡ end_of place))

-- bytes moved from the front of what a reader has left to the end of `old`
pub record Reads (old new : List ℕ) (before after : Option (List ℕ)) : Type 0 where
  pub bytes : List ℕ
  pub grown : new ≡ old ++ bytes
  pub consumed : Consumes before after bytes

-- why a node of `size` bytes was not read as a whole
abbrev pub IsCutShort : ℕ → List ℕ → List ℕ → Option (List ℕ) → CheckFault → Type 0
IsCutShort size old new after (Short at) = (at ≡ length old) × (length new < length old + size) × IsAtEnd after
IsCutShort size old new after (Mismatch at) = ⊥
IsCutShort size old new after (Trailing at) = ⊥
IsCutShort size old new after Memory = length new ≡ length old
IsCutShort size old new after Reader = length new < length old + size

-- What was read when a check refused: nothing after the node at which it ended. If the bytes are too few, the
-- reader has nothing left.
abbrev pub IsReadFault : Mode → List ℕ → ℕ → ℕ → List ℕ → Option (List ℕ) → CheckFault → Type 0
IsReadFault mode root start len read after (Short at) = IsShortAt mode root read (slice_nodes read start len) at × IsAtEnd after
IsReadFault mode root start len read after (Mismatch at) = EndsMismatched mode root read (slice_nodes read start len) at
IsReadFault mode root start len read after (Trailing at) = ⊥
IsReadFault mode root start len read after Memory = EndsWithin mode root read (slice_nodes read start len)
IsReadFault mode root start len read after Reader = EndsWithin mode root read (slice_nodes read start len)

-- as `IsReadFault`; and if a node isn't good, that is the first fault of every encoding that begins with the
-- bytes read
abbrev pub IsReadStop : Mode → List ℕ → ℕ → ℕ → List ℕ → Option (List ℕ) → CheckFault → Type 0
IsReadStop mode root start len read after (Short at) = IsReadFault mode root start len read after (Short at)
IsReadStop mode root start len read after (Mismatch at) =
    IsReadFault mode root start len read after (Mismatch at) × ((more : List ℕ) → IsMismatchAt mode root (read ++ more) (slice_nodes (read ++ more) start len) at)
IsReadStop mode root start len read after (Trailing at) = ⊥
IsReadStop mode root start len read after Memory = IsReadFault mode root start len read after Memory
IsReadStop mode root start len read after Reader = IsReadFault mode root start len read after Reader
