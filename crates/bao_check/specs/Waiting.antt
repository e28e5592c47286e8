-- What is still to come of an encoding that is checked while it arrives: the wanted nodes of subtrees.
use Rattle.std.specs.Prelude.{◌≡◌, ◌⊎◌, ℕ, ◌+◌, ◌-◌, ◌<◌, ◌≤◌, Bool, false, true, is_some, List, [], ◌∷◌, ◌++◌, length, take, map, slice_get, nat_le, Option, None, Some, if◌then◌else◌}
use Rattle.std.specs.Option.{option_map}
use Rattle.b3tree.specs.declared.mode.Mode.{Mode}
use Rattle.b3tree.specs.declared.values.Cv.{Cv}
use Rattle.bao_text.specs.declared.choice.Choice.{Choice}
use Rattle.bao_text.specs.declared.walk.WaitingSubtree.{WaitingSubtree}
use Rattle.bao_text.specs.NodeNames.{AreWaiting, AreWaiting-prop}
use Rattle.bao_check.specs.declared.asked.Asked.{Asked}
use Rattle.bao_check.specs.declared.fault.CheckFault.{CheckFault}
use Rattle.bao_check.specs.declared.fault.CheckFault.TheVariants.{Mismatch, Trailing}
use Rattle.bao_check.specs.declared.part.WaitingPart.{WaitingPart}
use Rattle.bao_check.specs.Accepted.{IsAccepted, slice_nodes}
use Rattle.bao_check.specs.Faults.{IsFirstFault, IsFirstStop}
use Rattle.bao_check.specs.Walk.{PassesIn, StopsIn}

-- the subtree of a part
abbrev pub shape : WaitingPart → WaitingSubtree
shape part = record { number = part.number; len = part.len }

-- each part is wanted, and has fewer levels of parents than the one before it
abbrev pub AreParts : Choice → List WaitingPart → Type 0
AreParts choice parts = AreWaiting choice 54 (map shape parts)

-- has at most one proof, as a ghost field requires
pub AreParts-prop : (choice : Choice) (parts : List WaitingPart) → IsProp (AreParts choice parts)
AreParts-prop choice parts = AreWaiting-prop choice 54 (map shape parts)

-- the part that comes next: the last of the list
abbrev pub last_part : List WaitingPart → Option WaitingPart
last_part parts = slice_get parts (length parts - 1)

-- the length in bytes of the first node of a part: a chunk's own, and 64 for a parent
abbrev pub part_size : WaitingPart → ℕ
part_size part = if nat_le part.len 1024 then part.len else 64

-- the length in bytes of the next node, if there is one
abbrev pub next_size : List WaitingPart → Option ℕ
next_size parts = option_map part_size (last_part parts)

-- whether the next node is a chunk
abbrev pub is_chunk_first : Option WaitingPart → Bool
is_chunk_first None = false
is_chunk_first (Some part) = nat_le part.len 1024

abbrev pub chunk_waits : List WaitingPart → Bool
chunk_waits parts = is_chunk_first (last_part parts)

-- what a parent requires of the child with this value
abbrev pub below_parent : Cv → Asked
below_parent value = record { top = false; value = value }

-- The result of checking the wanted nodes of a subtree: all are good, and the last ends at `end`; or this is
-- their first fault, at a node that ends there.
abbrev pub PartComes : Asked → Mode → Choice → ℕ → ℕ → List ℕ → ℕ → Option CheckFault → ℕ → Type 0
PartComes asked mode choice number n text at None end = PassesIn asked mode choice number n text at end
PartComes asked mode choice number n text at (Some fault) end = StopsIn asked mode choice number n text at fault end

-- the result of checking the nodes of the parts, which begin at offset `at` of the encoding
abbrev pub AllCome : Mode → Choice → List WaitingPart → List ℕ → ℕ → Option CheckFault → ℕ → Type 0
AllCome mode choice [] text at o end = (o ≡ None) × (at ≡ end)
AllCome mode choice (part ∷ later) text at o end =
    ((is_some o ≡ true) × AllCome mode choice later text at o end)
    ⊎ ((middle : ℕ) × AllCome mode choice later text at None middle × PartComes part.asked mode choice part.number part.len text middle o end)

-- the result of checking a subtree, and then the parts
abbrev pub FirstComes : Asked → ℕ → ℕ → Mode → Choice → List WaitingPart → List ℕ → ℕ → Option CheckFault → ℕ → Type 0
FirstComes asked number n mode choice parts text at o end =
    ((is_some o ≡ true) × PartComes asked mode choice number n text at o end)
    ⊎ ((middle : ℕ) × PassesIn asked mode choice number n text at middle × AllCome mode choice parts text middle o end)

-- The new parts are the old with a subtree that comes first, unless it isn't wanted and so has no nodes.
pub record IsBefore (choice : Choice) (asked : Asked) (number n : ℕ) (before after : List WaitingPart) : Type 0 where
  pub comes : (mode : Mode) (text : List ℕ) (at : ℕ) (o : Option CheckFault) (end : ℕ) → at ≤ length text → AllCome mode choice after text at o end
      → FirstComes asked number n mode choice before text at o end

-- A node was accepted: in an encoding that has it there, the parts before it and those after it have the same
-- result.
pub record HasTaken (mode : Mode) (choice : Choice) (before after : List WaitingPart) (node : List ℕ) : Type 0 where
  pub comes : (taken more : List ℕ) (o : Option CheckFault) (end : ℕ) → AllCome mode choice after ((taken ++ node) ++ more) (length (taken ++ node)) o end
      → AllCome mode choice before ((taken ++ node) ++ more) (length taken) o end

-- A node of `size` bytes at the front of these bytes doesn't have the value required there. This is the first
-- fault of every encoding that has them there.
pub record HasRefused (mode : Mode) (choice : Choice) (parts : List WaitingPart) (at size : ℕ) (bytes : List ℕ) (fault : CheckFault) : Type 0 where
  pub is : fault ≡ Mismatch at
  pub stops : (taken more : List ℕ) → at ≡ length taken → AllCome mode choice parts ((taken ++ bytes) ++ more) (length taken) (Some fault) (length taken + size)

-- Nodes were accepted, the first `used` of these bytes, and the node after them is refused. This is the first
-- fault of every encoding that has the bytes there.
pub record HasRefusedIn (mode : Mode) (choice : Choice) (before after : List WaitingPart) (at used : ℕ) (bytes : List ℕ) (fault : CheckFault) : Type 0 where
  pub within : used ≤ length bytes
  pub taken : HasTaken mode choice before after (take used bytes)
  pub is : fault ≡ Mismatch (at + used)
  pub stops : (had more : List ℕ) → at ≡ length had → (end : ℕ) × AllCome mode choice before ((had ++ bytes) ++ more) (length had) (Some fault) end

-- what an encoding is checked against: the slice (start, len) of the blob with the hash `root`
pub record CheckTask : Type 0 where
  pub mode : Mode
  pub root : List ℕ
  pub start : ℕ
  pub len : ℕ

-- the encoding is accepted as this slice
abbrev pub IsAcceptedAs : CheckTask → List ℕ → Type 0
IsAcceptedAs task text = IsAccepted task.mode task.root text (slice_nodes text task.start task.len)

-- as this slice, the encoding's first fault is this, at a node that ends at `end`
abbrev pub IsStopAs : CheckTask → List ℕ → CheckFault → ℕ → Type 0
IsStopAs task text fault end = IsFirstStop task.mode task.root text (slice_nodes text task.start task.len) fault end

-- as this slice, the encoding's first fault is this
abbrev pub IsFaultAs : CheckTask → List ℕ → CheckFault → Type 0
IsFaultAs task text fault = IsFirstFault task.mode task.root text (slice_nodes text task.start task.len) fault

-- The result of checking the parts, which begin at offset `at`, says whether the encoding is accepted, and else
-- its first fault.
pub record WaitsIn (task : CheckTask) (choice : Choice) (parts : List WaitingPart) (text : List ℕ) (at : ℕ) : Type 0 where
  pub accepted : (end : ℕ) → AllCome task.mode choice parts text at None end → length text ≤ end → IsAcceptedAs task text
  pub trailing : (end : ℕ) → AllCome task.mode choice parts text at None end → end < length text → IsFaultAs task text (Trailing end)
  pub stopped : (fault : CheckFault) (end : ℕ) → AllCome task.mode choice parts text at (Some fault) end → IsStopAs task text fault end
