-- The first fault of an encoding that isn't accepted, in the order of the encoding.
use Rattle.std.specs.Prelude.{◌≡◌, ℕ, ◌<◌, ◌≤◌, ◌⊎◌, List, ◌∷◌, ◌++◌, length}
use Rattle.std.specs.List.{AllByRecursion}
use Rattle.b3tree.specs.declared.mode.Mode.{Mode}
use Rattle.bao_text.specs.Nodes.{TreeNode}
use Rattle.bao_check.specs.declared.fault.CheckFault.{CheckFault}
use Rattle.bao_check.specs.declared.fault.CheckFault.TheVariants.{Short, Mismatch, Trailing, Memory, Reader}
use Rattle.bao_check.specs.Accepted.{IsGoodNode, end_of, places_of, text_end}

-- the number of each fault
abbrev pub number_of : CheckFault → ℕ
number_of (Short at) = 501
number_of (Mismatch at) = 502
number_of (Trailing at) = 503
number_of Memory = 504
number_of Reader = 505

-- the first of the places whose node isn't good
pub record IsFirstBad (mode : Mode) (root text : List ℕ) (places : List (ℕ × TreeNode)) (place : ℕ × TreeNode) : Type 0 where
  pub earlier : List (ℕ × TreeNode)
  pub later : List (ℕ × TreeNode)
  pub split : places ≡ earlier ++ place ∷ later
  pub good : AllByRecursion (IsGoodNode mode root text places) earlier
  pub bad : ¬ IsGoodNode mode root text places place

-- The encoding's first fault is `Short`: it ends within its length, or within the first node that isn't good.
-- `at` is where that begins.
abbrev pub IsShortAt : Mode → List ℕ → List ℕ → List TreeNode → ℕ → Type 0
IsShortAt mode root text nodes at =
    ((length text < 8) × (at ≡ 0))
    ⊎ ((8 ≤ length text)
    × ((place : ℕ × TreeNode) × IsFirstBad mode root text (places_of nodes) place × (at ≡ place.0) × (length text < end_of place)))

-- The encoding's first fault is `Mismatch`: the first node that isn't good is complete.
abbrev pub IsMismatchAt : Mode → List ℕ → List ℕ → List TreeNode → ℕ → Type 0
IsMismatchAt mode root text nodes at =
    (8 ≤ length text)
    × ((place : ℕ × TreeNode) × IsFirstBad mode root text (places_of nodes) place × (at ≡ place.0) × (end_of place ≤ length text))

-- The encoding's first fault is `Trailing`: all nodes are good, and something follows them.
abbrev pub IsTrailingAt : Mode → List ℕ → List ℕ → List TreeNode → ℕ → Type 0
IsTrailingAt mode root text nodes at =
    (8 ≤ length text) × AllByRecursion (IsGoodNode mode root text (places_of nodes)) (places_of nodes) × (at ≡ text_end nodes) × (at < length text)

-- the fault is the encoding's first one
abbrev pub IsFirstFault : Mode → List ℕ → List ℕ → List TreeNode → CheckFault → Type 0
IsFirstFault mode root text nodes (Short at) = IsShortAt mode root text nodes at
IsFirstFault mode root text nodes (Mismatch at) = IsMismatchAt mode root text nodes at
IsFirstFault mode root text nodes (Trailing at) = IsTrailingAt mode root text nodes at
IsFirstFault mode root text nodes Memory = ⊥
IsFirstFault mode root text nodes Reader = ⊥

-- the fault of a node that isn't good: its offset, and whether the node is complete
abbrev pub IsFaultAt : List ℕ → ℕ × TreeNode → CheckFault → Type 0
IsFaultAt text place (Short at) = (at ≡ place.0) × (length text < end_of place)
IsFaultAt text place (Mismatch at) = (at ≡ place.0) × (end_of place ≤ length text)
IsFaultAt text place (Trailing at) = ⊥
IsFaultAt text place Memory = ⊥
IsFaultAt text place Reader = ⊥

-- the first node that isn't good ends at `end`, and has this fault
pub record IsFirstStop (mode : Mode) (root text : List ℕ) (nodes : List TreeNode) (fault : CheckFault) (end : ℕ) : Type 0 where
  pub long : 8 ≤ length text
  pub place : ℕ × TreeNode
  pub bad : IsFirstBad mode root text (places_of nodes) place
  pub ends : end ≡ end_of place
  pub is : IsFaultAt text place fault
