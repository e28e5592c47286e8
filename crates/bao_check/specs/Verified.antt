-- How much of an arriving outboard encoding is known to be good.
use Rattle.std.specs.Prelude.{◌≡◌, ◌⊎◌, ℕ, ◌+◌, ◌-◌, ◌*◌, ◌<◌, ◌≤◌, false, List, ◌++◌, length, take, Contains}
use Rattle.std.specs.List.{AllByRecursion, AllByRecursion-prop}
use Rattle.std.specs.Coded.{Π_prop, le_prop}
use Rattle.b3tree.specs.declared.mode.Mode.{Mode}
use Rattle.bao_text.specs.Choice.{chunk_count}
use Rattle.bao_text.specs.Cut.{claimed}
use Rattle.bao_text.specs.Nodes.{TreeNode, Side}
use Rattle.bao_check.specs.declared.asked.Asked.{Asked}
use Rattle.bao_check.specs.declared.fault.CheckFault.{CheckFault}
use Rattle.bao_check.specs.declared.fault.CheckFault.TheVariants.{Short, Mismatch, Trailing, Memory, Reader}
use Rattle.bao_check.specs.Accepted.{IsAccepted, IsGoodNode, input_at, outboard_nodes, places_of}
use Rattle.bao_check.specs.AcceptedProp.{IsGoodNode-prop}
use Rattle.bao_check.specs.Faults.{IsFirstFault, IsShortAt}
use Rattle.bao_check.specs.Walk.{IsAskedIn, IsGoodIn, Meets}

-- the offset at which parent k begins, and the first k end: the first 8 bytes are the length
abbrev pub nth_parent_at : ℕ → ℕ
nth_parent_at k = 8 + 64 * k

-- Among the places of a subtree of whose top `asked` is required there is a parent at offset `at`, which is
-- good exactly if it meets `own`.
pub record AsksAt (asked : Asked) (sides : List Side) (mode : Mode) (text : List ℕ) (places : List (ℕ × TreeNode)) (at : ℕ) (own : Asked) : Type 0 where
  pub place : ℕ × TreeNode
  pub there : Contains places place
  pub at_is : place.0 ≡ at
  pub is_parent : place.1.is_chunk ≡ false
  pub good : at + 64 ≤ length text → Meets own (input_at mode text place) → IsGoodIn asked sides mode text places place
  pub bad : ¬ Meets own (input_at mode text place) → ¬ IsAskedIn asked sides mode text places place

-- the parents of an outboard encoding by the length that it claims, with their offsets
abbrev pub parents_of : List ℕ → List (ℕ × TreeNode)
parents_of text = places_of (outboard_nodes text)

-- how many parents it has
abbrev pub parent_count : List ℕ → ℕ
parent_count text = chunk_count (claimed text) - 1

-- the first k parents are good, whatever follows them
abbrev pub AreGoodFirst : Mode → List ℕ → List ℕ → ℕ → Type 0
AreGoodFirst mode root text k =
    (more : List ℕ) → AllByRecursion (IsGoodNode mode root (take (nth_parent_at k) text ++ more) (parents_of text)) (take k (parents_of text))

-- The first k parents are complete and good. What follows them is less than the next parent, or nothing if they
-- are all.
pub record IsVerified (mode : Mode) (root text : List ℕ) (k : ℕ) : Type 0 where
  pub there : 0 < k → nth_parent_at k ≤ length text
  pub few : 8 ≤ length text → k ≤ parent_count text
  pub good : AreGoodFirst mode root text k
  pub next : length text < nth_parent_at (k + 1)
  pub end : 8 ≤ length text → k ≡ parent_count text → length text ≤ nth_parent_at k

-- has at most one proof, as a ghost field requires
pub IsVerified-prop : (mode : Mode) (root text : List ℕ) (k : ℕ) → IsProp (IsVerified mode root text k)
IsVerified-prop mode root text k =
    let there : IsProp (0 < k → nth_parent_at k ≤ length text) = Π_prop (λ _. le_prop) in
    let few : IsProp (8 ≤ length text → k ≤ parent_count text) = Π_prop (λ _. le_prop) in
    let good : IsProp (AreGoodFirst mode root text k) =
    Π_prop (λ more. AllByRecursion-prop (IsGoodNode mode root (take (nth_parent_at k) text ++ more) (parents_of text))
    (IsGoodNode-prop mode root (take (nth_parent_at k) text ++ more) (parents_of text)) (take k (parents_of text))) in
    let end : IsProp (8 ≤ length text → k ≡ parent_count text → length text ≤ nth_parent_at k) = Π_prop (λ _. Π_prop (λ _. le_prop)) in
    Prim.hlevel (there, few, good, le_prop, end)

-- the bytes so far are an accepted outboard encoding, or all of them are good and they end too soon
abbrev pub IsGoodSoFar : Mode → List ℕ → List ℕ → Type 0
IsGoodSoFar mode root text = IsAccepted mode root text (outboard_nodes text) ⊎ ((at : ℕ) × IsShortAt mode root text (outboard_nodes text) at)

-- this is the first fault of each outboard encoding that begins with these bytes
abbrev pub IsFaultFrom : Mode → List ℕ → List ℕ → CheckFault → Type 0
IsFaultFrom mode root text fault = (more : List ℕ) → IsFirstFault mode root (text ++ more) (outboard_nodes (text ++ more)) fault

-- Why bytes are refused that would complete these: a complete parent isn't good, something follows the last, or
-- memory is lacking.
abbrev pub IsPieceFault : Mode → List ℕ → List ℕ → CheckFault → Type 0
IsPieceFault mode root text (Short at) = ⊥
IsPieceFault mode root text (Mismatch at) = IsFaultFrom mode root text (Mismatch at)
IsPieceFault mode root text (Trailing at) = IsFaultFrom mode root text (Trailing at)
IsPieceFault mode root text Memory = Unit {0}
IsPieceFault mode root text Reader = ⊥
