-- A subtree of a blob beside the encoding of its parents, which together make the combined encoding.
use Rattle.std.specs.Prelude.{◌≡◌, ℕ, ◌+◌, ◌*◌, ◌<◌, ◌≤◌, max, List, ◌++◌, length}
use Rattle.b3tree.specs.declared.mode.Mode.{Mode}
use Rattle.bao_text.specs.Choice.{chunk_count, of_combined, of_outboard}
use Rattle.bao_text.specs.Texts.{subtree_text}

-- the parents of a subtree over these bytes have this length: 64 bytes each, one fewer than chunks
abbrev pub HasSize : List ℕ → List ℕ → Type 0
HasSize parents s = length parents + 64 ≡ 64 * chunk_count (length s)

-- the combined encoding of the subtree over s from chunk `first` on, of a blob of `total` bytes
abbrev pub whole_text : ℕ → Mode → ℕ → List ℕ → List ℕ
whole_text total mode first s = subtree_text (of_combined total) mode first s

-- the subtree over s from chunk `first` on lies in a blob of `total` bytes, and `parents` is the
-- outboard encoding of it
pub record HasParents (total : ℕ) (mode : Mode) (first : ℕ) (parents s : List ℕ) : Type 0 where
  pub start : 1024 * first < max total 1
  pub end : 1024 * first + length s ≤ total
  pub text : parents ≡ subtree_text (of_outboard total) mode first s

-- the subtree over s has the subtrees over `left` and `right` as its children, each with its parents, and
-- `parent` is the encoding of its own parent node
pub record HasParts (total : ℕ) (mode : Mode) (first : ℕ) (s parent left_parents left right_parents right : List ℕ) : Type 0 where
  pub right_first : ℕ
  pub near : HasParents total mode first left_parents left
  pub far : HasParents total mode right_first right_parents right
  pub text : whole_text total mode first s ≡ parent ++ (whole_text total mode first left ++ whole_text total mode right_first right)
