-- Ranges of an encoding, and the bytes that they have together.
use Rattle.std.specs.Prelude.{◌≡◌, ℕ, List, [], ◌∷◌, ◌++◌, drop, take, true}
use Rattle.bao_text.specs.Cut.{cut_nodes, has_all}
use Rattle.bao_text.specs.Nodes.{TreeNode}
use Rattle.berylwool.specs.declared.ranges.BwRange.{BwRange}

-- the bytes of an encoding that are in the ranges, one range after another
unfoldable pub parts : List ℕ → List BwRange → List ℕ
parts text [] = []
parts text (range ∷ ranges) = take range.len (drop range.at text) ++ parts text ranges

-- The encoding has all the nodes, and the ranges `after` give the bytes of the ranges `before` and then those
-- of the nodes.
pub record HavePart (text : List ℕ) (before after : List BwRange) (nodes : List TreeNode) : Type 0 where
  pub there : has_all text nodes ≡ true
  pub then : parts text after ≡ parts text before ++ cut_nodes text nodes
