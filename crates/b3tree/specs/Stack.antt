-- The whole subtrees on the left edge of an input that grows.
use Rattle.std.specs.Prelude.{ℕ, zero, suc, ◌+◌, ◌*◌, ◌^◌, List, [], ◌∷◌, length, take, drop, nat_le, if◌then◌else◌}
use Rattle.b3tree.specs.declared.mode.Mode.{Mode}
use Rattle.b3tree.specs.Tree.{subtree_cv}

-- the chaining values of the whole subtrees of 2 ^ (k - 1), .., 2 or 1 chunks that make up the bytes
-- s from chunk `first` on, each size at most once and the largest first
unfoldable pub whole_subtrees : ℕ → Mode → ℕ → List ℕ → List (List ℕ)
whole_subtrees zero mode first s = []
whole_subtrees (suc k) mode first s =
    if nat_le (1024 * 2 ^ k) (length s)
    then subtree_cv mode first (take (1024 * 2 ^ k) s) ∷ whole_subtrees k mode (first + 2 ^ k) (drop (1024 * 2 ^ k) s)
    else whole_subtrees k mode first s
