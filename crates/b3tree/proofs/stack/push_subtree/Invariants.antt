use Rattle.std.proofs.Common.{◌≡◌, ℕ, ◌+◌, ◌*◌, ◌^◌, ◌<◌, List, ◌++◌, length}
use Rattle.b3tree.specs.Stack.{whole_subtrees}
use Rattle.b3tree.specs.Tree.{subtree_cv}
use Rattle.b3tree.proofs.Joining.{Joins}
use Rattle.b3tree.proofs.stack.push_subtree.Given as goal

abbrev pub invariant-join : goal.invariant-join
invariant-join l = (0 < l.count) × ((k : ℕ) (s piece : List ℕ) → length s ≡ 1024 * (2 ^ k * l.fn.before) → length piece ≡ 1024 * 2 ^ k
    → 2 ^ k * (l.fn.before + 1) < 2 ^ 54 → l.initial.stack.items ≡ whole_subtrees 54 l.mode 0 s
    → l.initial.value ≡ subtree_cv l.mode (2 ^ k * l.fn.before) piece → Joins l.mode (s ++ piece) l.stack.items l.value l.count)

abbrev pub decreases-join : goal.decreases-join
decreases-join l = l.count
