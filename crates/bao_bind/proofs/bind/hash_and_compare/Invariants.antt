use Rattle.std.proofs.Common.{◌≡◌, ℕ, List, ◌++◌, length}
use Rattle.b3tree.specs.Taken.{Holds}
use Rattle.bao_check.specs.Checked.{piece_mode}
use Rattle.bao_bind.specs.Verdict.{Compared}
use Rattle.bao_bind.proofs.bind.hash_and_compare.Given as goal

-- the hasher has taken in what is done, and what it has whole chunks of was compared
abbrev pub invariant-shares : goal.invariant-shares
invariant-shares l =
    ((done : List ℕ) × (l.blob ≡ done ++ l.rest) × Holds l.hasher (piece_mode l.piece) done)
    × Compared l.blob l.piece l.number l.apart

abbrev pub decreases-shares : goal.decreases-shares
decreases-shares l = length l.rest
