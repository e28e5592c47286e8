use Rattle.std.proofs.Common.{◌≡◌, ◌⊎◌, ℕ, ◌+◌, ◌*◌, ◌^◌, ◌<◌, List, [], ◌++◌, length}
use Rattle.b3tree.specs.declared.mode.Mode.{Mode}
use Rattle.b3tree.specs.Taken.{Holds, Splits}
use Rattle.b3tree.proofs.hasher.Hasher.update.Given as goal

abbrev pub invariant-pieces : goal.invariant-pieces
invariant-pieces l = (1024 * l.self.chunks + l.self.buffered + length l.rest < 2 ^ 64)
    × ((mode : Mode) (s : List ℕ) → Holds l.initial.self mode s → (done : List ℕ) × (l.bytes ≡ done ++ l.rest) × Holds l.self mode (s ++ done))
    × ((mode : Mode) (s : List ℕ) → Splits l.initial.self mode s []
    → (done : List ℕ) × (l.bytes ≡ done ++ l.rest) × (Holds l.self mode (s ++ done) ⊎ ((done ≡ []) × Splits l.self mode s [])))

abbrev pub decreases-pieces : goal.decreases-pieces
decreases-pieces l = length l.rest
