use Rattle.std.proofs.Common.{◌≡◌, ◌+◌, [], ◌∷◌}
use Rattle.b3tree.specs.Pieces.{before_block}
use Rattle.b3tree.proofs.few.four_before.Given as goal

-- each value comes before block k of its chunk
abbrev pub invariant-next_block : goal.invariant-next_block
invariant-next_block l = l.values
    ≡ before_block l.mode l.first l.a l.k
    ∷ before_block l.mode (l.first + 1) l.b l.k
    ∷ before_block l.mode (l.first + 2) l.c l.k
    ∷ before_block l.mode (l.first + 3) l.d l.k ∷ []
