use Rattle.std.proofs.Common.{◌≡◌, ◌+◌}
use Rattle.b3tree.specs.Pieces.{before_block}
use Rattle.b3tree.proofs.few.two_before.Given as goal

-- each value comes before block k of its chunk
abbrev pub invariant-next_block : goal.invariant-next_block
invariant-next_block l =
    (l.fn.values.0 ≡ before_block l.mode l.first l.left l.from → l.both.0 ≡ before_block l.mode l.first l.left l.k)
    × (l.fn.values.1 ≡ before_block l.mode (l.first + 1) l.right l.from → l.both.1 ≡ before_block l.mode (l.first + 1) l.right l.k)
