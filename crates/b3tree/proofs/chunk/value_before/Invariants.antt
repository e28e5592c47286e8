use Rattle.std.proofs.Common.{◌≡◌}
use Rattle.b3tree.specs.Pieces.{before_block}
use Rattle.b3tree.proofs.chunk.value_before.Given as goal

-- the value comes before block j
abbrev pub invariant-earlier : goal.invariant-earlier
invariant-earlier l = l.fn.h ≡ before_block l.mode l.i l.chunk l.from → l.value ≡ before_block l.mode l.i l.chunk l.j
