use Rattle.std.proofs.Common.{◌≡◌, take}
use Rattle.b3tree.proofs.Subtrees.{joined}
use Rattle.b3tree.proofs.hasher.Hasher.root.Given as goal

abbrev pub invariant-joined : goal.invariant-joined
invariant-joined l = joined l.self.mode (take l.i l.values) l.input ≡ joined l.self.mode l.values l.initial.input
