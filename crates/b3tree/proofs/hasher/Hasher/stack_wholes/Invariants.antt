use Rattle.std.proofs.Common.{◌≡◌, ℕ, ◌+◌, ◌-◌, ◌*◌, ◌<◌, List, ◌++◌, length, take}
use Rattle.b3tree.specs.declared.mode.Mode.{Mode}
use Rattle.b3tree.specs.Taken.{Splits}
use Rattle.b3tree.proofs.hasher.Hasher.stack_wholes.Given as goal

abbrev pub invariant-wholes : goal.invariant-wholes
invariant-wholes l = record {
  within : l.taken < length l.bytes;
  total : 1024 * l.self.chunks ≡ 1024 * l.initial.self.chunks + l.taken;
  buffered : l.self.buffered ≡ 0;
  splits : (mode : Mode) (earlier last : List ℕ) → Splits l.initial.self mode earlier last → Splits l.self mode (earlier ++ take l.taken l.bytes) last;
}

abbrev pub decreases-wholes : goal.decreases-wholes
decreases-wholes l = length l.bytes - l.taken
