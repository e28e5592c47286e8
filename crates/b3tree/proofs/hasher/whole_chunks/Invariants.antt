use Rattle.std.proofs.Common.{◌≡◌, ◌-◌, ◌*◌, ◌%◌, ◌<◌}
use Rattle.std.specs.Int.{IsPowerOfTwo}
use Rattle.b3tree.proofs.hasher.whole_chunks.Given as goal

abbrev pub invariant-doubled : goal.invariant-doubled
invariant-doubled l = record {
  whole : IsPowerOfTwo l.chunks;
  eighths : l.chunks % 8 ≡ 0;
  some : 0 < l.chunks;
  place : l.before % l.chunks ≡ 0;
  within : 1024 * l.chunks < l.len;
}

abbrev pub decreases-doubled : goal.decreases-doubled
decreases-doubled l = 512 - l.chunks
