use Rattle.std.proofs.Common.{◌≡◌, ◌≤◌, ◌-◌, ℕ, List, length}
use Rattle.std.specs.Io.KnownBytes.{Appends}
use Rattle.bao_decode.proofs.copy_pass.copy_pass.Given as goal
use Rattle.bao_decode.proofs.CopyPasses.{IsBegun}

abbrev pub invariant-pieces : goal.invariant-pieces
invariant-pieces g l = record {
  room : length l.buf ≡ length l.initial.buf;
  within : l.next ≤ l.chunks;
  begun : (bytes : List ℕ) × IsBegun (g.S.Source.contents l.copy) l.outline l.next bytes × Appends (g.W.Write.contents l.initial.out) (g.W.Write.contents l.out) bytes;
}

abbrev pub decreases-pieces : goal.decreases-pieces
decreases-pieces g l = l.chunks - l.next
