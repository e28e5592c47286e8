use Rattle.std.proofs.Common.{◌≡◌, ℕ, ◌+◌, ◌*◌, ◌<◌, true, false, get_or}
use Rattle.store_core.proofs.written.is_written.Given as goal

abbrev pub invariant-loop-w : goal.invariant-loop-w
invariant-loop-w l = (k : ℕ) → k < l.w → get_or l.written (129 * l.chunk + k) false ≡ true
