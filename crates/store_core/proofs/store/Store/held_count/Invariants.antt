use Rattle.std.proofs.Common.{◌≡◌, ◌≤◌}
use Rattle.store_core.specs.States.{held_count}
use Rattle.store_core.specs.Stores.{state_of}
use Rattle.store_core.proofs.store.Store.held_count.Given as goal

abbrev pub invariant-loop-chunk : goal.invariant-loop-chunk
invariant-loop-chunk l = (l.count ≡ held_count (state_of l.self) l.chunk) × (l.count ≤ l.chunk)
