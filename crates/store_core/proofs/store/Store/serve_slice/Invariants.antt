use Rattle.std.proofs.Common.{◌≡◌}
use Rattle.bao_text.specs.Rest.{rest_of}
use Rattle.store_core.specs.Serves.{after_bytes, served, serving}
use Rattle.store_core.specs.Slots.{state_in, with_parents}
use Rattle.store_core.proofs.store.Store.serve_slice.Given as goal

abbrev pub invariant-loop-node : goal.invariant-loop-node
invariant-loop-node l =
    after_bytes l.out.items (served (with_parents (state_in l.self.slots.items l.self.recorded) l.self.parents.items) (rest_of l.node-iterator))
    ≡ serving (with_parents (state_in l.self.slots.items l.self.recorded) l.self.parents.items) l.start l.len
