use Rattle.std.proofs.lemmas.Bool.Decides.{nat_tests}
use Rattle.std.proofs.Common.{arith}
use Rattle.store_core.specs.Slots.{state_in, with_parents}
use Rattle.store_core.specs.Stores.{LengthBinds}
use Rattle.store_core.proofs.BoundStore.{if_some, length_binds, length_first, length_fits}
use Rattle.store_core.proofs.store.Store.length.Goals as goal

pub returns-clause-binds : goal.returns-clause-binds
returns-clause-binds c =
    let s = c.args.self.now in
    if_some s.recorded (λ l. LengthBinds s l) (λ l h blob is by. length_binds s.fixed (with_parents (state_in s.slots.items s.recorded) s.parents.items) blob l c.is_keyed.ensures is h by)

pub returns-clause-fits : goal.returns-clause-fits
returns-clause-fits c = grind (arith, nat_tests, if_some, length_fits)

pub returns-clause-whole : goal.returns-clause-whole
returns-clause-whole c = grind (arith, nat_tests, if_some, length_first)
