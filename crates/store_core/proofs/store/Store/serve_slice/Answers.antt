use Rattle.std.proofs.Common.{◌≡◌, sym}
use Rattle.store_core.specs.Serves.{serving}
use Rattle.store_core.specs.Slots.{state_in, with_parents}
use Rattle.store_core.specs.States.{State}
use Rattle.store_core.specs.declared.history.Serving.TheVariants.{Text}
use Rattle.store_core.proofs.BoundStore.{slice_accepted, slice_binds}
use Rattle.store_core.proofs.ServingSteps.{serve_all}
use Rattle.store_core.proofs.store.Store.serve_slice.Goals as goal

pub returns-clause-binds : goal.returns-clause-binds
returns-clause-binds c = λ blob is by.
    let s = c.args.self.now in
    let state : State = with_parents (state_in s.slots.items s.recorded) s.parents.items in
    let h : serving state c.args.start c.args.len ≡ Text c.loop-node.out.items = sym (serve_all state _ c.loop-node.out.items _ c.in-None.ensures.steps.0 c.loop-node.invariant) in
    slice_binds s.fixed state blob c.args.start c.args.len c.loop-node.out.items c.is_keyed.ensures is h by

pub returns-clause-accepted : goal.returns-clause-accepted
returns-clause-accepted c = λ by.
    let s = c.args.self.now in
    let state : State = with_parents (state_in s.slots.items s.recorded) s.parents.items in
    let h : serving state c.args.start c.args.len ≡ Text c.loop-node.out.items = sym (serve_all state _ c.loop-node.out.items _ c.in-None.ensures.steps.0 c.loop-node.invariant) in
    slice_accepted s.fixed state c.args.start c.args.len c.loop-node.out.items h by
