use Rattle.std.proofs.Common.{refl, arith}
use Rattle.std.specs.Vec.{with_items}
use Rattle.std.proofs.lemmas.List.{with_items_is}
use Rattle.store_core.specs.declared.history.Call.TheVariants.{Give}
use Rattle.store_core.specs.Slots.{caller, state_in, with_parents}
use Rattle.store_core.proofs.SlotStates.{IsDone, give_done, give_none, reached_by}
use Rattle.store_core.proofs.store.Store.give.Goals as goal
use Rattle.store_core.proofs.store.Store.give.Goals.{After-put_claims}

-- the call is an event
given : (c : After-put_claims)
    → IsDone c.args.self.now.fixed (with_parents (state_in c.args.self.now.slots.items c.args.self.now.recorded) c.args.self.now.parents.items)
    (with_parents (state_in (with_items c.args.self.now.slots c.put_claims.new.slots).items c.args.self.now.recorded) c.args.self.now.parents.items)
    (caller c.args.seat) (Give c.args.group c.args.mask c.chosen-given.result)
given c =
    let s = c.args.self.now in
    rw (with_items_is s.slots c.put_claims.new.slots (omega (arith, c.put_claims.auto.slots, c.as_mut_slice.ensures.len)))
    (give_done s.fixed s.slots.items c.put_claims.new.slots s.recorded s.parents.items c.args.seat c.args.group c.args.mask c.chosen-given.result
    (rw c.as_slice.ensures.value at c.chosen-given.ensures) (rw c.as_mut_slice.ensures.value at c.put_claims.ensures))

pub invariant_of-self-clause-within : goal.invariant_of-self-clause-within
invariant_of-self-clause-within c =
    let s = c.args.self.now in omega (arith, s.within, s.slots.ok.0, (with_items s.slots c.put_claims.new.slots).ok.0)

pub invariant_of-self-clause-reached : goal.invariant_of-self-clause-reached
invariant_of-self-clause-reached c = reached_by (given (goal.at.invariant_of-self-clause-reached c).After-put_claims) c.args.self.now.reached

pub returns : goal.returns
returns c = let done = given (goal.at.returns c).After-put_claims in record { fixed = refl; right = done.right; after = done.after }

pub returns-then-group-groups : goal.returns-then-group-groups
returns-then-group-groups c =
    let s = c.args.self.now in
    let done = give_none s.fixed s.slots.items s.recorded s.parents.items c.args.seat c.args.group c.args.mask s.within (omega (arith, c.groups.ensures, c.if-group-groups.true)) in
    record { fixed = refl; right = done.right; after = done.after }
