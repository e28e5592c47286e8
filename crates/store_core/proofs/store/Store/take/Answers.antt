use Rattle.std.proofs.lemmas.Bool.Decides.{nat_tests}
use Rattle.std.proofs.Common.{refl, ap, arith}
use Rattle.std.specs.Vec.{with_items}
use Rattle.std.proofs.lemmas.List.{with_items_is}
use Rattle.store_core.specs.declared.history.Call.TheVariants.{Take}
use Rattle.store_core.specs.Slots.{caller, state_in, with_parents}
use Rattle.store_core.specs.States.{State}
use Rattle.store_core.proofs.SlotStates.{IsDone, on_err, reached_by, state_same}
use Rattle.store_core.proofs.store.Store.take.Goals as goal
use Rattle.store_core.proofs.store.Store.take.Goals.{After-put_claims}

-- the call is an event
taken : (c : After-put_claims)
    → IsDone c.args.self.now.fixed (with_parents (state_in c.args.self.now.slots.items c.args.self.now.recorded) c.args.self.now.parents.items)
    (with_parents (state_in (with_items c.grow.new.slots c.put_claims.new.slots).items c.args.self.now.recorded) c.args.self.now.parents.items)
    (caller c.args.seat) (Take c.args.group c.args.want c.chosen-granted.result)
taken c = grind (arith, nat_tests, state_same, with_items_is)

pub invariant_of-self-2-clause-within : goal.invariant_of-self-2-clause-within
invariant_of-self-2-clause-within c =
    let s = c.args.self.now in omega (arith, c.grow.ensures.most, s.within, c.min-end.ensures, c.grow.new.slots.ok.0, (with_items c.grow.new.slots c.put_claims.new.slots).ok.0)

pub invariant_of-self-2-clause-reached : goal.invariant_of-self-2-clause-reached
invariant_of-self-2-clause-reached c = reached_by (taken (goal.at.invariant_of-self-2-clause-reached c).After-put_claims) c.args.self.now.reached

pub returns-clause-ok : goal.returns-clause-ok
returns-clause-ok c = let done = taken (goal.at.returns-clause-ok c).After-put_claims in record { fixed = refl; right = done.right; after = done.after }

pub returns-in_err-grow-clause-err : goal.returns-in_err-grow-clause-err
returns-in_err-grow-clause-err c =
    on_err c.from_residual.result
    (record { fixed = refl; state = ap (λ (t : State). with_parents t c.args.self.now.parents.items) (state_same c.args.self.now.slots.items c.grow.new.slots.items c.args.self.now.recorded c.grow.ensures.same) })
