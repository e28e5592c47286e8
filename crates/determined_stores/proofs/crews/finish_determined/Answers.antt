use Rattle.std.proofs.Common.{subst, sym}
use Rattle.gather.specs.Finished.{Finishes}
use Rattle.holders.specs.declared.fixed.Fixed.{Fixed}
use Rattle.store_core.specs.Histories.{state_after}
use Rattle.store_core.specs.States.{State}
use Rattle.store_shared.specs.Seats.{fixed_of}
use Rattle.determined_stores.proofs.Finishes.{finishes_agree}
use Rattle.determined_stores.proofs.crews.finish_determined.Goals as goal

pub returns : goal.returns
returns c = λ same.
    finishes_agree (λ v. v.items) (fixed_of c.args.a.now) (state_after c.finish-one.new.seat.view.seen) c.finish-one.result c.finish-other.result c.finish-one.ensures.finishes
    (subst (λ (f : Fixed). Finishes (λ v. v.items) f (state_after c.finish-one.new.seat.view.seen) c.finish-other.result) (sym c.requires.fixed)
    (subst (λ (s : State). Finishes (λ v. v.items) (fixed_of c.args.b.now) s c.finish-other.result) (sym same) c.finish-other.ensures.finishes))
