use Rattle.gather.specs.Finished.{Finishes}
use Rattle.std.proofs.Common.{subst}
use Rattle.holders.specs.declared.fixed.Fixed.{Fixed}
use Rattle.store_core.specs.States.{State}
use Rattle.store_core.specs.Stores.{fixed_of, state_of}
use Rattle.determined_stores.proofs.Finishes.{finishes_agree}
use Rattle.determined_stores.proofs.finishing.finish_one_determined.Goals as goal

pub returns-clause-answers : goal.returns-clause-answers
returns-clause-answers c =
    finishes_agree (λ v. v.items) (fixed_of c.args.a.now) (state_of c.args.a.now) c.finish_one-one.result c.finish_one-other.result c.finish_one-one.ensures.finishes
    (subst (λ (f : Fixed). Finishes (λ v. v.items) f (state_of c.args.a.now) c.finish_one-other.result) c.requires.fixed
    (subst (λ (s : State). Finishes (λ v. v.items) (fixed_of c.args.b.now) s c.finish_one-other.result) c.requires.state c.finish_one-other.ensures.finishes))
