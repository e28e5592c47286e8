use Rattle.std.proofs.Common.{◌||◌, ◌/◌, refl, arith, length-set}
use Rattle.bao_plan.specs.Sets.{in_range}
use Rattle.bao_plan.specs.States.{HolderState}
use Rattle.bao_plan.proofs.PlanLemmas.{changed, state_is, timed, unchanged}
use Rattle.bao_plan.proofs.Results.{on_err}
use Rattle.bao_plan.proofs.plan.Plan.begin.Goals as goal

pub returns-in_err-ask_for-clause-err : goal.returns-in_err-ask_for-clause-err
returns-in_err-ask_for-clause-err c =
    let hs = c.args.self.now.holders.items in
    on_err _ _ (state_is _ _ refl refl refl (λ _. refl) (λ _. refl) (length-set hs c.args.holder c.ask_for.new.self)
    (unchanged hs c.args.holder c.index_mut.result.now c.ask_for.new.self c.requires.holder c.index_mut.ensures.value c.in_err-ask_for.ensures.err))

pub returns-clause-ok : goal.returns-clause-ok
returns-clause-ok c =
    let p = c.args.self.now in
    let first = c.args.first in
    let count = c.run_from-count.result in
    let after = λ (x : HolderState). let y : HolderState = record x { asked = λ k. x.asked k || in_range first count k } in y in (
      c.run_from-count.ensures.some,
      c.run_from-count.ensures.most,
      c.run_from-count.ensures.within,
      c.run_from-count.ensures.whole,
      c.run_from-count.ensures.ready,
      state_is _ _ refl refl refl (λ _. refl)
          (λ u. timed p.since.items (first / 1024) c.args.now u (omega (arith, p.times, c.run_from-count.ensures.some, c.run_from-count.ensures.room)))
          (length-set p.holders.items c.args.holder c.ask_for.new.self)
          (changed p.holders.items c.args.holder c.index_mut.result.now c.ask_for.new.self after c.requires.holder c.index_mut.ensures.value c.in_ok-ask_for.ensures.ok),
    )
