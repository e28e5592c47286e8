use Rattle.std.proofs.Common.{refl, length-set}
use Rattle.bao_plan.specs.States.{HolderState}
use Rattle.bao_plan.proofs.PlanLemmas.{changed, state_is}
use Rattle.bao_plan.proofs.plan.Plan.forgive.Goals as goal

pub returns : goal.returns
returns c =
    let hs = c.args.self.now.holders.items in
    let after = λ (x : HolderState). let y : HolderState = record x { in_row = 0 } in y in
    record {
      right = c.requires;
      after = state_is _ _ refl refl refl (λ _. refl) (λ _. refl) (length-set hs c.args.holder c.forgive.new.self)
          (changed hs c.args.holder c.index_mut.result.now c.forgive.new.self after c.requires c.index_mut.ensures.value c.forgive.ensures.seen);
    }
