use Rattle.std.proofs.Common.{◌&&◌, not, refl, length-set}
use Rattle.bao_plan.specs.Sets.{in_mask}
use Rattle.bao_plan.specs.States.{HolderState}
use Rattle.bao_plan.proofs.PlanLemmas.{changed, state_is, unchanged}
use Rattle.bao_plan.proofs.Results.{err_map, ok_map}
use Rattle.bao_plan.proofs.plan.Plan.has.Goals as goal

pub returns : goal.returns
returns c =
    let hs = c.args.self.now.holders.items in
    let x = c.index_mut.result.now in
    let y = c.has.new.self in
    let after = λ (x : HolderState). let y : HolderState = record x { absent = λ k. x.absent k && not (in_mask c.args.group c.args.mask k) } in y in
    record {
      ok = ok_map c.has.result _ _ (λ is. record {
        right = c.requires.holder;
        after = state_is _ _ refl refl refl (λ _. refl) (λ _. refl) (length-set hs c.args.holder y) (changed hs c.args.holder x y after c.requires.holder c.index_mut.ensures.value is);
      }) c.has.ensures.ok;
      err = err_map c.has.result _ _ (λ is. state_is _ _ refl refl refl (λ _. refl) (λ _. refl) (length-set hs c.args.holder y) (unchanged hs c.args.holder x y c.requires.holder c.index_mut.ensures.value is)) c.has.ensures.err;
    }
