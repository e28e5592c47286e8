use Rattle.std.proofs.Common.{◌≡◌, true, ◌++◌, ◌∷◌, sym, ap, ◌∙◌, arith}
use Rattle.std.proofs.lemmas.Bool.{and_parts, ltb-true, not-true}
use Rattle.bao_plan.specs.Events.Event.{Asked, Ended}
use Rattle.bao_plan.specs.declared.policy.Next.TheVariants.{Fetch}
use Rattle.bao_plan.specs.Histories.{run}
use Rattle.bao_plan.specs.States.{is_wanted, start}
use Rattle.bao_plan.proofs.Histories.{left_alone, open_is, refused_is, right_at}
use Rattle.bao_plan.proofs.Rows.{policy_run}
use Rattle.bao_plan.specs.declared.policy.Policy.{Policy}
use Rattle.bao_plan.specs.declared.policy.Outcome.TheVariants.{LaterBy}
use Rattle.bao_plan.proofs.PlanLemmas.{ready_is_wanted, wanted_is_open}
use Rattle.bao_plan.proofs.law.no_waste.Goals as goal

pub returns-clause-chunks : goal.returns-clause-chunks
returns-clause-chunks c = λ policy n before after h now first count k history here.
    let s = run (start policy n) before in
    let right = right_at (start policy n) before (Asked h now (Fetch first count)) after history in
    let wanted : is_wanted s h k ≡ true = ready_is_wanted s h now right.1.overtakes k (right.1.ready k here) in
    let lacking = and_parts _ _ (sym (open_is policy n before k) ∙ wanted_is_open s h k wanted) in
    let refused = not-true _ (and_parts _ _ (and_parts _ _ (and_parts _ _ (and_parts _ _ wanted).0).0).1).0 in
    (ltb-true k n lacking.0, not-true _ lacking.1, sym (refused_is policy n before h k) ∙ refused)

pub returns-clause-alone : goal.returns-clause-alone
returns-clause-alone c = λ policy n before between after h first count ms moment failed now next more history.
    let s = start policy n in
    let e = Ended h first count (LaterBy ms) moment failed in
    let right = right_at s (before ++ e ∷ between) (Asked h now (Fetch next more)) after history in
    let alone = left_alone s before between h first count ms moment failed in
    let same = ap (λ (p : Policy). p.longest_pause) (policy_run s before) in
    omega (arith, alone, right.1.later, same)
