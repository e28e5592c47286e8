use Rattle.std.proofs.Common.{[], ◌∷◌, ◌++◌, refl, sym, ap, subst, ◌∙◌}
use Rattle.bao_plan.specs.Events.{IsRight, happens}
use Rattle.bao_plan.specs.Laws.{CallsReach, StartIsReached}
use Rattle.bao_plan.specs.States.{start}
use Rattle.bao_plan.proofs.Histories.{history_more, run_append}
use Rattle.bao_plan.proofs.law.calls_are_a_history.Goals as goal

at_start : StartIsReached
at_start policy n = record { events = []; right = tt; is = refl }

goes_on : CallsReach
goes_on policy n s t e reached did = record {
  events = reached.events ++ e ∷ [];
  right = history_more (start policy n) reached.events e reached.right (subst (λ x. IsRight x e) (sym reached.is) did.right);
  is = run_append (start policy n) reached.events (e ∷ []) ∙ (ap (λ x. happens x e) reached.is ∙ sym did.after);
}

pub returns : goal.returns
returns c = record { start = at_start; calls = goes_on }
