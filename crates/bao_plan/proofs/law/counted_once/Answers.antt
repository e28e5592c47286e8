use Rattle.std.proofs.Common.{◌&&◌, not, ap, sym, ◌∙◌, cond}
use Rattle.std.specs.List.{list_any}
use Rattle.std.proofs.lemmas.Bool.{lt-ltb, not-false}
use Rattle.bao_plan.specs.Histories.{keeps}
use Rattle.bao_plan.specs.States.{start}
use Rattle.bao_plan.proofs.Histories.{counted_run, open_is}
use Rattle.bao_plan.proofs.law.counted_once.Goals as goal

pub returns-clause-once : goal.returns-clause-once
returns-clause-once c = λ policy n events k history below. counted_run (start policy n) events k history ∙ ap (λ b. cond b 1 0) (lt-ltb k n below)

pub returns-clause-open : goal.returns-clause-open
returns-clause-open c = λ policy n events k below is.
    not-false (list_any (keeps k) events) (sym (ap (λ b. b && not (list_any (keeps k) events)) (lt-ltb k n below)) ∙ (sym (open_is policy n events k) ∙ is))
