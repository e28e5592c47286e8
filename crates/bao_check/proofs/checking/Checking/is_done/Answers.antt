use Rattle.std.proofs.Common.{not, sym, ap, ◌∙◌}
use Rattle.bao_check.proofs.Feeding.{done_from}
use Rattle.bao_check.proofs.checking.Checking.is_done.Goals as goal

pub returns : goal.returns
returns c = λ task taken it.
    let done = c.wants.ensures.done task taken it in (
      (λ yes. done.0 (c.is_none.ensures ∙ ap not yes)),
      (λ accepted. done_from c.is_none.result (sym c.is_none.ensures ∙ done.1 accepted)),
    )
