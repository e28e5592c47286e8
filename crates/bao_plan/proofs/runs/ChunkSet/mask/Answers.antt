use Rattle.std.proofs.Common.{◌∙◌, ap, sym, arith, slice_get}
use Rattle.bao_plan.proofs.RunLemmas.{mask_found, none_mask}
use Rattle.bao_plan.proofs.runs.ChunkSet.mask.Goals as goal

pub returns-in-Some : goal.returns-in-Some
returns-in-Some c =
    let runs = c.args.self.now.runs.items in
    mask_found runs c.args.group c.in-Some.run'
    (ap (slice_get runs) (sym c.index_of-index.ensures) ∙ (ap (λ rs. slice_get rs c.index_of-index.result) (sym c.as_slice.ensures.value) ∙ (sym c.nth.ensures ∙ c.in-Some.is)))

pub returns-in-None : goal.returns-in-None
returns-in-None c =
    let runs = c.args.self.now.runs.items in
    sym (none_mask runs c.args.group c.args.group
    (ap (slice_get runs) (sym c.index_of-index.ensures) ∙ (ap (λ rs. slice_get rs c.index_of-index.result) (sym c.as_slice.ensures.value) ∙ (sym c.nth.ensures ∙ c.in-None.is))) (omega arith))
