use Rattle.std.proofs.Common.{◌≡◌, ◌∙◌, ◌%◌, ◌/◌, ap, sym, slice_get, Some, None}
use Rattle.bao_plan.specs.Sets.{has_bit, index_of}
use Rattle.bao_plan.proofs.Bits.{has_bit-zero}
use Rattle.bao_plan.proofs.RunLemmas.{none_mask, run_ahead, run_mask}
use Rattle.bao_plan.proofs.runs.ChunkSet.run_at.Goals as goal

pub returns-in-Some : goal.returns-in-Some
returns-in-Some c =
    let runs = c.args.self.now.runs.items in
    let is : slice_get runs (index_of runs c.args.group) ≡ Some c.in-Some.run' =
    ap (slice_get runs) (sym c.index_of-index.ensures) ∙ (ap (λ rs. slice_get rs c.index_of-index.result) (sym c.as_slice.ensures.value) ∙ (sym c.nth.ensures ∙ c.in-Some.is)) in
    record { ahead = run_ahead runs c.args.group c.in-Some.run' is; bits = λ k from to. sym (ap (λ m. has_bit m (k % 64)) (run_mask runs c.args.group (k / 64) c.in-Some.run' is from to)) }

pub returns-in-None : goal.returns-in-None
returns-in-None c =
    let runs = c.args.self.now.runs.items in
    let none : slice_get runs (index_of runs c.args.group) ≡ None =
    ap (slice_get runs) (sym c.index_of-index.ensures) ∙ (ap (λ rs. slice_get rs c.index_of-index.result) (sym c.as_slice.ensures.value) ∙ (sym c.nth.ensures ∙ c.in-None.is)) in
    let is = c.no_run.ensures c.args.group c.requires in
    record { ahead = is.ahead; bits = λ k from to. is.bits k from to ∙ sym (ap (λ m. has_bit m (k % 64)) (none_mask runs c.args.group (k / 64) none from) ∙ has_bit-zero (k % 64)) }
