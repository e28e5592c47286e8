use Rattle.std.proofs.Common.{◌≡◌, ◌∙◌, ℕ, ◌<◌, Some, length, slice_get, ap, sym, subst, arith}
use Rattle.std.proofs.lemmas.List.FromFn.{get_or-map-range_with_len}
use Rattle.std.proofs.lemmas.Option.{slice_get-get_or}
use Rattle.store_core.specs.declared.micro.MicroStep.{MicroStep}
use Rattle.store_core.specs.declared.micro.MicroStep.TheVariants.{Write}
use Rattle.bao_script.specs.declared.line.Line.{Line}
use Rattle.bao_script.specs.Steps.{fill_steps, steps_of}
use Rattle.bao_script.proofs.steps.step_at.Goals as goal

-- the write of the word with this number
fill_at : (seat chunk i : ℕ) → i < length (fill_steps seat chunk) → slice_get (fill_steps seat chunk) i ≡ Some (Write seat chunk i)
unfolding fill_steps
fill_at seat chunk i below =
    slice_get-get_or (fill_steps seat chunk) i (Write seat chunk i) below
    ∙ ap (λ (step : MicroStep). Some step) (get_or-map-range_with_len (λ word. Write seat chunk word) 0 129 i i (Write seat chunk i) below (omega arith))

pub returns-in-Fill : goal.returns-in-Fill
returns-in-Fill c =
    let is = c.in-Fill.is in
    let below : c.args.index < length (fill_steps c.in-Fill.seat c.in-Fill.chunk) =
    subst (λ (line : Line). c.args.index < length (steps_of c.args.piece line)) is c.requires in
    subst (λ (line : Line). slice_get (steps_of c.args.piece line) c.args.index ≡ Some (Write c.in-Fill.seat c.in-Fill.chunk c.args.index)) (sym is)
    (fill_at c.in-Fill.seat c.in-Fill.chunk c.args.index below)
