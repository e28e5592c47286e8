use Rattle.std.proofs.Common.{◌≡◌, ◌∙◌, ℕ, List, Err, length, take, ap, subst, string_bytes, arith}
use Rattle.std.proofs.Math.Seq.{take-length}
use Rattle.store_core.specs.declared.fault.StepFault.{StepFault}
use Rattle.store_core.specs.declared.micro.MicroStep.{MicroStep}
use Rattle.bao_script.proofs.Running.{steps_more, steps_stop}
use Rattle.bao_script.specs.ScriptRuns.{RanSteps}
use Rattle.bao_script.specs.Steps.{steps_of}
use Rattle.bao_script.proofs.run.run_line.Goals as goal

pub loop-index-preserved : goal.loop-index-preserved
loop-index-preserved c = λ fixed m stands.
    steps_more fixed c.args.pieces.now m (steps_of c.args.piece c.args.line.now.line) c.loop-index.index c.args.line.now.number
    (string_bytes c.args.out.now) (string_bytes c.loop-index.out) (string_bytes c.print_reply.new.out) c.loop-index.run c.step.new.self c.step_at.result c.in-Ok.reply
    (omega (arith, c.loop-index-test.true, c.step_count-index-end.ensures c.args.piece)) c.step_at.ensures (c.loop-index.invariant fixed m stands) c.in-Ok.ensures.ok
    c.in_ok-print_reply-in-Ok.ensures

pub returns-in-Err-Illegal-clause-illegal : goal.returns-in-Err-Illegal-clause-illegal
returns-in-Err-Illegal-clause-illegal c = λ fixed m number stands is.
    let same : c.args.line.now.number ≡ number = cc in (
      same,
      steps_stop fixed c.args.pieces.now m (steps_of c.args.piece c.args.line.now.line) c.loop-index.index c.args.line.now.number
          (string_bytes c.args.out.now) (string_bytes c.loop-index.out) c.loop-index.run c.step_at.result c.step_at.ensures (c.loop-index.invariant fixed m stands)
          (c.in-Err-Illegal.ensures.illegal (ap (λ (fault : StepFault). Err fault) c.in-Err-Illegal.field-0-is)),
    )

pub returns-clause-ok : goal.returns-clause-ok
returns-clause-ok c = λ fixed m stands.
    let steps : List MicroStep = steps_of c.args.piece c.args.line.now.line in
    let end : c.loop-index.index ≡ length steps = omega (arith, c.loop-index-test.false, c.loop-index.auto.index-end, c.step_count-index-end.ensures c.args.piece) in
    subst (λ (xs : List MicroStep). RanSteps fixed c.args.pieces.now m xs c.args.line.now.number (string_bytes c.args.out.now) (string_bytes c.loop-index.out) c.loop-index.run)
    (ap (λ (n : ℕ). take n steps) end ∙ take-length steps) (c.loop-index.invariant fixed m stands)
