use Rattle.std.proofs.lemmas.Bool.Decides.{nat_tests}
use Rattle.std.proofs.Common.{◌≡◌, ℕ, List, [], Err, length, get_or, take, ap, subst, sym, ◌∙◌, arith}
use Rattle.std.proofs.Math.Seq.{take-length}
use Rattle.std.proofs.lemmas.Option.{slice_get-get_or}
use Rattle.holders.specs.declared.fixed.Fixed.{Fixed}
use Rattle.store_core.specs.declared.micro.MicroStep.{MicroStep}
use Rattle.store_core.specs.declared.micro.MicroStep.TheVariants.{Claim}
use Rattle.store_core.specs.declared.micro.Reply.{Reply}
use Rattle.store_core.specs.declared.fault.StepFault.{StepFault}
use Rattle.store_core.specs.Machine.{start}
use Rattle.store_core.specs.ScheduleRuns.{HasRun}
use Rattle.store_core.proofs.Replaying.{begins_legally, run_more, stepped_legally}
use Rattle.store_core.proofs.schedule.replay.Goals as goal

pub loop-i-init : goal.loop-i-init
loop-i-init c =
    let fixed : Fixed = record { root = c.args.root; mode = c.args.mode; capacity = c.args.capacity; base = 0 } in (
      [],
      start,
      subst (λ (xs : List Reply). HasRun fixed c.args.pieces.now [] xs [] start c.in-Ok.run') (sym c.new-replies.ensures.items) (c.in-Ok.ensures.fresh c.args.pieces.now),
    )

pub loop-i-preserved : goal.loop-i-preserved
loop-i-preserved c =
    let step : MicroStep = get_or c.args.steps.now c.loop-i.i (Claim 0 0 0) in
    run_more (record { root = c.args.root; mode = c.args.mode; capacity = c.args.capacity; base = 0 }) c.args.pieces.now c.args.steps.now c.loop-i.i c.loop-i.replies.items c.add.new.replies.items
    c.loop-i.run c.step.new.self step c.in-Ok-step.reply
    c.loop-i-test.true (slice_get-get_or c.args.steps.now c.loop-i.i (Claim 0 0 0) c.loop-i-test.true) c.loop-i.invariant c.in-Ok-step.ensures.ok
    c.in_ok-add-in-Ok-step.ensures

pub returns-in-Err-Illegal-clause-illegal : goal.returns-in-Err-Illegal-clause-illegal
returns-in-Err-Illegal-clause-illegal c = grind (arith, nat_tests, slice_get-get_or)

pub returns-in-Err-Memory-clause-memory : goal.returns-in-Err-Memory-clause-memory
returns-in-Err-Memory-clause-memory c = λ out.
    begins_legally (record { root = c.args.root; mode = c.args.mode; capacity = c.args.capacity; base = 0 }) c.args.pieces.now c.args.steps.now c.loop-i.i c.loop-i.replies.items c.loop-i.run (get_or c.args.steps.now c.loop-i.i (Claim 0 0 0))
    (slice_get-get_or c.args.steps.now c.loop-i.i (Claim 0 0 0) c.loop-i-test.true) c.loop-i.invariant
    (c.in-Err-Memory.ensures.memory (ap (λ (f : StepFault). Err f) c.in-Err-Memory.field-0-is))

pub returns-in_err-add-in-Ok-step-clause-memory : goal.returns-in_err-add-in-Ok-step-clause-memory
returns-in_err-add-in-Ok-step-clause-memory c = λ out.
    stepped_legally (record { root = c.args.root; mode = c.args.mode; capacity = c.args.capacity; base = 0 }) c.args.pieces.now c.args.steps.now c.loop-i.i c.loop-i.replies.items c.loop-i.run c.step.new.self
    (get_or c.args.steps.now c.loop-i.i (Claim 0 0 0)) c.in-Ok-step.reply
    (slice_get-get_or c.args.steps.now c.loop-i.i (Claim 0 0 0) c.loop-i-test.true) c.loop-i.invariant c.in-Ok-step.ensures.ok

pub returns-clause-ok : goal.returns-clause-ok
returns-clause-ok c =
    let fixed : Fixed = record { root = c.args.root; mode = c.args.mode; capacity = c.args.capacity; base = 0 } in
    let end : c.loop-i.i ≡ length c.args.steps.now = omega (arith, c.loop-i-test.false) in
    let all : take c.loop-i.i c.args.steps.now ≡ c.args.steps.now = ap (λ (k : ℕ). take k c.args.steps.now) end ∙ take-length c.args.steps.now in
    (c.into_store.ensures.left fixed c.args.pieces.now c.args.steps.now c.loop-i.replies.items c.loop-i.invariant.0 c.loop-i.invariant.1
    (subst (λ (xs : List MicroStep). HasRun fixed c.args.pieces.now xs c.loop-i.replies.items c.loop-i.invariant.0 c.loop-i.invariant.1 c.loop-i.run) all c.loop-i.invariant.2)).0

pub returns-clause-binds : goal.returns-clause-binds
returns-clause-binds c =
    c.into_store.ensures.binds (record { root = c.args.root; mode = c.args.mode; capacity = c.args.capacity; base = 0 }) c.args.pieces.now c.args.steps.now c.loop-i.replies.items
