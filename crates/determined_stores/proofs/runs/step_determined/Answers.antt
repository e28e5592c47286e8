use Rattle.determined_stores.proofs.Running.{steps_agree}
use Rattle.determined_stores.proofs.runs.step_determined.Goals as goal

pub returns : goal.returns
returns c =
    steps_agree c.args.pieces.now c.args.step.now c.args.a.now c.args.b.now c.step-one.new.self c.step-other.new.self c.requires c.step-one.result c.step-other.result
    c.step-one.ensures.ok c.step-other.ensures.ok c.step-one.ensures.illegal c.step-other.ensures.illegal c.step-one.ensures.memory c.step-other.ensures.memory
