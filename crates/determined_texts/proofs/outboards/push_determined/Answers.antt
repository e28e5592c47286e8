use Rattle.determined_texts.proofs.Pushed.{pushes_agree, same_after}
use Rattle.determined_texts.proofs.outboards.push_determined.Goals as goal

pub returns-clause-answer : goal.returns-clause-answer
returns-clause-answer c =
    pushes_agree c.args.a.now c.args.b.now c.args.bytes.now c.push-one.result c.push-other.result c.requires c.push-one.ensures.good c.push-other.ensures.good c.push-one.ensures.fault
    c.push-other.ensures.fault

pub returns-clause-after : goal.returns-clause-after
returns-clause-after c same =
    same_after c.args.a.now c.args.b.now c.push-one.new.self c.push-other.new.self c.args.bytes.now c.push-one.result c.push-other.result c.requires same c.push-one.ensures.taken
    c.push-other.ensures.taken c.push-one.ensures.same c.push-other.ensures.same
