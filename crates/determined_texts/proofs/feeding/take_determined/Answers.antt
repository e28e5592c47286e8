use Rattle.std.proofs.Common.{◌++◌}
use Rattle.determined_texts.proofs.Fed.{both_taken, takes_agree}
use Rattle.determined_texts.proofs.feeding.take_determined.Goals as goal

pub returns-clause-answer : goal.returns-clause-answer
returns-clause-answer c task taken a b =
    let text = taken ++ c.args.node.now in
    takes_agree task text c.take-one.new.self c.take-other.new.self c.wants.result c.wants-2.result c.take-one.result c.take-other.result
    (c.take-one.ensures.taken task taken a) (c.take-other.ensures.taken task taken b) (c.take-one.ensures.fault task taken a) (c.take-other.ensures.fault task taken b)
    (λ has. record { done = c.wants.ensures.done task text has; size = c.wants.ensures.size; short = c.wants.ensures.short task text has })
    (λ has. record { done = c.wants-2.ensures.done task text has; size = c.wants-2.ensures.size; short = c.wants-2.ensures.short task text has })

pub returns-clause-after : goal.returns-clause-after
returns-clause-after c task taken a b same =
    let one = c.take-one.ensures in
    let other = c.take-other.ensures in
    both_taken task taken c.args.node.now c.args.a.now c.args.b.now c.take-one.new.self c.take-other.new.self c.take-one.result c.take-other.result a b
    (one.taken task taken a) (other.taken task taken b) one.unchanged other.unchanged same
