use Rattle.std.proofs.Common.{◌∙◌, ◌++◌}
use Rattle.determined_texts.proofs.Fed.{no_more}
use Rattle.determined_texts.proofs.feeding.wants_of_taken_determined.Goals as goal

pub returns : goal.returns
returns c task taken a b few =
    let text = taken ++ c.args.node.now in
    no_more task taken c.args.node.now c.wants.result c.wants-2.result c.wants-3.result c.take-taken.result c.take-taken.new.self (c.wants.ensures.value ∙ c.requires) few
    (record { done = c.wants.ensures.done task taken a; size = c.wants.ensures.size; short = c.wants.ensures.short task taken a })
    (c.take-taken.ensures.taken task taken a) (c.take-taken.ensures.fault task taken a)
    (λ has. record { done = c.wants-2.ensures.done task text has; size = c.wants-2.ensures.size; short = c.wants-2.ensures.short task text has })
    (record { done = c.wants-3.ensures.done task taken b; size = c.wants-3.ensures.size; short = c.wants-3.ensures.short task taken b })
