use Rattle.determined_texts.proofs.SameHashers.{none_held}
use Rattle.determined_texts.proofs.tree.hasher_new_determined.Goals as goal

pub returns : goal.returns
returns c of s =
    let a = c.new-one.result in
    let b = c.new-other.result in
    (none_held a b c.args.mode.now c.new-one.ensures.holds c.new-other.ensures.holds of s, none_held b a c.args.mode.now c.new-other.ensures.holds c.new-one.ensures.holds of s)
