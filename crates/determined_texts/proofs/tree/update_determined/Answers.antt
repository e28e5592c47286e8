use Rattle.std.proofs.Common.{◌+◌, ◌-◌, ◌^◌, ◌<◌, length}
use Rattle.determined_texts.proofs.SameHashers.{held_after}
use Rattle.determined_texts.proofs.tree.update_determined.Goals as goal

pub returns-clause-refused : goal.returns-clause-refused
returns-clause-refused c mode s a b = (
  (λ e. (c.update-2.ensures.refused mode s b).1 ((c.update.ensures.refused mode s a).0 e)),
  λ e. (c.update.ensures.refused mode s a).1 ((c.update-2.ensures.refused mode s b).0 e),
)

pub returns-clause-after : goal.returns-clause-after
returns-clause-after c mode s a b =
    let one = c.update.ensures in
    let other = c.update-2.ensures in
    held_after mode s c.args.bytes.now c.args.a.now c.args.b.now c.update.new.self c.update-2.new.self c.update.result c.update-2.result (2 ^ 64 - 1 < length s + length c.args.bytes.now) a b
    (one.taken mode s a) (other.taken mode s b) one.unchanged other.unchanged (one.refused mode s a) (other.refused mode s b)
