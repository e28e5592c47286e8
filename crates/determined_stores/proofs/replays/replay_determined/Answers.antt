use Rattle.std.proofs.Common.{◌≡◌, ◌<◌, ◌⊎◌}
use Rattle.determined_stores.proofs.Replayed.{replays_agree}
use Rattle.determined_stores.proofs.replays.replay_determined.Goals as goal

pub returns-clause-answers : goal.returns-clause-answers
returns-clause-answers c =
    replays_agree (λ v. v.items) (record { root = c.args.root; mode = c.args.mode; capacity = c.args.capacity; base = 0 }) c.args.pieces.now c.args.steps.now
    ((c.args.capacity ≡ 0) ⊎ (65536 < c.args.capacity)) c.replay.result c.replay-2.result c.replay.ensures.capacity c.replay-2.ensures.capacity c.replay.ensures.ok c.replay-2.ensures.ok
    c.replay.ensures.illegal c.replay-2.ensures.illegal
