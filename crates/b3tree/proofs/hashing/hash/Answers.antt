use Rattle.std.proofs.Common.{◌∙◌}
use Rattle.b3tree.specs.Hashing.{hash, root_hash, rooted}
use Rattle.b3tree.proofs.HashOutput.{hash-stream}
use Rattle.b3tree.proofs.hashing.hash.Goals as goal

pub returns-clause-stream : goal.returns-clause-stream
unfolding hash
returns-clause-stream c =
    c.root_hash.ensures ∙ (λ i. root_hash (c.rooted.ensures i)) ∙ (λ i. root_hash (rooted (c.top_input.ensures.value i)))
    ∙ hash-stream c.args.mode.now c.args.bytes.now
