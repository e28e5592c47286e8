use Rattle.std.proofs.Common.{◌≡◌, length, take, true, Some, is_some, sym, subst}
use Rattle.bao_text.specs.declared.walk.Node.{Node}
use Rattle.store_core.specs.Histories.{state_after}
use Rattle.store_core.specs.Serves.{node_held}
use Rattle.store_core.specs.States.{State}
use Rattle.store_shared.specs.Serving.{room_of}
use Rattle.store_shared.proofs.CopiedParents.{chunk_whole}
use Rattle.store_shared.proofs.nodes.copy_node.Goals as goal

pub returns-in-Chunk-clause-copied : goal.returns-in-Chunk-clause-copied
returns-in-Chunk-clause-copied c =
    let grip = c.args.grip.now in
    let s : State = state_after grip.view.seen in
    subst (λ (node : Node). node_held s node ≡ Some (take c.copy_chunk.result c.copy_chunk.new.out)) (sym c.in-Chunk.is)
    (chunk_whole grip.view.fixed grip.view.seen c.in-Chunk.chunk c.copy_chunk.result c.args.out.now c.copy_chunk.new.out c.requires.of.knows.legal
    (subst (λ (node : Node). is_some (node_held s node) ≡ true) c.in-Chunk.is c.requires.held)
    (subst (λ (node : Node). length c.args.out.now ≡ room_of node) c.in-Chunk.is c.requires.room) c.copy_chunk.ensures.filled c.copy_chunk.ensures.stops)
