use Rattle.std.proofs.Common.{sym, ◌∙◌}
use Rattle.b3tree.specs.Chunk.{block_input}
use Rattle.b3tree.proofs.Pieces.{chunk_input-before}
use Rattle.b3tree.proofs.chunk.chunk_input.Goals as goal

pub returns : goal.returns
returns c =
    c.block_input.ensures
    ∙ (λ i. block_input c.args.mode.now c.args.i c.args.chunk.now c.args.k (c.value_before-h.ensures c.key_words.ensures i))
    ∙ sym (chunk_input-before c.args.mode.now c.args.i c.args.chunk.now c.args.k)
