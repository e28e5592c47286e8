use Rattle.std.proofs.Common.{◌+◌, ◌*◌, sym, ◌∙◌}
use Rattle.b3word.specs.Compression.{cv}
use Rattle.b3tree.specs.Chunk.{last_chunk_input}
use Rattle.b3tree.specs.Pieces.{piece}
use Rattle.determined_texts.proofs.Values.{same_values}
use Rattle.determined_texts.proofs.tree.eight_values_determined.Goals as goal

pub returns : goal.returns
returns c =
    same_values (λ j. cv (last_chunk_input c.args.mode.now (c.args.first + j) (piece c.args.bytes.now (1024 * j) 1024))) c.eight_values.result c.eight_values-2.result
    (c.eight_values.ensures.count ∙ sym c.eight_values-2.ensures.count) c.eight_values.ensures.each c.eight_values-2.ensures.each
