use Rattle.std.proofs.Common.{sym, ◌∙◌}
use Rattle.determined_texts.proofs.Same.{same_chunk}
use Rattle.determined_texts.proofs.pieces.chunk_determined.Goals as goal

pub returns : goal.returns
returns c = c.chunk.ensures.value ∙ same_chunk c.args.a.now c.args.b.now c.requires c.args.i ∙ sym c.chunk-2.ensures.value
