use Rattle.std.proofs.Common.{◌<◌}
use Rattle.bao_text.specs.Choice.{chunk_count}
use Rattle.bao_text.specs.Cut.{claimed}
use Rattle.bao_check.specs.Accepted.{outboard_nodes, places_of}
use Rattle.bao_check.specs.Outline.{outline_text}
use Rattle.bao_check.specs.Pieces.{IsLeafValue}
use Rattle.determined_texts.proofs.Same.{same_leaves}
use Rattle.determined_texts.proofs.pieces.leaf_determined.Goals as goal

pub returns : goal.returns
returns c =
    let i = c.args.i in
    same_leaves (λ text. (1 < chunk_count (claimed text)) × (i < chunk_count (claimed text))) (λ text w. IsLeafValue text (places_of (outboard_nodes text)) i w)
    (outline_text c.args.a.now) (outline_text c.args.b.now) c.leaf.result c.leaf-2.result c.requires.text_is c.leaf.ensures.there c.leaf-2.ensures.there c.leaf.ensures.value c.leaf-2.ensures.only
