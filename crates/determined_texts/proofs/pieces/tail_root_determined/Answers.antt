use Rattle.std.proofs.Common.{sym, ◌∙◌}
use Rattle.determined_texts.proofs.Values.{same_hash}
use Rattle.determined_texts.proofs.pieces.tail_root_determined.Goals as goal

pub returns : goal.returns
returns c = same_hash c.root.result c.root-2.result (c.root.ensures ∙ c.requires.root_is ∙ sym c.root-2.ensures)
