use Rattle.std.proofs.Common.{sym, ◌∙◌}
use Rattle.determined_texts.proofs.Values.{same_hash}
use Rattle.determined_texts.proofs.tree.finalize_determined.Goals as goal

pub returns : goal.returns
returns c mode s a b = same_hash c.finalize.result c.finalize-2.result (c.finalize.ensures mode s a ∙ sym (c.finalize-2.ensures mode s b))
