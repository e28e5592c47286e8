use Rattle.std.proofs.Common.{sym, ◌∙◌}
use Rattle.determined_texts.proofs.Same.{same_parent}
use Rattle.determined_texts.proofs.pieces.parent_determined.Goals as goal

pub returns : goal.returns
returns c = c.parent.ensures.value ∙ same_parent c.args.a.now c.args.b.now c.requires c.args.m ∙ sym c.parent-2.ensures.value
