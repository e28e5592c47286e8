use Rattle.std.proofs.Common.{sym, ap, map, ◌∙◌}
use Rattle.bao_text.specs.NodeNames.{name}
use Rattle.determined_texts.proofs.Same.{same_nodes}
use Rattle.determined_texts.proofs.pieces.nodes_determined.Goals as goal

pub returns : goal.returns
returns c = c.nodes.ensures ∙ ap (map name) (same_nodes c.args.a.now c.args.b.now c.requires) ∙ sym c.nodes-2.ensures
