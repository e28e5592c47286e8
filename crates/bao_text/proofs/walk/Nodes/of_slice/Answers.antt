use Rattle.std.proofs.Common.{[], ◌∙◌}
use Rattle.std.proofs.lemmas.List.{append-nil}
use Rattle.bao_text.specs.Choice.{of_slice}
use Rattle.bao_text.specs.NodeNames.{node_names}
use Rattle.bao_text.proofs.NodeNaming.{names-anywhere}
use Rattle.bao_text.proofs.walk.Nodes.of_slice.Goals as goal

pub returns : goal.returns
returns c =
    c.push_wanted.ensures.names
    ∙ rw (c.new-waiting.ensures, c.of_slice-choice.ensures, names-anywhere (of_slice c.args.length c.args.start c.args.len) 0 c.args.length [] 8)
    (append-nil (node_names (of_slice c.args.length c.args.start c.args.len) 0 c.args.length))
