use Rattle.bao_check.proofs.Streamed.{refused, verdict}
use Rattle.bao_check.proofs.read.read_checked.Goals as goal

pub returns-clause-exact : goal.returns-clause-exact
returns-clause-exact g c =
    verdict c.args.mode.now c.args.root.now.0 c.args.start c.args.len c.read_nodes.new.text.items (g.R.Read.remaining c.args.reader.now) (g.R.Read.remaining c.read_nodes.new.reader) c.read_nodes.result
    c.read_nodes.ensures.reader c.read_nodes.ensures.ok c.read_nodes.ensures.err

pub returns-clause-refused : goal.returns-clause-refused
returns-clause-refused g c =
    refused c.args.mode.now c.args.root.now.0 c.args.start c.args.len (g.R.Read.remaining c.args.reader.now) c.read_nodes.result (returns-clause-exact g c)
