use Rattle.determined_texts.proofs.Left.{left_alike}
use Rattle.determined_texts.proofs.streams.read_piece_left_determined.Goals as goal

pub returns : goal.returns
returns g c =
    let one = c.read_and_let_go.ensures in
    let other = c.read_and_let_go-2.ensures in
    left_alike c.args.mode.now c.args.root.now.0 c.args.start c.args.len (g.R.Read.remaining c.args.ours.now) (g.R.Read.remaining c.args.theirs.now) (g.R.Read.remaining c.read_and_let_go.new.reader)
    (g.R.Read.remaining c.read_and_let_go-2.new.reader) c.read_and_let_go.new.text.items c.read_and_let_go-2.new.text.items c.read_and_let_go.result c.read_and_let_go-2.result c.requires.same
    one.reader other.reader one.ok other.ok one.fault other.fault
