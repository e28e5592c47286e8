use Rattle.std.proofs.Common.{List, ℕ, Option, sym, subst, IfSome}
use Rattle.std.specs.Io.KnownBytes.{Consumes}
use Rattle.determined_texts.proofs.Left.{left_alike}
use Rattle.determined_texts.proofs.OneText.{Says, texts_agree}
use Rattle.determined_texts.proofs.streams.read_checked_determined.Goals as goal

pub returns-clause-answer : goal.returns-clause-answer
returns-clause-answer g c =
    let after = g.R.Read.remaining c.read_checked-2.new.reader in
    texts_agree c.args.mode.now c.args.root.now.0 c.args.start c.args.len (g.R.Read.remaining c.args.ours.now) (g.R.Read.remaining c.read_checked.new.reader) after
    c.read_checked.new.text.items c.read_checked-2.new.text.items c.read_checked.result c.read_checked-2.result
    c.read_checked.ensures.reader (subst (λ (o : Option (List ℕ)). Consumes o after c.read_checked-2.new.text.items) (sym c.requires.same) c.read_checked-2.ensures.reader)
    c.read_checked.ensures.ok c.read_checked-2.ensures.ok c.read_checked.ensures.exact
    (subst (λ (o : Option (List ℕ)). IfSome o (λ all. Says c.args.mode.now c.args.root.now.0 c.args.start c.args.len all c.read_checked-2.result)) (sym c.requires.same) c.read_checked-2.ensures.exact)

pub returns-clause-left : goal.returns-clause-left
returns-clause-left g c =
    let one = c.read_checked.ensures in
    let other = c.read_checked-2.ensures in
    left_alike c.args.mode.now c.args.root.now.0 c.args.start c.args.len (g.R.Read.remaining c.args.ours.now) (g.R.Read.remaining c.args.theirs.now) (g.R.Read.remaining c.read_checked.new.reader)
    (g.R.Read.remaining c.read_checked-2.new.reader) c.read_checked.new.text.items c.read_checked-2.new.text.items c.read_checked.result c.read_checked-2.result c.requires.same
    one.reader other.reader one.ok other.ok one.fault other.fault
