use Rattle.std.proofs.Common.{List, ℕ, Option, sym, subst, IfOk, IfSome}
use Rattle.std.specs.Io.KnownBytes.{Consumes}
use Rattle.bao_check.specs.Checked.{piece_text}
use Rattle.determined_texts.proofs.Left.{stream_left}
use Rattle.determined_texts.proofs.OneText.{Says, pieces_agree}
use Rattle.determined_texts.proofs.streams.check_stream_determined.Goals as goal

pub returns-clause-answer : goal.returns-clause-answer
returns-clause-answer g c =
    let after = g.R.Read.remaining c.check_stream-other.new.reader in
    let s = c.check_stream-other.result in
    pieces_agree c.args.mode.now c.args.root.now.0 c.args.start c.args.len (g.R.Read.remaining c.args.ours.now) (g.R.Read.remaining c.check_stream-one.new.reader) after
    c.check_stream-one.result s c.check_stream-one.ensures.piece c.check_stream-other.ensures.piece
    c.check_stream-one.ensures.reader (subst (λ (o : Option (List ℕ)). IfOk s (λ x. Consumes o after (piece_text x))) (sym c.requires.same) c.check_stream-other.ensures.reader)
    c.is_accepted.ensures c.is_accepted-2.ensures c.check_stream-one.ensures.exact
    (subst (λ (o : Option (List ℕ)). IfSome o (λ all. Says c.args.mode.now c.args.root.now.0 c.args.start c.args.len all s)) (sym c.requires.same) c.check_stream-other.ensures.exact)

pub returns-clause-left : goal.returns-clause-left
returns-clause-left g c =
    let one = c.check_stream-one.ensures in
    let other = c.check_stream-other.ensures in
    stream_left c.args.mode.now c.args.root.now.0 c.args.start c.args.len (g.R.Read.remaining c.args.ours.now) (g.R.Read.remaining c.args.theirs.now) (g.R.Read.remaining c.check_stream-one.new.reader)
    (g.R.Read.remaining c.check_stream-other.new.reader) c.check_stream-one.result c.check_stream-other.result c.requires.same (returns-clause-answer g c) one.reader other.reader one.fault other.fault
