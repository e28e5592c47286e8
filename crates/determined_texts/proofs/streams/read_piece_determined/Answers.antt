use Rattle.std.proofs.Common.{List, ℕ, Option, sym, subst, IfOk, IfSome}
use Rattle.std.specs.Io.KnownBytes.{Consumes}
use Rattle.bao_check.specs.Checked.{piece_text}
use Rattle.determined_texts.proofs.OneText.{Says, pieces_agree}
use Rattle.determined_texts.proofs.streams.read_piece_determined.Goals as goal

pub returns : goal.returns
returns g c =
    let after = g.R.Read.remaining c.read_piece-other.new.reader in
    let s = c.read_piece-other.result in
    pieces_agree c.args.mode.now c.args.root.now.0 c.args.start c.args.len (g.R.Read.remaining c.args.ours.now) (g.R.Read.remaining c.read_piece-one.new.reader) after
    c.read_piece-one.result s c.read_piece-one.ensures.piece c.read_piece-other.ensures.piece
    c.read_piece-one.ensures.reader (subst (λ (o : Option (List ℕ)). IfOk s (λ x. Consumes o after (piece_text x))) (sym c.requires.same) c.read_piece-other.ensures.reader)
    c.is_accepted.ensures c.is_accepted-2.ensures c.read_piece-one.ensures.exact
    (subst (λ (o : Option (List ℕ)). IfSome o (λ all. Says c.args.mode.now c.args.root.now.0 c.args.start c.args.len all s)) (sym c.requires.same) c.read_piece-other.ensures.exact)
