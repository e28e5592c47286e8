use Rattle.bao_check.specs.Checked.{HoldsLast}
use Rattle.determined_texts.proofs.Same.{both_there, same_last, same_tails}
use Rattle.determined_texts.proofs.pieces.tail_determined.Goals as goal

pub returns-clause-there : goal.returns-clause-there
returns-clause-there c =
    both_there c.tail.result c.tail-2.result (HoldsLast c.args.a.now) (HoldsLast c.args.b.now) (same_last c.args.a.now c.args.b.now c.requires) c.tail.ensures.there c.tail-2.ensures.there

pub returns-clause-same : goal.returns-clause-same
returns-clause-same c = same_tails c.args.a.now c.args.b.now c.tail.result c.tail-2.result c.requires c.tail.ensures.piece c.tail-2.ensures.piece
