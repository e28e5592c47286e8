use Rattle.b3par.proofs.Placed.{placed_err, placed_ok}
use Rattle.b3par.proofs.tree.made_of.Goals as goal

pub returns-in-Some-clause-right : goal.returns-in-Some-clause-right
returns-in-Some-clause-right g c = (c.in-Some.ensures.right c.args.source.now c.args.choice.now c.args.mode.now c.requires.right).0

pub returns-in-Some-clause-text : goal.returns-in-Some-clause-text
returns-in-Some-clause-text g c =
    placed_ok (g.S.Source.contents c.args.source.now) (g.S.Source.faultless c.args.source.now) c.args.choice.now c.args.mode.now c.args.first c.args.len
    c.in-Some.answer c.in-Some.ensures.place.0 c.in-Some.ensures.place.1
    (c.in-Some.ensures.right c.args.source.now c.args.choice.now c.args.mode.now c.requires.right).1

pub returns-in-Some-clause-fault : goal.returns-in-Some-clause-fault
returns-in-Some-clause-fault g c =
    placed_err (g.S.Source.contents c.args.source.now) (g.S.Source.faultless c.args.source.now) c.args.choice.now c.args.mode.now c.args.first c.args.len
    c.in-Some.answer c.in-Some.ensures.place.0 c.in-Some.ensures.place.1
    (c.in-Some.ensures.right c.args.source.now c.args.choice.now c.args.mode.now c.requires.right).1
