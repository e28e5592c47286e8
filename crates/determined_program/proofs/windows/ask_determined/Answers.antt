use Rattle.determined_program.proofs.Asking.{asked_once}
use Rattle.determined_program.proofs.windows.ask_determined.Goals as goal

pub returns : goal.returns
returns g c = λ bytes known sound.
    asked_once g.S.Source.contents g.S.Source.faultless c.args.wanted.now c.args.source.now c.args.range.start c.args.range.len bytes known sound c.ask-one.result c.ask-other.result
    c.ask-one.ensures c.ask-other.ensures
