use Rattle.bao_tasks.specs.Worth.{HasGroup, groups_of}
use Rattle.determined_program.proofs.Verdicts.{worths_said}
use Rattle.determined_program.proofs.worths.worth_of_determined.Goals as goal

pub returns : goal.returns
returns g c =
    worths_said (g.S.Source.contents c.args.source.now) (g.S.Source.faultless c.args.source.now) (λ bytes. HasGroup c.args.wanted.now.form c.args.wanted.now.mode c.args.wanted.now.root.0 bytes)
    (λ bytes. groups_of c.args.wanted.now.form bytes) c.worth_of.result c.worth_of-2.result c.worth_of.ensures.worth c.worth_of-2.ensures.worth
