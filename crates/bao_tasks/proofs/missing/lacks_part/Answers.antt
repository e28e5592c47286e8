use Rattle.bao_tasks.proofs.Said.{asked_within, chunks_said}
use Rattle.bao_tasks.proofs.missing.lacks_part.Goals as goal

pub ask-requires : goal.ask-requires
ask-requires g c = asked_within g.S.Source.contents g.S.Source.faultless c.args.wanted.now c.args.source.now c.args.first c.args.most c.requires.some c.requires.few c.args.wanted.now.form c.requires.first

pub returns-in-Ok : goal.returns-in-Ok
returns-in-Ok g c =
    chunks_said g.S.Source.contents g.S.Source.faultless c.args.wanted.now c.args.source.now c.args.first c.args.most c.requires.some c.requires.few c.in-Ok.found c.is_none.result c.requires.first
    c.is_none.ensures c.in-Ok.ensures
