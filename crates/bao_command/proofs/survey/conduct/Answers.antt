use Rattle.bao_command.proofs.survey.conduct.Goals as goal

pub returns-in-Ok : goal.returns-in-Ok
returns-in-Ok g c = (c.args.mode.now, c.requires, c.asks_for_output.ensures.no c.if-asks_for_output.false, c.in-Ok.ensures)
