use Rattle.gather.proofs.rounds.close.Goals as goal

pub returns : goal.returns
returns g c = record { worked = c.go_round.ensures.worked; fills = c.go_round.ensures.fills }
