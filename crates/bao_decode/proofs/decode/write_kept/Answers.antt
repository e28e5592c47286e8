use Rattle.bao_decode.proofs.decode.write_kept.Goals as goal

pub returns-in-Err-clause-paths : goal.returns-in-Err-clause-paths
returns-in-Err-clause-paths g c = c.in-Err.ensures.paths c.args.path
