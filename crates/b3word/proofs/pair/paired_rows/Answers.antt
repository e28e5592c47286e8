use Rattle.b3word.proofs.PairedRows.{words-all}
use Rattle.b3word.proofs.pair.paired_rows.Goals as goal

pub returns-clause-first : goal.returns-clause-first
returns-clause-first c = words-all c.args.m.now c.told-m

pub returns-clause-second : goal.returns-clause-second
returns-clause-second c = words-all c.args.n.now c.told-n
