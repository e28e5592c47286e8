use Rattle.b3word.proofs.PairedRows.{words-all}
use Rattle.b3word.proofs.compression.paired_rows.Goals as goal

pub returns : goal.returns
returns c = words-all c.args.m.now c.told-m
