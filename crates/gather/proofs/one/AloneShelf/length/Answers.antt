use Rattle.gather.proofs.Common.{Length, ◌∙◌}
use Rattle.holders.specs.Holders.{IsNone}
use Rattle.gather.proofs.Alone.{worked_one}
use Rattle.gather.proofs.Knowing.{length_records}
use Rattle.gather.proofs.one.AloneShelf.length.Goals as goal
use Rattle.gather.specs.Worked.{worker}

pub returns-clause-still : goal.returns-clause-still
returns-clause-still c = (worked_one IsNone c.args.store.now c.args.store.now (Length c.length.result) tt (c.length.ensures.event worker), λ n is. is)

pub returns-clause-records : goal.returns-clause-records
returns-clause-records c = length_records c.args.store.now c.length.result (c.length.ensures.event worker).right

pub returns-clause-known : goal.returns-clause-known
returns-clause-known c = λ l is. (c.length.ensures.event worker).right ∙ is
