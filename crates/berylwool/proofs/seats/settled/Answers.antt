use Rattle.store_shared.specs.Seats.{fixed_of}
use Rattle.berylwool.proofs.Texts.{refused_there}
use Rattle.berylwool.proofs.seats.settled.Goals as goal

pub returns-in-Err-clause-fault : goal.returns-in-Err-clause-fault
returns-in-Err-clause-fault c = λ _ _.
    refused_there (fixed_of c.args.store.now) c.mode.result c.root.result c.args.text.now _ c.in-Err.fault _ _ c.mode.ensures c.root.ensures c.told.ensures.status c.in-Err.ensures.fault
