use Rattle.std.proofs.Common.{subst}
use Rattle.b3tree.specs.declared.mode.Mode.{Mode}
use Rattle.b3tree.specs.declared.values.Hash.{Hash}
use Rattle.bao_check.specs.Accepted.{slice_nodes}
use Rattle.bao_check.specs.Faults.{IsFirstFault}
use Rattle.store_shared.specs.Seats.{fixed_of}
use Rattle.berylwool.proofs.Texts.{refused_there}
use Rattle.berylwool.proofs.fronts.stored_some.Goals as goal

pub commit_front-requires-clause-fault : goal.commit_front-requires-clause-fault
commit_front-requires-clause-fault c =
    let fixed = fixed_of c.args.store.now in
    let nodes = slice_nodes c.args.text.now c.args.start c.args.len in
    subst (λ (m : Mode). IsFirstFault m fixed.root.0 c.args.text.now nodes c.in-Err.fault) c.mode.ensures
    (subst (λ (r : Hash). IsFirstFault c.mode.result r.0 c.args.text.now nodes c.in-Err.fault) c.root.ensures c.in-Err.ensures.fault)

pub returns-in-Err-clause-fault : goal.returns-in-Err-clause-fault
returns-in-Err-clause-fault c = λ _.
    refused_there (fixed_of c.args.store.now) c.mode.result c.root.result c.args.text.now _ c.in-Err.fault _ _ c.mode.ensures c.root.ensures c.told-status.ensures.status c.in-Err.ensures.fault
