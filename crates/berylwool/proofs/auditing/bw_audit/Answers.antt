use Rattle.std.proofs.Common.{◌∙◌}
use Rattle.berylwool.specs.Pairs.{input_of}
use Rattle.berylwool.proofs.Texts.{audited, collided, refused}
use Rattle.berylwool.proofs.auditing.bw_audit.Goals as goal

pub returns-in-Ok-Agrees-clause-agrees : goal.returns-in-Ok-Agrees-clause-agrees
returns-in-Ok-Agrees-clause-agrees c = λ _.
    audited c.get.result _ c.args.slice.now.root c.args.slice.now.start c.args.slice.now.len c.args.text.now c.args.blob.now c.in-Ok.piece c.in-Ok-Agrees.field-0 _
    c.get.ensures c.in-Ok-Agrees.field-0-is c.in-Ok.ensures.piece c.in-Ok-Agrees.ensures.says

pub returns-in-Ok-Collision-clause-collision : goal.returns-in-Ok-Collision-clause-collision
returns-in-Ok-Collision-clause-collision c = λ _.
    let shown = collided c.in-Ok-Collision.first c.in-Ok-Collision.second (input_of c.shown.result) (input_of c.shown-in-Ok-Collision.result) c.shown.ensures c.shown-in-Ok-Collision.ensures in
    audited c.get.result _ c.args.slice.now.root c.args.slice.now.start c.args.slice.now.len c.args.text.now c.args.blob.now c.in-Ok.piece c.in-Ok-Collision.field-0 _
    c.get.ensures (c.in-Ok-Collision.field-0-is ∙ shown) c.in-Ok.ensures.piece c.in-Ok-Collision.ensures.says

pub returns-in-Err-clause-status : goal.returns-in-Err-clause-status
returns-in-Err-clause-status c = λ _ _ _ _.
    refused c.get.result _ c.args.slice.now.root c.args.text.now _ c.in-Err.fault _ _ c.get.ensures c.told.ensures.status c.in-Err.ensures.fault
