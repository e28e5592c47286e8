use Rattle.determined_texts.proofs.Audited.{one_agreement, one_length, one_root}
use Rattle.determined_texts.proofs.audits.audit_parents_determined.Goals as goal

pub returns-clause-other_root : goal.returns-clause-other_root
returns-clause-other_root c =
    one_root c.args.blob.now c.args.a.now c.args.b.now c.audit_parents.result c.audit_parents-2.result c.requires c.audit_parents.ensures.other_root c.audit_parents-2.ensures.other_root

pub returns-clause-agrees : goal.returns-clause-agrees
returns-clause-agrees c =
    let one = c.audit_parents.ensures in
    let other = c.audit_parents-2.ensures in
    one_agreement c.args.blob.now c.args.a.now c.args.b.now c.audit_parents.result c.audit_parents-2.result c.requires one.other_root other.other_root one.says other.says

pub returns-clause-other_length : goal.returns-clause-other_length
returns-clause-other_length c =
    let one = c.audit_parents.ensures in
    let other = c.audit_parents-2.ensures in
    one_length c.args.blob.now c.args.a.now c.args.b.now c.audit_parents.result c.audit_parents-2.result c.requires one.other_root other.other_root one.says other.says
