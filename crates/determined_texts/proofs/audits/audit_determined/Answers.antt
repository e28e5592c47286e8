use Rattle.determined_texts.proofs.Audited.{one_root, one_verdict}
use Rattle.determined_texts.proofs.audits.audit_determined.Goals as goal

pub returns-clause-other_root : goal.returns-clause-other_root
returns-clause-other_root c =
    one_root c.args.blob.now c.args.a.now c.args.b.now c.audit.result c.audit-2.result c.requires c.audit.ensures.other_root c.audit-2.ensures.other_root

pub returns-clause-agrees : goal.returns-clause-agrees
returns-clause-agrees c =
    one_verdict c.args.blob.now c.args.a.now c.args.b.now c.audit.result c.audit-2.result c.requires c.audit.ensures.other_root c.audit-2.ensures.other_root c.audit.ensures.says c.audit-2.ensures.says
