use Rattle.determined_texts.proofs.audits.audit_all_determined.Goals as goal

pub returns-clause-none : goal.returns-clause-none
returns-clause-none c =
    let one = c.audit_all.ensures.none in
    let other = c.audit_all-2.ensures.none in (λ e. other.1 (one.0 e), λ e. one.1 (other.0 e))

pub returns-clause-forged : goal.returns-clause-forged
returns-clause-forged c i =
    let one = c.audit_all.ensures.forged i in
    let other = c.audit_all-2.ensures.forged i in (λ e. other.1 (one.0 e), λ e. one.1 (other.0 e))

pub returns-clause-other_root : goal.returns-clause-other_root
returns-clause-other_root c =
    let one = c.audit_all.ensures.other_root in
    let other = c.audit_all-2.ensures.other_root in (λ e. other.1 (one.0 e), λ e. one.1 (other.0 e))
