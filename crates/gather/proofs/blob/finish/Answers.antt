use Rattle.gather.proofs.SeatCommon.{arith, subst, ◌∙◌, IsKeyed, binds_found, judged_at, verdict_binds, Judges, Fixed, IsLegal, fixed_of}
use Rattle.gather.proofs.blob.finish.Goals as goal

pub returns-in_err-judge-clause-binds : goal.returns-in_err-judge-clause-binds
returns-in_err-judge-clause-binds c =
    let knows = c.read_all.ensures.of.knows in
    let history = c.read_all.new.seat.view.seen in
    let judged : Judges (fixed_of c.args.assembly.now) c.in_ok-blob.blob.items c.judge.result =
    judged_at _ _ _ _ _ c.judge.result (c.fixed-fixed.ensures ∙ knows.fixed_is) c.as_slice.ensures.value c.hash.ensures.value c.judge.ensures.judges in
    verdict_binds _ _ history _ c.judge.result c.from_residual-in_err-judge.result judged (subst (λ (f : Fixed). IsLegal f history) knows.fixed_is knows.legal)
    c.in_ok-blob.ensures.whole c.from_residual-in_err-judge.ensures.0 (λ fault e. grind arith)

pub returns-clause-binds : goal.returns-clause-binds
returns-clause-binds c =
    let fixed : Fixed = fixed_of c.args.assembly.now in
    let knows = c.read_all.ensures.of.knows in
    let history = c.read_all.new.seat.view.seen in
    binds_found _ fixed history c.in_ok-blob.blob
    (subst (λ (f : Fixed). IsKeyed f.mode) (c.fixed-fixed.ensures ∙ knows.fixed_is) c.is_keyed.ensures)
    (subst (λ (f : Fixed). IsLegal f history) knows.fixed_is knows.legal) c.in_ok-blob.ensures.whole
