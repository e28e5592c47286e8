use Rattle.std.proofs.Common.{ℕ, true, false, Err, Option, Some, ap, subst}
use Rattle.bao_tasks.specs.Missing.{ClaimsLength}
use Rattle.bao_tasks.proofs.Claims.{claimed_is, told_by}
use Rattle.bao_tasks.proofs.missing.lack_of.Goals as goal

pub returns-in-Ok : goal.returns-in-Ok
returns-in-Ok g c =
    told_by g.S.Source.contents g.S.Source.faultless c.args.wanted.now c.args.sources.now c.args.most c.in-Ok.length true c.lack_by.result (c.lack_by.ensures c.in-Ok.ensures.of)
    (c.in-Ok.ensures.each, c.in-Ok.ensures.of, c.in-Ok.ensures.certified)

pub returns-in-Ok-Some : goal.returns-in-Ok-Some
returns-in-Ok-Some g c =
    let wanted = c.args.wanted.now in
    let sources = c.args.sources.now in
    let length : ℕ = c.in-Ok-Some.length in
    let claims : ClaimsLength g.S.Source.contents g.S.Source.faultless wanted sources wanted.form (Some length) =
    subst (λ (o : Option ℕ). ClaimsLength g.S.Source.contents g.S.Source.faultless wanted sources wanted.form o) c.in-Ok-Some.field-0-is c.in-Ok-Some.ensures in
    told_by g.S.Source.contents g.S.Source.faultless wanted sources c.args.most length false c.lack_by-in-Ok-Some.result
    (c.lack_by-in-Ok-Some.ensures (claimed_is g.S.Source.contents g.S.Source.faultless wanted sources wanted.form length claims))
    (c.in-Err-Unfinished.ensures.missing (ap Err c.in-Err-Unfinished.field-0-is), claims)
