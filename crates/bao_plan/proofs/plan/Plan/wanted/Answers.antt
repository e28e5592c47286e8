use Rattle.std.proofs.Common.{◌&&◌, nat_lt, not, sym, subst}
use Rattle.bao_plan.specs.Holders.{seen_at}
use Rattle.bao_plan.specs.Sets.{IsRunOf, contains}
use Rattle.bao_plan.specs.States.{HolderState, may_have}
use Rattle.bao_plan.proofs.PlanLemmas.{read_at}
use Rattle.bao_plan.proofs.plan.Plan.wanted.Goals as goal

pub returns : goal.returns
returns c =
    let p = c.args.self.now in
    let g = c.args.group in
    let x = seen_at p.holders.items c.args.holder in
    let is_open = contains p.missing.runs.items in
    let may = subst (λ (y : HolderState). IsRunOf g c.may_have-may_have.result (may_have y)) (sym (read_at p.holders.items c.args.holder c.index.result.now c.requires.holder c.index.ensures)) c.may_have-may_have.ensures in
    let asked = subst (λ (y : HolderState). IsRunOf g c.is_asked_from-asked.result y.asked) (sym (read_at p.holders.items c.args.holder c.index-2.result.now c.requires.holder c.index-2.ensures)) c.is_asked_from-asked.ensures in
    c.and-2.ensures g (λ k. is_open k && may_have x k && not (x.asked k)) (λ k. nat_lt k p.end)
    (c.and.ensures g (λ k. is_open k && may_have x k) (λ k. not (x.asked k))
    (c.and-undecided.ensures g is_open (may_have x) c.run_at.ensures may)
    (c.others.ensures.others g x.asked asked))
    c.run_below.ensures
