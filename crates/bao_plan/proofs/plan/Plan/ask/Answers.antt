use Rattle.std.proofs.Common.{◌≡◌, ◌≤◌, ◌∙◌, false, true, ap, sym, refl, arith}
use Rattle.bao_plan.specs.Plans.{state_of}
use Rattle.bao_plan.specs.States.{HolderState, is_left_out}
use Rattle.bao_plan.proofs.PlanLemmas.{did_fetch, read_at}
use Rattle.bao_plan.proofs.Results.{if_ok_map}
use Rattle.bao_plan.proofs.plan.Plan.ask.Goals as goal

pub returns-in-Some-first_ready-2-clause-ok : goal.returns-in-Some-first_ready-2-clause-ok
returns-in-Some-first_ready-2-clause-ok c =
    let p = c.args.self.now in
    let hs = p.holders.items in
    let s = state_of p in
    let is_in : is_left_out p.policy (s.holder c.args.holder) ≡ false =
    ap (is_left_out p.policy) (read_at hs c.args.holder c.index.result.now c.requires.holder c.index.ensures) ∙ (sym c.is_left_out.ensures ∙ c.if-is_left_out.false) in
    let later : (s.holder c.args.holder).later ≤ c.args.now =
    omega (arith, ap (λ (x : HolderState). x.later) (read_at hs c.args.holder c.index-2.result.now c.requires.holder c.index-2.ensures), c.if-now-later.false) in
    if_ok_map c.begin-in-Some-first_ready-2.result _ _
    (λ next is. did_fetch s (state_of c.begin-in-Some-first_ready-2.new.self) c.args.holder c.args.now true next c.requires.holder is_in later (λ _. c.in-None-first_ready.ensures) is)
    c.begin-in-Some-first_ready-2.ensures.ok

pub returns-clause-ok : goal.returns-clause-ok
returns-clause-ok c =
    let p = c.args.self.now in
    let is_in : is_left_out p.policy ((state_of p).holder c.args.holder) ≡ false =
    ap (is_left_out p.policy) (read_at p.holders.items c.args.holder c.index.result.now c.requires.holder c.index.ensures) ∙ (sym c.is_left_out.ensures ∙ c.if-is_left_out.false) in
    record {
      right = (c.requires.holder, record { ahead = c.due.ensures; is_in = is_in; some = (c.in-Some.field-0, c.in-Some.ensures); not_now = λ _. c.in-None-first_ready-2.ensures });
      after = refl;
    }
