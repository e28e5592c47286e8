use Rattle.std.proofs.Common.{subst}
use Rattle.store_shared.specs.Seats.{Gripped}
use Rattle.store_core.specs.Knowledge.{AreMet}
use Rattle.store_shared.proofs.OneLine.{one_line}
use Rattle.store_shared.proofs.Claiming.{met_apart, were_apart, met_claims, met_keeps}
use Rattle.store_shared.proofs.assembly.Assembly.meet.Goals as goal

pub invariant_of-first : goal.invariant_of-first
invariant_of-first c = let m = c.meet.ensures.met in met_claims _ _ _ m.history _ c.first.invariant m.first_is m.after_first m.legal

pub invariant_of-second : goal.invariant_of-second
invariant_of-second c = let m = c.meet.ensures.met in met_claims _ _ _ m.history _ c.second.invariant m.second_is m.after_second m.legal

pub returns-clause-met : goal.returns-clause-met
returns-clause-met c =
    subst (λ (x : Gripped). AreMet x.view c.args.second.now.view c.meet.new.first.view c.meet.new.second.view) c.first.view_is
    (subst (λ (x : Gripped). AreMet c.first.inside.grip.view x.view c.meet.new.first.view c.meet.new.second.view) c.second.view_is c.meet.ensures.met)

pub returns-clause-claims : goal.returns-clause-claims
returns-clause-claims c =
    let met : AreMet c.args.first.now.view c.args.second.now.view c.meet.new.first.view c.meet.new.second.view = returns-clause-met c in (
      met_keeps _ c.args.first.now.view c.meet.new.first.view met.history met.first_is met.after_first met.legal,
      met_keeps _ c.args.second.now.view c.meet.new.second.view met.history met.second_is met.after_second met.legal,
    )

pub returns-clause-apart : goal.returns-clause-apart
returns-clause-apart c = met_apart c.args.first.now.view c.args.second.now.view c.meet.new.first.view c.meet.new.second.view (returns-clause-met c)

pub returns-clause-were_apart : goal.returns-clause-were_apart
returns-clause-were_apart c = were_apart c.args.first.now.view c.args.second.now.view c.meet.new.first.view c.meet.new.second.view (returns-clause-met c)

pub returns-clause-one_line : goal.returns-clause-one_line
returns-clause-one_line c = one_line c.args.first.now.view c.args.second.now.view c.meet.new.first.view c.meet.new.second.view (returns-clause-met c)
