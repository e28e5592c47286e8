use Rattle.std.proofs.Common.{◌<◌, ap, sym, subst, ◌∙◌, arith}
use Rattle.std.proofs.lemmas.List.{get_or_default}
use Rattle.holders.specs.declared.fixed.Fixed.{Fixed}
use Rattle.holders.specs.Room.{groups}
use Rattle.store_shared.specs.Seats.{Gripped}
use Rattle.store_shared.proofs.Claiming.{claims_took}
use Rattle.store_shared.proofs.assembly.Assembly.take.Goals as goal

pub invariant_of-seat : goal.invariant_of-seat
invariant_of-seat c =
    let within : c.args.group < groups c.seat.inside.grip.view.fixed =
    subst (λ (f : Fixed). c.args.group < groups f) (sym (ap (λ (x : Gripped). x.view.fixed) c.seat.view_is ∙ c.requires.of.knows.fixed_is))
    (omega (arith, c.if-group-groups.false, c.groups.ensures)) in
    claims_took c.seat.inside.grip.view c.take-granted.new.grip.view c.seat.inside.claims.items c.args.group c.args.want c.take-granted.result
    c.index_mut.result.now c.seat.invariant within
    (c.index_mut.ensures.value ∙ get_or_default c.seat.inside.claims.items c.args.group c.index_mut.result.now 0 (omega (arith, within, c.seat.invariant.count)))
    c.take-granted.ensures.did
