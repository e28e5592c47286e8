use Rattle.std.proofs.Common.{◌<◌, ap, sym, subst, ◌∙◌, arith}
use Rattle.std.proofs.lemmas.List.{get_or_default}
use Rattle.holders.specs.declared.fixed.Fixed.{Fixed}
use Rattle.holders.specs.Room.{groups}
use Rattle.store_shared.specs.Seats.{Gripped}
use Rattle.store_core.proofs.Bits.{and_small}
use Rattle.store_shared.proofs.Claiming.{claimed_among, claims_ended}
use Rattle.store_shared.proofs.assembly.Assembly.give.Goals as goal

pub give-requires-clause-given : goal.give-requires-clause-given
give-requires-clause-given c =
    let within : c.args.group < groups c.seat.inside.grip.view.fixed =
    subst (λ (f : Fixed). c.args.group < groups f) (sym (ap (λ (x : Gripped). x.view.fixed) c.seat.view_is ∙ c.requires.of.knows.fixed_is))
    (omega (arith, c.if-group-groups.false, c.groups.ensures)) in
    claimed_among c.seat.inside.grip.view c.seat.inside.claims.items c.args.group c.args.mask c.index.result.now c.seat.invariant within
    (c.index.ensures ∙ get_or_default c.seat.inside.claims.items c.args.group c.index.result.now 0 (omega (arith, within, c.seat.invariant.count)))
    (omega arith)

pub invariant_of-seat-2 : goal.invariant_of-seat-2
invariant_of-seat-2 c =
    let within : c.args.group < groups c.seat.inside.grip.view.fixed =
    subst (λ (f : Fixed). c.args.group < groups f) (sym (ap (λ (x : Gripped). x.view.fixed) c.seat.view_is ∙ c.requires.of.knows.fixed_is))
    (omega (arith, c.if-group-groups.false, c.groups.ensures)) in
    claims_ended c.seat.inside.grip.view c.give.new.grip.view c.seat.inside.claims.items c.args.group _ c.index_mut.result.now c.seat.invariant
    c.give.ensures.did.goes_on.fixed_is c.give.ensures.did.storing_is within
    (c.index_mut.ensures.value ∙ get_or_default c.seat.inside.claims.items c.args.group c.index_mut.result.now 0 (omega (arith, within, c.seat.invariant.count)))
    (and_small c.index.result.now c.args.mask (omega arith)) c.give.ensures.did.claims_are
