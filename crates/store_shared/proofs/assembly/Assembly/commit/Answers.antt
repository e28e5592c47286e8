use Rattle.std.proofs.Common.{◌<◌, ap, sym, subst, ◌∙◌, arith}
use Rattle.std.proofs.lemmas.List.{get_or_default}
use Rattle.holders.specs.declared.fixed.Fixed.{Fixed}
use Rattle.holders.specs.Room.{groups}
use Rattle.holders.specs.Pieces.{piece_of}
use Rattle.store_shared.specs.Seats.{Gripped}
use Rattle.store_shared.proofs.Claiming.{claims_ended, none_bind}
use Rattle.store_shared.proofs.assembly.Assembly.commit.Goals as goal

pub returns-then-group-groups-clause-binds : goal.returns-then-group-groups-clause-binds
returns-then-group-groups-clause-binds c = none_bind c.args.self.now.words.fixed (piece_of c.args.self.now.words.fixed.base c.args.piece.now) c.args.group

pub invariant_of-seat-2 : goal.invariant_of-seat-2
invariant_of-seat-2 c =
    let within : c.args.group < groups c.seat.inside.grip.view.fixed =
    subst (λ (f : Fixed). c.args.group < groups f) (sym (ap (λ (x : Gripped). x.view.fixed) c.seat.view_is ∙ c.requires.of.knows.fixed_is))
    (omega (arith, c.if-group-groups.false, c.groups.ensures)) in
    claims_ended c.seat.inside.grip.view c.commit-committed.new.grip.view c.seat.inside.claims.items c.args.group c.commit-committed.result c.index_mut.result.now
    c.seat.invariant c.commit-committed.ensures.called.goes_on.fixed_is c.commit-committed.ensures.called.storing_is within
    (c.index_mut.ensures.value ∙ get_or_default c.seat.inside.claims.items c.args.group c.index_mut.result.now 0 (omega (arith, within, c.seat.invariant.count)))
    (omega arith) c.commit-committed.ensures.called.claims_are
