use Rattle.std.proofs.Common.{◌≡◌, List, ap, subst, sym, ◌∙◌}
use Rattle.gather.specs.Finished.{Finishes}
use Rattle.holders.specs.declared.fixed.Fixed.{Fixed}
use Rattle.store_core.specs.declared.history.Event.{Event}
use Rattle.store_core.specs.Histories.{state_after}
use Rattle.store_core.specs.States.{State}
use Rattle.store_shared.specs.Seats.{fixed_of}
use Rattle.determined_stores.proofs.Asked.{asked_alone}
use Rattle.determined_stores.proofs.Finishes.{finishes_agree}
use Rattle.determined_stores.proofs.Pairs.{other_alone}
use Rattle.determined_stores.proofs.crews.finish_alone.Goals as goal

pub returns : goal.returns
returns c =
    let first = c.args.first.now.view in
    let second = c.args.second.now.view in
    let alike = c.requires.alike in
    let ours = asked_alone first c.finish-one.new.seat.view c.look_round.new.seat.view alike.alone c.finish-one.ensures.asks c.look_round.ensures.looked in
    let theirs =
    asked_alone second c.finish-other.new.seat.view c.look_round-2.new.seat.view (other_alone first second alike) c.finish-other.ensures.asks c.look_round-2.ensures.looked in
    let states : state_after c.finish-other.new.seat.view.seen ≡ state_after c.finish-one.new.seat.view.seen =
    theirs ∙ ap (λ (h : List Event). state_after h) alike.seen_are ∙ sym ours in
    let fixed : fixed_of c.args.b.now ≡ fixed_of c.args.a.now =
    sym c.requires.of_theirs.knows.fixed_is ∙ alike.fixed_are ∙ c.requires.of.knows.fixed_is in
    finishes_agree (λ v. v.items) (fixed_of c.args.a.now) (state_after c.finish-one.new.seat.view.seen) c.finish-one.result c.finish-other.result c.finish-one.ensures.finishes
    (subst (λ (f : Fixed). Finishes (λ v. v.items) f (state_after c.finish-one.new.seat.view.seen) c.finish-other.result) fixed
    (subst (λ (s : State). Finishes (λ v. v.items) (fixed_of c.args.b.now) s c.finish-other.result) states c.finish-other.ensures.finishes))
