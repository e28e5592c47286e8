use Rattle.gather.proofs.SeatCommon.{◌<◌, List, length, arith, refl, subst, common_steps, SeatView}
use Rattle.std.proofs.lemmas.List.{get_or_default}
use Rattle.gather.proofs.InTurn.{meets_from, meets_on, sees_none, sees_then}
use Rattle.gather.proofs.Summing.{round_on}
use Rattle.gather.specs.Turns.{Meets}
use Rattle.gather.specs.declared.crew.Crew.{Crew}
use Rattle.gather.proofs.meeting.meet_each.Goals as goal

pub loop-number-init : goal.loop-number-init
loop-number-init g c = (c.requires.seat, sees_none c.args.seat.now.view c.requires.seat.knows.legal, λ i d below high. refl, λ i d low. absurd (omega (arith, low)))

pub loop-number-preserved : goal.loop-number-preserved
loop-number-preserved g c =
    let start : SeatView = c.args.seat.now.view in
    let now : SeatView = c.loop-number.seat.view in
    let next : SeatView = c.meet_one.new.seat.view in
    let R : Crew g.row.H.Denot → Crew g.row.H.Denot → Type 0 = Meets c.args.assembly.now start next in
    let crews : List (Crew g.row.H.Denot) = c.loop-number.crews in
    let below : c.loop-number.number < length crews = grind (arith, common_steps) in
    let met = c.meet_one.ensures in
    let both = round_on R c.args.crews.now crews c.loop-number.number c.meet_one.new.crew below
    (c.loop-number.invariant.2, λ i d low. meets_on c.args.assembly.now start now next _ _ met.sees (c.loop-number.invariant.3 i d low))
    (λ d. meets_from c.args.assembly.now start now next _ _ c.loop-number.invariant.1
    (subst (λ (crew : Crew g.row.H.Denot). Meets c.args.assembly.now now next crew c.meet_one.new.crew) (get_or_default crews c.loop-number.number c.index-crews-number.result d below) met.meets)) in
    (met.of, sees_then start now next c.loop-number.invariant.1 met.sees, both.0, both.1)
