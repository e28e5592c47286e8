use Rattle.gather.proofs.SeatCommon.{List, ◌∷◌, refl, sym, subst}
use Rattle.gather.specs.declared.crew.Crew.{Crew}
use Rattle.gather.specs.Turns.{AllMeet}
use Rattle.gather.proofs.InTurn.{all_met, sees_then}
use Rattle.gather.proofs.meeting.all_meet.Goals as goal

pub returns-in-Some : goal.returns-in-Some
returns-in-Some g c =
    let first : Crew g.row.H.Denot = c.in-Some.first.now in
    let last : Crew g.row.H.Denot = record first { seat = c.meet_each-in-Some.new.seat } in
    let mid = c.meet_each.new.seat.view in
    let news : List (Crew g.row.H.Denot) = c.meet_each-in-Some.new.crews in
    let once = c.meet_each.ensures in
    let twice = c.meet_each-in-Some.ensures in
    subst (λ (crews : List (Crew g.row.H.Denot)). AllMeet c.args.assembly.now crews (last ∷ news)) (sym c.in-Some.ensures.cases.0)
    (all_met c.args.assembly.now first last mid c.in-Some.others.now c.meet_each.new.crews news once.sees twice.sees
    (record { of = twice.of; sees = sees_then first.seat.view mid last.seat.view once.sees twice.sees; same = refl }) once.meets twice.meets)
