use Rattle.gather.proofs.SeatCommon.{[], append-nil, ap, sym, refl, ◌∙◌, SeatView}
use Rattle.gather.proofs.InTurn.{met_sees}
use Rattle.gather.proofs.meeting.meet_one.Goals as goal

pub returns-clause-sees : goal.returns-clause-sees
returns-clause-sees g c =
    let met = c.meet.ensures.met in
    met_sees c.args.seat.now.view c.meet.new.first.view met.history met.first_is met.after_first c.meet.ensures.first.knows.legal c.meet.ensures.claims.0

pub returns-clause-meets : goal.returns-clause-meets
returns-clause-meets g c =
    let met = c.meet.ensures.met in
    let seen = ap (λ (v : SeatView). v.seen) met.second_is in
    record {
      looks = record {
        of = c.meet.ensures.second;
        sees = met_sees c.args.crew.now.seat.view c.meet.new.second.view met.history met.second_is met.after_second c.meet.ensures.second.knows.legal c.meet.ensures.claims.1;
        same = refl;
      };
      heard = (met.after_first.between, seen ∙ met.after_first.is);
      told = ([], ap (λ (v : SeatView). v.seen) met.first_is ∙ sym seen ∙ sym (append-nil c.meet.new.second.view.seen));
    }
