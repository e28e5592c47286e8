use Rattle.gather.proofs.SeatCommon.{IsNone, sym, ◌∙◌, Length}
use Rattle.gather.proofs.Sharing.{goes_on}
use Rattle.gather.proofs.SeatKnowing.{length_known, length_records}
use Rattle.gather.proofs.shared.SharedShelf.length.Goals as goal

pub returns-clause-still : goal.returns-clause-still
returns-clause-still c =
    (goes_on IsNone c.args.seat.now c.length.new.seat (Length c.length.result) tt c.length.ensures.called, λ n is. sym (c.length.ensures.called.claims_are n) ∙ is)

pub returns-clause-records : goal.returns-clause-records
returns-clause-records c = length_records c.args.seat.now c.length.new.seat c.length.result c.length.ensures.called

pub returns-clause-known : goal.returns-clause-known
returns-clause-known c = length_known c.args.seat.now c.length.new.seat c.length.result c.length.ensures.called
