use Rattle.gather.proofs.SeatCommon.{◌*◌}
use Rattle.gather.proofs.Sharing.{looked_still}
use Rattle.gather.proofs.shared.SharedShelf.has_parent.Goals as goal

pub returns-clause-still : goal.returns-clause-still
returns-clause-still c =
    looked_still c.args.seat.now c.has_parent.new.seat c.has_parent.result (1024 * c.args.boundary) 1 c.has_parent.ensures.seen c.has_parent.ensures.lacked
