use Rattle.determined_stores.proofs.Clashing.{one_is_accepted}
use Rattle.determined_stores.proofs.pieces.one_piece_is_accepted.Goals as goal

pub returns : goal.returns
returns c = one_is_accepted c.served_binds.ensures.accepted
