use Rattle.b3par.proofs.pieces.+pieces.Given as goal

abbrev pub decreases-append_in_pieces : goal.decreases-append_in_pieces
decreases-append_in_pieces g l = l.len
