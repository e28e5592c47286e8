-- What a tail is of.
use Rattle.bao_check.specs.declared.checked.Checked.{Checked}
use Rattle.bao_check.specs.declared.tail.Tail.{Tail}

-- the accepted slice of a tail
abbrev pub tail_piece : Tail → Checked
tail_piece tail = tail.piece
