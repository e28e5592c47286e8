use Rattle.holders.specs.Pieces.{piece_of}
use Rattle.bao_check.specs.Tail.{tail_piece}
use Rattle.store_steps.proofs.words.Words.settle.Given as goal

abbrev pub ghosts-settle_asked : goal.ghosts-settle_asked
ghosts-settle_asked a = record { group = 0; first = 0; second = 0; piece = piece_of a.self.now.fixed.base (tail_piece a.tail.now) }
