use Rattle.holders.specs.Pieces.{piece_of}
use Rattle.store_steps.proofs.words.Words.publish_none.Given as goal

abbrev pub ghosts-publish_none_asked : goal.ghosts-publish_none_asked
ghosts-publish_none_asked a = record { group = a.group; first = 0; second = 0; piece = piece_of a.self.now.fixed.base a.piece.now }
