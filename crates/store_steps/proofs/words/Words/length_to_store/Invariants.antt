use Rattle.holders.specs.Pieces.{piece_of}
use Rattle.store_steps.proofs.words.Words.length_to_store.Given as goal

abbrev pub ghosts-length_to_store_asked : goal.ghosts-length_to_store_asked
ghosts-length_to_store_asked a = record { group = a.group; first = 0; second = 0; piece = piece_of a.self.now.fixed.base a.piece.now }
