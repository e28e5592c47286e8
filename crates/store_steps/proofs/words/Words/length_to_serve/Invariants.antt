use Rattle.store_steps.specs.Plays.{no_piece}
use Rattle.store_steps.proofs.words.Words.length_to_serve.Given as goal

abbrev pub ghosts-length_to_serve_asked : goal.ghosts-length_to_serve_asked
ghosts-length_to_serve_asked a = record { group = 0; first = a.start; second = a.len; piece = no_piece }
