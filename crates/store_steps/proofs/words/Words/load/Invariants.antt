use Rattle.store_steps.specs.Plays.{no_piece}
use Rattle.store_steps.proofs.words.Words.load.Given as goal

abbrev pub ghosts-load_asked : goal.ghosts-load_asked
ghosts-load_asked a = record { group = a.group; first = a.at; second = a.len; piece = no_piece }
