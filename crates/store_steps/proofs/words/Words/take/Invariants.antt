use Rattle.store_steps.specs.Plays.{no_piece}
use Rattle.store_steps.proofs.words.Words.take.Given as goal

abbrev pub ghosts-take_asked : goal.ghosts-take_asked
ghosts-take_asked a = record { group = a.group; first = a.want; second = 0; piece = no_piece }
