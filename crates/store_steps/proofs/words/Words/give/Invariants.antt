use Rattle.store_steps.specs.Plays.{no_piece}
use Rattle.store_steps.proofs.words.Words.give.Given as goal

abbrev pub ghosts-give_asked : goal.ghosts-give_asked
ghosts-give_asked a = record { group = a.group; first = a.mask; second = a.given; piece = no_piece }
