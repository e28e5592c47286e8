use Rattle.store_steps.specs.Plays.{no_piece}
use Rattle.store_steps.proofs.words.Words.give_none.Given as goal

abbrev pub ghosts-give_none_asked : goal.ghosts-give_none_asked
ghosts-give_none_asked a = record { group = a.group; first = a.mask; second = 0; piece = no_piece }
