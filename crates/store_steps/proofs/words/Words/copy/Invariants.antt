use Rattle.store_steps.specs.Plays.{no_piece}
use Rattle.store_steps.proofs.words.Words.copy.Given as goal

abbrev pub ghosts-copy_asked : goal.ghosts-copy_asked
ghosts-copy_asked g a = record { group = 0; first = a.item; second = a.word; piece = no_piece }
