use Rattle.store_steps.specs.Plays.{no_piece}
use Rattle.store_steps.proofs.words.Words.store.Given as goal

abbrev pub ghosts-store_asked : goal.ghosts-store_asked
ghosts-store_asked g a = record { group = 0; first = a.item; second = a.word; piece = no_piece }
