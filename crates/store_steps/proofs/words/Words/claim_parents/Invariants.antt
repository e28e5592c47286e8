use Rattle.store_steps.specs.Plays.{no_piece}
use Rattle.store_steps.proofs.words.Words.claim_parents.Given as goal

abbrev pub ghosts-claim_parents_asked : goal.ghosts-claim_parents_asked
ghosts-claim_parents_asked a = record { group = a.group; first = 0; second = 0; piece = no_piece }
