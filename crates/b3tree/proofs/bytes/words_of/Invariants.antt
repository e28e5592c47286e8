use Rattle.std.proofs.Common.{◌≡◌, ℕ, ◌<◌, length, get_or}
use Rattle.b3tree.specs.Bytes.{word_at}
use Rattle.b3tree.proofs.bytes.words_of.Given as goal

abbrev pub invariant-words : goal.invariant-words
invariant-words g l = (length l.words ≡ g.row.N) × ((k : ℕ) → k < l.i → get_or l.words k 0 ≡ word_at l.bytes k)
