use Rattle.std.proofs.Common.{◌≡◌, ◌<◌, ◌≤◌, ℕ, List, Some}
use Rattle.bao_check.specs.Checked.{piece_places, piece_text}
use Rattle.bao_check.specs.Pieces.{chunk_in}
use Rattle.bao_bind.specs.Verdict.{IsOurs}
use Rattle.bao_bind.proofs.bind.first_apart.Given as goal

-- the chunks from the first to this one are the blob's
abbrev pub invariant-chunks : goal.invariant-chunks
invariant-chunks l =
    (i : ℕ) (bytes : List ℕ) → l.from ≤ i → i < l.number → chunk_in (piece_text l.piece) (piece_places l.piece) i ≡ Some bytes → IsOurs l.blob l.claimed i bytes
