use Rattle.std.proofs.Common.{ℕ, subst}
use Rattle.store_core.specs.Masks.{IsMaskOf}
use Rattle.holders.specs.Pieces.{holds_parent, piece_of}
use Rattle.store_core.proofs.Choosing.{parents_marked}
use Rattle.store_core.proofs.parents.held_in.Goals as goal

pub returns : goal.returns
returns c =
    subst (λ (group : ℕ). IsMaskOf group c.parents_of.result (λ m. holds_parent (piece_of 0 c.args.piece.now) m)) c.from.ensures
    (parents_marked c.args.piece.now c.from.result c.parents_of.result c.parents_of.type_inv c.parents_of.ensures)
