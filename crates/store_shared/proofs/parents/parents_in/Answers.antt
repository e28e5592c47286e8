use Rattle.std.proofs.Common.{◌≡◌, ℕ, nat_lt, subst, arith}
use Rattle.store_core.specs.Masks.{IsMaskOf}
use Rattle.holders.specs.Pieces.{holds_parent, piece_of}
use Rattle.store_core.proofs.Choosing.{parents_marked}
use Rattle.store_shared.proofs.CommittedChunks.{both_masks}
use Rattle.store_shared.proofs.parents.parents_in.Goals as goal

pub returns : goal.returns
returns c =
    let piece = c.args.piece.now in
    let group : c.from-2.result ≡ c.args.group = omega arith in
    let marked : IsMaskOf c.args.group c.parents_of.result (λ m. holds_parent (piece_of 0 piece) m) =
    subst (λ (g : ℕ). IsMaskOf g c.parents_of.result (λ m. holds_parent (piece_of 0 piece) m)) group
    (parents_marked piece c.from-2.result c.parents_of.result c.parents_of.type_inv c.parents_of.ensures) in
    let capacity : c.from.result ≡ c.args.capacity = omega arith in
    let below : IsMaskOf c.args.group c.mask_below.result (λ m. nat_lt m c.args.capacity) =
    subst (λ (end : ℕ). IsMaskOf c.args.group c.mask_below.result (λ m. nat_lt m end)) capacity c.mask_below.ensures in
    both_masks c.args.group c.mask_below.result c.parents_of.result (λ m. nat_lt m c.args.capacity) (λ m. holds_parent (piece_of 0 piece) m) below marked
