use Rattle.std.proofs.Common.{ℕ, sym, subst, bit_and}
use Rattle.b3tree.specs.Valid.{IsKeyed}
use Rattle.holders.specs.declared.fixed.Fixed.{Fixed}
use Rattle.holders.specs.declared.piece.Piece.{Piece}
use Rattle.store_core.specs.declared.view.SeatView.{SeatView}
use Rattle.holders.specs.Pieces.{IsAcceptedPiece, holds_chunk, piece_of}
use Rattle.store_core.specs.Views.{seat_claims}
use Rattle.store_core.proofs.BoundStore.{piece_binds}
use Rattle.store_core.proofs.SlotStates.{accepted_piece}
use Rattle.store_steps.specs.Asks.{AreHeldClaims}
use Rattle.store_steps.specs.Words.{fixed_of}
use Rattle.store_shared.proofs.CommittedChunks.{both_masks, own_chunks}
use Rattle.store_shared.proofs.committing.commit.Goals as goal

pub store_items-requires-clause-own : goal.store_items-requires-clause-own
store_items-requires-clause-own c =
    let piece : Piece = piece_of c.args.words.now.fixed.base c.args.piece.now in
    own_chunks c.args.grip.now.view c.args.group (bit_and c.args.claimed c.held_in.result) piece
    (both_masks c.args.group c.args.claimed c.held_in.result (λ d. seat_claims c.args.grip.now.view d) (λ d. holds_chunk piece d) c.requires.claimed c.held_in.ensures)

pub publish-requires-clause-mask : goal.publish-requires-clause-mask
publish-requires-clause-mask c =
    let piece : Piece = piece_of c.args.words.now.fixed.base c.args.piece.now in
    let mask : ℕ = bit_and c.args.claimed c.held_in.result in
    subst (λ (v : SeatView). AreHeldClaims v c.args.group piece mask) (sym c.store_items.ensures.stored.rest)
    (both_masks c.args.group c.args.claimed c.held_in.result (λ d. seat_claims c.args.grip.now.view d) (λ d. holds_chunk piece d) c.requires.claimed c.held_in.ensures)

pub returns-clause-binds : goal.returns-clause-binds
returns-clause-binds c =
    let fixed : Fixed = fixed_of c.args.words.now in
    let piece : Piece = piece_of c.args.words.now.fixed.base c.args.piece.now in
    let accepted : IsAcceptedPiece fixed piece = accepted_piece fixed c.args.piece.now c.is_accepted.ensures.bytes c.is_accepted.ensures.accepted c.requires.piece in
    let keyed : IsKeyed fixed.mode = subst (λ (f : Fixed). IsKeyed f.mode) c.fixed.ensures c.is_keyed.ensures in
    piece_binds fixed piece c.args.group (bit_and c.args.claimed c.held_in.result) keyed accepted
