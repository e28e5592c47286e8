use Rattle.std.proofs.Common.{◌≡◌, ℕ, slice_index, sym, subst}
use Rattle.std.specs.Int.Bits.{bit_or}
use Rattle.store_core.specs.declared.history.Call.{Call}
use Rattle.store_core.specs.declared.history.Call.TheVariants.{Commit}
use Rattle.holders.specs.declared.piece.Piece.{Piece}
use Rattle.holders.specs.Pieces.{piece_of}
use Rattle.store_core.proofs.SlotStates.{accepted_piece}
use Rattle.store_steps.specs.Asks.{AreHeldClaims, AreWordsStored}
use Rattle.store_steps.specs.Grips.{Gripped, first_of}
use Rattle.store_steps.specs.Kinds.{chunk_kind}
use Rattle.store_core.specs.Knowledge.{Did}
use Rattle.store_steps.proofs.StepViews.{Steps, step_asks}
use Rattle.store_steps.proofs.Publishing.{publish_steps}
use Rattle.store_steps.proofs.words.Words.publish_asked.Goals as goal

pub fetch_or-requires : goal.fetch_or-requires
fetch_or-requires g c =
    let words = c.args.self.now in
    let seat = c.grip.inside.seat in
    let group : ℕ = c.args.group in
    let mask : ℕ = c.args.mask in
    let piece : Piece = piece_of words.fixed.base c.args.piece.now in
    let call : Call = Commit g.A.Arguments.group g.A.Arguments.piece mask in
    let same : Commit group piece mask ≡ call = cc in
    step_asks words seat c.grip.view_is c.requires.of c.grip.invariant.0
    c.held_place-place.ensures.place c.held_place-place.ensures.within (λ n. bit_or n mask) (λ n. Did call) (λ s kept at small.
    subst (λ (x : Call). Steps words.fixed s seat.id group (bit_or (slice_index s.words group) mask) (λ new. Did x (first_of seat.me.0) new)) same
    (publish_steps words.fixed s kept seat.id _ at group mask piece c.requires.group
    (accepted_piece words.fixed c.args.piece.now c.is_accepted.ensures.bytes c.is_accepted.ensures.accepted c.requires.piece)
    (subst (λ (x : Gripped). AreHeldClaims x.view group piece mask) (sym c.grip.view_is) c.requires.mask)
    (subst (λ (x : Gripped). AreWordsStored chunk_kind x.view group mask piece) (sym c.grip.view_is) c.requires.written)))
