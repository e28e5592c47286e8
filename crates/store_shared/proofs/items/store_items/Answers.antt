use Rattle.std.proofs.Common.{◌≡◌, ℕ, ◌+◌, ◌*◌, List, Option, Some, Bor, sym, ap, subst, ◌∙◌, arith}
use Rattle.std.specs.Option.{option_copied}
use Rattle.holders.specs.declared.piece.Piece.{Piece}
use Rattle.store_core.specs.declared.view.SeatView.{SeatView}
use Rattle.holders.specs.Pieces.{piece_of}
use Rattle.store_steps.specs.Grips.{Gripped}
use Rattle.store_steps.specs.Kinds.{Kind, bytes_in}
use Rattle.store_steps.specs.Words.{IsGripOf}
use Rattle.store_shared.specs.StoredCells.{HaveWords}
use Rattle.store_shared.proofs.Storing.{item_in, item_more, item_none, owns_on}
use Rattle.store_shared.proofs.items.store_items.Goals as goal
use Rattle.store_shared.proofs.items.store_items.Goals.{then-has_bit, else-has_bit}

pub store_words-requires-clause-own : goal.store_words-requires-clause-own
store_words-requires-clause-own g c =
    let item : ℕ = 64 * c.from.result + c.loop-j.j in
    owns_on g.K.Item.kind c.args.grip.now.view c.loop-j.grip.view item c.loop-j.invariant.1.rest
    (c.requires.own.own item (item_in c.args.group c.args.mask c.loop-j.j item (omega arith) c.loop-j-test.true (sym c.if-has_bit.ensures)))

pub loop-j-preserved : goal.loop-j-preserved
loop-j-preserved g c =
    let kind : Kind = g.K.Item.kind in
    let group : ℕ = c.args.group in
    let piece : Piece = piece_of c.args.words.now.fixed.base c.args.piece.now in
    let j : ℕ = c.loop-j.j in
    let item : ℕ = 64 * c.from.result + j in
    let old : SeatView = c.args.grip.now.view in
    let new : SeatView = c.loop-j.grip.view in
    elim c.if-has_bit.branch [
      | then-has_bit w ↦
          let has : bytes_in kind piece item ≡ Some w.unwrap-bytes.result.now =
          sym (subst (λ (base : ℕ). option_copied w.bytes_in.result ≡ bytes_in kind (piece_of base c.args.piece.now) item) c.base-base.ensures.value w.bytes_in.ensures.value)
          ∙ ap (λ (o : Option (Bor (List ℕ))). option_copied o) w.unwrap-bytes.ensures in
          subst (λ (x : Gripped). IsGripOf c.args.words.now x × HaveWords kind group c.args.mask piece (j + 1) old x.view) (sym w.grip-is) (
            w.store_words.ensures.of,
            item_more kind group c.args.mask piece j old new c.loop-j.invariant.1 item w.unwrap-bytes.result.now w.store_words.new.grip.view (omega arith) c.loop-j-test.true has
                w.store_words.ensures.stored,
          )
      | else-has_bit w ↦
          subst (λ (x : Gripped). IsGripOf c.args.words.now x × HaveWords kind group c.args.mask piece (j + 1) old x.view) (sym w.grip-is)
          (c.loop-j.invariant.0, item_none kind group c.args.mask piece j old new c.loop-j.invariant.1 (sym c.has_bit.ensures ∙ w.if-has_bit.false))
    ]
