use Rattle.std.proofs.Common.{◌≡◌, ◌∙◌, ℕ, ◌*◌, List, ap, arith, inl, inr, subst}
use Rattle.bao_check.specs.Bare.{bare_part}
use Rattle.bao_check.specs.Beside.{beside_text}
use Rattle.bao_check.specs.Outline.{outline_mode, outline_root, outline_text}
use Rattle.holders.specs.declared.fixed.Fixed.{Fixed}
use Rattle.holders.specs.declared.piece.Piece.{Piece}
use Rattle.holders.specs.Pieces.{piece_of}
use Rattle.store_shared.specs.Seats.{fixed_of}
use Rattle.berylwool.specs.Outlines.{bare_piece, outlined_text}
use Rattle.berylwool.specs.Storing.{IsOfOther, StoresAll}
use Rattle.berylwool.proofs.Texts.{piece_is}
use Rattle.berylwool.proofs.storing.stored_bare.Goals as goal

pub returns-in-Ok-clause-stores : goal.returns-in-Ok-clause-stores
returns-in-Ok-clause-stores c = λ ok.
    let fixed : Fixed = fixed_of c.args.store.now in
    let start : ℕ = 1024 * c.args.first in
    let outline = c.outline-outline.result in
    let chunks : List ℕ = c.args.chunks.now in
    let is : piece_of fixed.base c.in-Ok.piece ≡ bare_piece fixed.base (outlined_text c.args.it.now) c.args.first c.args.count chunks =
    piece_is fixed.base c.in-Ok.piece (outline_mode outline) (outline_root outline) start (bare_part c.args.count) (beside_text (outline_text outline) start (bare_part c.args.count) chunks)
    c.in-Ok.ensures.piece ∙ ap (λ (s : List ℕ). bare_piece fixed.base s c.args.first c.args.count chunks) c.outline-outline.ensures.text_is in
    subst (λ (p : Piece). StoresAll fixed p c.stored_piece.new.committed c.stored_piece.new.parents c.args.seat.now.view c.stored_piece.new.seat.view) is (c.stored_piece.ensures.stores ok)

pub returns-in-Ok-clause-other_length : goal.returns-in-Ok-clause-other_length
returns-in-Ok-clause-other_length c = λ other.
    let fixed : Fixed = fixed_of c.args.store.now in
    let start : ℕ = 1024 * c.args.first in
    let outline = c.outline-outline.result in
    let chunks : List ℕ = c.args.chunks.now in
    let is : piece_of fixed.base c.in-Ok.piece ≡ bare_piece fixed.base (outlined_text c.args.it.now) c.args.first c.args.count chunks =
    piece_is fixed.base c.in-Ok.piece (outline_mode outline) (outline_root outline) start (bare_part c.args.count) (beside_text (outline_text outline) start (bare_part c.args.count) chunks)
    c.in-Ok.ensures.piece ∙ ap (λ (s : List ℕ). bare_piece fixed.base s c.args.first c.args.count chunks) c.outline-outline.ensures.text_is in
    subst (λ (p : Piece). IsOfOther p c.args.seat.now.view c.stored_piece.new.seat.view) is (c.stored_piece.ensures.other_length other)

pub returns-in-Err-clause-accepted : goal.returns-in-Err-clause-accepted
returns-in-Err-clause-accepted c = λ way.
    absurd (elim way [
      | inl zero ↦ omega (arith, zero, c.told.ensures.from)
      | inr other ↦ omega (arith, other, c.told.ensures.to)
    ])
