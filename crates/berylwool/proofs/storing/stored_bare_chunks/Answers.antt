use Rattle.std.proofs.Common.{◌≡◌, ◌∙◌, ℕ, ◌*◌, List, ap, subst}
use Rattle.bao_check.specs.Bare.{bare_part}
use Rattle.bao_check.specs.Beside.{beside_text}
use Rattle.bao_check.specs.Outline.{outline_mode, outline_root, outline_text}
use Rattle.holders.specs.declared.fixed.Fixed.{Fixed}
use Rattle.holders.specs.declared.piece.Piece.{Piece}
use Rattle.holders.specs.Pieces.{piece_of}
use Rattle.holders.specs.Room.{groups}
use Rattle.store_shared.specs.Seats.{fixed_of}
use Rattle.berylwool.specs.Outlines.{bare_piece, outlined_text}
use Rattle.berylwool.specs.Storing.{CommitsGroup, EachGroup}
use Rattle.berylwool.proofs.Texts.{piece_is}
use Rattle.berylwool.proofs.storing.stored_bare_chunks.Goals as goal

pub returns-clause-commits : goal.returns-clause-commits
returns-clause-commits c = λ _.
    let fixed : Fixed = fixed_of c.args.store.now in
    let start : ℕ = 1024 * c.args.first in
    let outline = c.outline-outline.result in
    let chunks : List ℕ = c.args.chunks.now in
    let is : piece_of fixed.base c.in-Ok.piece ≡ bare_piece fixed.base (outlined_text c.args.it.now) c.args.first c.args.count chunks =
    piece_is fixed.base c.in-Ok.piece (outline_mode outline) (outline_root outline) start (bare_part c.args.count) (beside_text (outline_text outline) start (bare_part c.args.count) chunks)
    c.in-Ok.ensures.piece ∙ ap (λ (s : List ℕ). bare_piece fixed.base s c.args.first c.args.count chunks) c.outline-outline.ensures.text_is in
    subst (λ (p : Piece). EachGroup (CommitsGroup fixed p) (groups fixed) c.commit_groups.result c.args.seat.now.view c.commit_groups.new.seat.view) is c.commit_groups.ensures.commits
