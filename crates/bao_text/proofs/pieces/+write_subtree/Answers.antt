use Rattle.std.proofs.Common.{◌≡◌, ℕ, List, ◌+◌, ◌-◌, ◌++◌, length, take, Err, ◌∙◌, ap, arith, rules, length-append}
use Rattle.std.proofs.lemmas.Result.{err_from_is_err_and}
use Rattle.std.proofs.lemmas.Slice.{overwrites}
use borrow.Rule.Slice.PartMut.{put_mid}
use Rattle.bao_text.specs.Nodes.{subtree_size}
use Rattle.bao_text.specs.Pieces.{whole_text}
use Rattle.bao_text.proofs.PieceTexts.{HasParts-put, length-whole_text}
use Rattle.bao_text.proofs.Writing.{Writes-first, Writes-rest}
use Rattle.bao_text.proofs.pieces.+write_subtree.Goals as goal

pub returns-in_err-write_subtree : goal.returns-in_err-write_subtree
returns-in_err-write_subtree g t c = λ total mode first h.
    let parts = c.parts.ensures.text total mode first h in
    let text = HasParts-put total mode first c.args.subtree.bytes.now _ _ _ _ _ c.args.lead c.args.room.now _ parts c.copy_from_slice.ensures.after c.parts.ensures.parent (omega arith) in
    let p = err_from_is_err_and c.from_residual.result c.from_residual.ensures.1 in
    let fault : c.from_residual.result ≡ Err c.in_err-write_subtree.field-0.0 = p.1 ∙ ap Err p.2 in
    rw (← text, fault) (Writes-first c.args.before _ _ _ _ c.in_err-write_subtree.field-0.0 (c.in_err-write_subtree.ensures total mode first parts.near))

pub returns : goal.returns
returns g t c = λ total mode first h.
    let left : List ℕ = c.parts.result.1.bytes.now in
    let parts = c.parts.ensures.text total mode first h in
    let text = HasParts-put total mode first c.args.subtree.bytes.now _ _ _ _ _ c.args.lead c.args.room.now _ parts c.copy_from_slice.ensures.after c.parts.ensures.parent (omega arith) in
    let room : List ℕ = put_mid c.args.lead (c.args.lead + 64 - c.args.lead) c.args.room.now c.copy_from_slice.new.self in
    let near : List ℕ = whole_text total mode first left in
    let near_len : length near ≡ subtree_size (length left) = length-whole_text total mode first c.parts.result.1.parents.now left parts.near in
    let front_len : length (take (c.args.lead + 64) room) ≡ c.args.lead + 64 = search (rules, overwrites) in
    let gone : c.args.before + (c.args.lead + 64 + length c.parts.result.1.parents.now + length left) ≡ c.args.before + length (take (c.args.lead + 64) room ++ near) =
    omega (arith, length-append (take (c.args.lead + 64) room) near, c.parts.ensures.left) in
    rw (← text)
    (Writes-rest c.args.before _ _ _ _ (take (c.args.lead + 64) room ++ near) _ c.write_subtree-2.result gone
    (c.in_ok-write_subtree.ensures total mode first parts.near) (c.write_subtree-2.ensures total mode parts.right_first parts.far))
