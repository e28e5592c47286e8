use Rattle.std.proofs.Common.{◌≡◌, ℕ, List, ◌+◌, ◌-◌, ◌++◌, length, take, ◌∙◌, sym, ap, arith}
use Rattle.std.proofs.lemmas.Slice.{take-put_mid}
use Rattle.bao_text.specs.Nodes.{subtree_size}
use Rattle.bao_text.specs.Pieces.{whole_text}
use Rattle.bao_text.proofs.PieceTexts.{HasParts-put, whole_text-chunk}
use Rattle.bao_text.proofs.pieces.+fill.Goals as goal

pub returns-then-subtree-le-CHUNK_LEN : goal.returns-then-subtree-le-CHUNK_LEN
returns-then-subtree-le-CHUNK_LEN t c = λ total mode first h.
    let copied = c.copy_from_slice.ensures.after in
    take-put_mid c.args.at _ c.args.room.now _ (c.args.at + subtree_size (length c.args.subtree.bytes.now)) (omega (arith, ap length copied)) (omega arith)
    ∙ ap (λ (xs : List ℕ). take c.args.at c.args.room.now ++ xs) (copied ∙ sym (whole_text-chunk total mode first c.args.subtree.parents.now _ h c.if-subtree-le-CHUNK_LEN.true))

pub returns : goal.returns
returns t c = λ total mode first h.
    let left : ℕ = length c.parts.result.1.bytes.now in
    let right : ℕ = length c.parts.result.2.bytes.now in
    let begin : ℕ = c.args.at + 64 + length c.parts.result.1.parents.now + left in
    let parts = c.parts.ensures.text total mode first h in
    let right_at : begin ≡ c.args.at + 64 + subtree_size left = omega (arith, c.parts.ensures.left) in
    let all : c.args.at + subtree_size (length c.args.subtree.bytes.now) ≡ begin + subtree_size right = omega (arith, c.parts.ensures.sizes, right_at) in
    (λ i. take (all i) c.fill-2.new.room)
    ∙ c.fill-2.ensures total mode parts.right_first parts.far
    ∙ (λ i. take (right_at i) c.fill.new.room ++ whole_text total mode parts.right_first c.parts.result.2.bytes.now)
    ∙ (λ i. c.fill.ensures total mode first parts.near i ++ whole_text total mode parts.right_first c.parts.result.2.bytes.now)
    ∙ HasParts-put total mode first _ _ _ _ _ _ c.args.at c.args.room.now _ parts c.copy_from_slice-2.ensures.after c.parts.ensures.parent (omega arith)
