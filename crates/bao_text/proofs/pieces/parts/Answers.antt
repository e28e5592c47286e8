use Rattle.std.proofs.Common.{◌-◌, length, arith}
use Rattle.bao_text.proofs.PieceTexts.{HasParents-parts, left_len-half}
use Rattle.bao_text.proofs.pieces.parts.Goals as goal

pub returns-clause-half : goal.returns-clause-half
returns-clause-half c = λ k within.
    omega (arith, c.split_at.ensures.front_len, left_len-half (length c.args.subtree.bytes.now) c.left_len-left_len.result k c.left_len-left_len.ensures.largest within)

pub returns-clause-text : goal.returns-clause-text
returns-clause-text c = λ total mode first h.
    rw (c.split_at-3.ensures.front, c.split_at-3.ensures.back, c.split_at-2.ensures.front, c.split_at-2.ensures.back)
    (rw (c.split_at.ensures.front, c.split_at.ensures.back, c.left_len-left_len.ensures.value)
    (HasParents-parts total mode first c.args.subtree.parents.now c.args.subtree.bytes.now h c.requires.more))
