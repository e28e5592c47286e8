use Rattle.std.proofs.Common.{◌≡◌, ◌+◌, ap, ◌∙◌, arith}
use Rattle.b3word.specs.Compression.{cv}
use Rattle.b3tree.specs.Pieces.{before_block}
use Rattle.b3tree.proofs.Pieces.{value_next}
use Rattle.b3tree.proofs.few.two_before.Goals as goal

pub next_block-init : goal.next_block-init
next_block-init c = (λ start. start, λ start. start)

pub next_block-preserved : goal.next_block-preserved
next_block-preserved c = (
  λ start.
      c.cv_pair-both.ensures.first
      ∙ ap cv c.full_block_input-of_left.ensures
      ∙ value_next c.args.mode.now c.args.first c.args.left.now c.next_block.k c.next_block.both.0 (c.next_block.invariant.0 start),
  λ start.
      c.cv_pair-both.ensures.second
      ∙ ap cv c.block_input-of_right.ensures
      ∙ value_next c.args.mode.now (c.args.first + 1) c.args.right.now c.next_block.k c.next_block.both.1 (c.next_block.invariant.1 start),
)

pub returns-clause-left : goal.returns-clause-left
returns-clause-left c = λ start.
    let done : c.next_block.k ≡ c.args.to = omega arith in
    c.next_block.invariant.0 start ∙ ap (before_block c.args.mode.now c.args.first c.args.left.now) done

pub returns-clause-right : goal.returns-clause-right
returns-clause-right c = λ start.
    let done : c.next_block.k ≡ c.args.to = omega arith in
    c.next_block.invariant.1 start ∙ ap (before_block c.args.mode.now (c.args.first + 1) c.args.right.now) done
