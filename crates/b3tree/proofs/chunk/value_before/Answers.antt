use Rattle.std.proofs.Common.{◌≡◌, ap, ◌∙◌, arith}
use Rattle.b3word.specs.Compression.{cv}
use Rattle.b3tree.specs.Pieces.{before_block}
use Rattle.b3tree.proofs.Pieces.{value_next}
use Rattle.b3tree.proofs.chunk.value_before.Goals as goal

pub earlier-init : goal.earlier-init
earlier-init c = λ start. start

pub earlier-preserved : goal.earlier-preserved
earlier-preserved c = λ start.
    c.chaining_value-value.ensures
    ∙ ap cv c.block_input.ensures
    ∙ value_next c.args.mode.now c.args.i c.args.chunk.now c.earlier.j c.earlier.value (c.earlier.invariant start)

pub returns : goal.returns
returns c = λ start.
    let done : c.earlier.j ≡ c.args.to = omega arith in
    c.earlier.invariant start ∙ ap (before_block c.args.mode.now c.args.i c.args.chunk.now) done
