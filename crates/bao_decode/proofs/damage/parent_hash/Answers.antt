use Rattle.std.proofs.Common.{◌∙◌, ap, arith, length-take}
use Rattle.b3tree.specs.Hashing.{root_hash, rooted}
use Rattle.b3tree.specs.Tree.{parent_input}
use Rattle.bao_decode.specs.Damage.{parent_hash}
use Rattle.bao_decode.proofs.damage.parent_hash.Goals as goal

pub slice_bounds-from_bytes-end : goal.slice_bounds-from_bytes-end
slice_bounds-from_bytes-end c = omega (arith, c.requires, length-take 32 c.args.parent.now)

pub returns : goal.returns
unfolding parent_hash
returns c =
    c.root_hash.ensures
    ∙ ap root_hash (c.rooted.ensures ∙ ap rooted (c.parent_input.ensures ∙ (λ i. parent_input c.args.mode.now (c.from_bytes-left.ensures i) (c.from_bytes-right.ensures i))))
