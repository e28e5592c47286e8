use Rattle.std.proofs.Common.{◌≡◌, ◌<◌, ℕ, ◌+◌, ◌*◌, ◌∙◌, ap, arith}
use Rattle.b3word.specs.Lanes.{lane8}
use Rattle.b3tree.specs.Pieces.{piece}
use Rattle.b3tree.specs.Tree.{parent_input, subtree_cv}
use Rattle.b3tree.specs.Parents.{value_at}
use Rattle.b3tree.proofs.Pieces.{joined_eight}
use Rattle.b3tree.proofs.lanes.whole_top.Goals as goal

pub returns : goal.returns
returns c = λ power.
    let place : (j : ℕ) → 0 + 1024 * c.args.chunks * j ≡ 1024 * (c.args.chunks * j) = λ j. omega arith in
    let values : (j : ℕ) → j < 8 → lane8 j c.subtree_lanes-eighths.result ≡ value_at c.args.mode.now c.args.first c.args.bytes.now c.args.chunks (c.args.chunks * j) =
    λ j h. c.subtree_lanes-eighths.ensures j power h
    ∙ ap (λ (p : ℕ). subtree_cv c.args.mode.now (c.args.first + c.args.chunks * j) (piece c.args.bytes.now p (1024 * c.args.chunks))) (place j) in
    c.parent_input.ensures
    ∙ (λ i. parent_input c.args.mode.now (c.transposed.ensures.vectors 0 (omega arith) i) (c.transposed.ensures.vectors 1 (omega arith) i))
    ∙ joined_eight c.args.mode.now c.args.first c.args.bytes.now c.args.chunks
    (λ j. lane8 j c.subtree_lanes-eighths.result) (λ j. lane8 j c.neighbour_lanes-quarters.result) (λ j. lane8 j c.neighbour_lanes-halves.result)
    power c.requires.len values c.neighbour_lanes-quarters.ensures c.neighbour_lanes-halves.ensures
