use Rattle.std.proofs.Common.{[], ◌∷◌}
use Rattle.bao_check.proofs.Differences.{or_both, xor_same}
use Rattle.bao_check.proofs.text_lanes.differences.Goals as goal

pub returns : goal.returns
returns c = λ j h none.
    let halves = or_both _ _ _ (c.or-3.ensures j h) none in
    let near = or_both _ _ _ (c.or.ensures j h) halves.0 in
    let far = or_both _ _ _ (c.or-2.ensures j h) halves.1 in
    let d0 = or_both _ _ _ (c.or-d0.ensures j h) near.0 in
    let d1 = or_both _ _ _ (c.or-d1.ensures j h) near.1 in
    let d2 = or_both _ _ _ (c.or-d2.ensures j h) far.0 in
    let d3 = or_both _ _ _ (c.or-d3.ensures j h) far.1 in
    let e0 = xor_same _ _ _ (c.xor.ensures j h) d0.0 in
    let e1 = xor_same _ _ _ (c.xor-2.ensures j h) d0.1 in
    let e2 = xor_same _ _ _ (c.xor-3.ensures j h) d1.0 in
    let e3 = xor_same _ _ _ (c.xor-4.ensures j h) d1.1 in
    let e4 = xor_same _ _ _ (c.xor-5.ensures j h) d2.0 in
    let e5 = xor_same _ _ _ (c.xor-6.ensures j h) d2.1 in
    let e6 = xor_same _ _ _ (c.xor-7.ensures j h) d3.0 in
    let e7 = xor_same _ _ _ (c.xor-8.ensures j h) d3.1 in
    λ i. e0 i ∷ e1 i ∷ e2 i ∷ e3 i ∷ e4 i ∷ e5 i ∷ e6 i ∷ e7 i ∷ []
