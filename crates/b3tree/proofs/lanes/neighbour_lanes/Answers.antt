use Rattle.std.proofs.Common.{◌≡◌, ℕ, ◌+◌, ◌*◌, List, [], ◌∷◌, slice_index, ◌∙◌, arith}
use Rattle.b3word.specs.Compression.{cv}
use Rattle.b3word.proofs.EightLanes.{mapped-at}
use Rattle.b3tree.specs.Tree.{parent_input}
use Rattle.b3tree.proofs.lanes.neighbour_lanes.Goals as goal

pub returns : goal.returns
returns c = λ j h.
    let v : List (List ℕ) = c.args.values.now in
    let e = mapped-at _ _ (λ x y. slice_index y j ≡ slice_index x (2 * j)) v c.map.result [] [] c.map.ensures.items (λ p x y q k. k.met j h) in
    let o = mapped-at _ _ (λ x y. slice_index y j ≡ slice_index x (2 * j + 1)) v c.map-2.result [] [] c.map-2.ensures.items (λ p x y q k. k.met j h) in
    c.parent_lanes.ensures j (omega arith)
    ∙ (λ i. cv (parent_input c.args.mode.now
    (e 0 (omega arith) i ∷ e 1 (omega arith) i ∷ e 2 (omega arith) i ∷ e 3 (omega arith) i ∷ e 4 (omega arith) i ∷ e 5 (omega arith) i ∷ e 6 (omega arith) i ∷ e 7 (omega arith) i ∷ [])
    (o 0 (omega arith) i ∷ o 1 (omega arith) i ∷ o 2 (omega arith) i ∷ o 3 (omega arith) i ∷ o 4 (omega arith) i ∷ o 5 (omega arith) i ∷ o 6 (omega arith) i ∷ o 7 (omega arith) i ∷ [])))
