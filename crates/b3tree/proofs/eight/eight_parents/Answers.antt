use Rattle.std.proofs.Common.{◌≡◌, ◌<◌, ℕ, ◌+◌, ◌*◌, List, refl, ◌∙◌, ap, arith}
use Rattle.b3word.specs.Lanes.{lane8}
use Rattle.b3tree.specs.declared.mode.Mode.{Mode}
use Rattle.b3tree.specs.Parents.{paired_values, value_at}
use Rattle.b3tree.specs.Pieces.{piece}
use Rattle.b3tree.specs.Tree.{subtree_cv}
use Rattle.b3tree.proofs.Pieces.{paired}
use Rattle.b3tree.proofs.eight.eight_parents.Goals as goal

pub returns : goal.returns
returns c =
    let mode : Mode = c.args.mode.now in
    let first : ℕ = c.args.first in
    let s : List ℕ = c.args.bytes.now in
    let x : ℕ → List ℕ = λ j. lane8 j c.subtree_lanes-values.result in
    let v : (j : ℕ) → j < 8 → x j ≡ value_at mode first s 1 j =
    λ j h. let number : first + 1 * j ≡ first + j = omega arith in
    let at : 0 + 1024 * j ≡ 1024 * j = omega arith in
    c.subtree_lanes-values.ensures j (0, refl) h ∙ (λ i. subtree_cv mode (number i) (piece s (at i) 1024)) in
    let pair : (j : ℕ) → j < 4 → paired_values mode x j ≡ value_at mode first s 2 (2 * j) =
    λ j h. paired mode first s (x (2 * j)) (x (2 * j + 1)) 1 (2 * j) (2 * j + 1) 2
    (0, refl) (omega arith) (omega arith) refl (v (2 * j) (omega arith)) (v (2 * j + 1) (omega arith)) in
    let half : (j : ℕ) → j < 2 → paired_values mode (paired_values mode x) j ≡ value_at mode first s 4 (4 * j) =
    λ j h. let number : 2 * (2 * j) ≡ 4 * j = omega arith in
    paired mode first s (paired_values mode x (2 * j)) (paired_values mode x (2 * j + 1)) 2 (2 * (2 * j)) (2 * (2 * j + 1)) 4
    (1, refl) (omega arith) (omega arith) refl (pair (2 * j) (omega arith)) (pair (2 * j + 1) (omega arith))
    ∙ ap (value_at mode first s 4) number in
    c.lane_parents.ensures
    ∙ (λ i. record {
      top = record { left = record { 0 = half 0 (omega arith) i }; right = record { 0 = half 1 (omega arith) i } };
      left = record {
        top = record { left = record { 0 = pair 0 (omega arith) i }; right = record { 0 = pair 1 (omega arith) i } };
        left = record { left = record { 0 = v 0 (omega arith) i }; right = record { 0 = v 1 (omega arith) i } };
        right = record { left = record { 0 = v 2 (omega arith) i }; right = record { 0 = v 3 (omega arith) i } };
      };
      right = record {
        top = record { left = record { 0 = pair 2 (omega arith) i }; right = record { 0 = pair 3 (omega arith) i } };
        left = record { left = record { 0 = v 4 (omega arith) i }; right = record { 0 = v 5 (omega arith) i } };
        right = record { left = record { 0 = v 6 (omega arith) i }; right = record { 0 = v 7 (omega arith) i } };
      };
    })
