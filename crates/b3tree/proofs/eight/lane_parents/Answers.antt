use Rattle.std.proofs.Common.{◌≡◌, ◌<◌, ℕ, ◌+◌, ◌*◌, List, ◌∙◌, arith}
use Rattle.b3word.specs.Compression.{cv}
use Rattle.b3word.specs.Lanes.{lane8}
use Rattle.b3tree.specs.declared.mode.Mode.{Mode}
use Rattle.b3tree.specs.Parents.{paired_values}
use Rattle.b3tree.specs.Tree.{parent_input}
use Rattle.b3tree.proofs.eight.lane_parents.Goals as goal

pub returns : goal.returns
returns c =
    let mode : Mode = c.args.mode.now in
    let v : ℕ → List ℕ = λ j. lane8 j c.args.values.now in
    let pair : (j : ℕ) → j < 4 → lane8 j c.neighbour_lanes-pairs.result ≡ paired_values mode v j = λ j h. c.neighbour_lanes-pairs.ensures j h in
    let four : (j : ℕ) → j < 2 → lane8 j c.neighbour_lanes-fours.result ≡ paired_values mode (paired_values mode v) j =
    λ j h. c.neighbour_lanes-fours.ensures j (omega arith)
    ∙ (λ i. cv (parent_input mode (pair (2 * j) (omega arith) i) (pair (2 * j + 1) (omega arith) i))) in
    let c0 = c.transposed.ensures.vectors 0 (omega arith) in
    let c1 = c.transposed.ensures.vectors 1 (omega arith) in
    let c2 = c.transposed.ensures.vectors 2 (omega arith) in
    let c3 = c.transposed.ensures.vectors 3 (omega arith) in
    let c4 = c.transposed.ensures.vectors 4 (omega arith) in
    let c5 = c.transposed.ensures.vectors 5 (omega arith) in
    let c6 = c.transposed.ensures.vectors 6 (omega arith) in
    let c7 = c.transposed.ensures.vectors 7 (omega arith) in
    let p0 = c.transposed-2.ensures.vectors 0 (omega arith) ∙ pair 0 (omega arith) in
    let p1 = c.transposed-2.ensures.vectors 1 (omega arith) ∙ pair 1 (omega arith) in
    let p2 = c.transposed-2.ensures.vectors 2 (omega arith) ∙ pair 2 (omega arith) in
    let p3 = c.transposed-2.ensures.vectors 3 (omega arith) ∙ pair 3 (omega arith) in
    let q0 = c.transposed-3.ensures.vectors 0 (omega arith) ∙ four 0 (omega arith) in
    let q1 = c.transposed-3.ensures.vectors 1 (omega arith) ∙ four 1 (omega arith) in
    (λ i. record {
      top = c.parent_of.ensures i;
      left = record { top = c.parent_of-2.ensures i; left = c.parent_of-3.ensures i; right = c.parent_of-4.ensures i };
      right = record { top = c.parent_of-5.ensures i; left = c.parent_of-6.ensures i; right = c.parent_of-7.ensures i };
    })
    ∙ (λ i. record {
      top = record { left = record { 0 = q0 i }; right = record { 0 = q1 i } };
      left = record {
        top = record { left = record { 0 = p0 i }; right = record { 0 = p1 i } };
        left = record { left = record { 0 = c0 i }; right = record { 0 = c1 i } };
        right = record { left = record { 0 = c2 i }; right = record { 0 = c3 i } };
      };
      right = record {
        top = record { left = record { 0 = p2 i }; right = record { 0 = p3 i } };
        left = record { left = record { 0 = c4 i }; right = record { 0 = c5 i } };
        right = record { left = record { 0 = c6 i }; right = record { 0 = c7 i } };
      };
    })
