use Rattle.std.proofs.Common.{◌≡◌, ◌≤◌, ℕ, ◌+◌, ◌-◌, ◌*◌, ◌/◌, List, length, false, refl, sym, subst, ◌∙◌, arith}
use Rattle.std.specs.Int.{IsPowerOfTwo}
use Rattle.std.proofs.lemmas.Bool.{false≢true}
use Rattle.b3word.specs.Lanes.{lane8}
use Rattle.b3tree.specs.declared.mode.Mode.{Mode}
use Rattle.b3tree.specs.Bytes.{words_of}
use Rattle.b3tree.specs.Pieces.{lane_place, piece}
use Rattle.b3tree.proofs.Pieces.{IsPowerOfTwo_double, IsPowerOfTwo_half, lane_fits}
use Rattle.bao_check.specs.Whole.{IsWholeOf, whole_len}
use Rattle.bao_check.proofs.WholeGood.{joined_of, left_words, no_chunk_whole, right_words}
use Rattle.bao_check.proofs.text_lanes.+outline_lanes.Goals as goal
use Rattle.bao_check.proofs.text_lanes.+outline_lanes.Goals.{then-not-says, else-not-says}

pub returns-then-pairs-eq1-clause-whole : goal.returns-then-pairs-eq1-clause-whole
returns-then-pairs-eq1-clause-whole t c = λ same j number power h.
    let mode : Mode = c.args.mode.now in
    let text : List ℕ = c.args.text.now in
    let at : ℕ = lane_place c.args.at c.args.step j in
    let one : c.args.pairs ≡ 1 = omega arith in
    let fits : at + 64 ≤ length text = lane_fits c.args.at c.args.step j 64 (length text) (omega arith) (omega (arith, c.requires.len)) in
    let v : List ℕ = lane8 j c.told_lanes.result in
    let lv : List ℕ = words_of 8 (piece text at 32) in
    let rv : List ℕ = words_of 8 (piece text (at + 32) 32) in
    subst (λ (n : ℕ). IsWholeOf false mode number (n + n) v (piece text at (whole_len false (n + n)))) (sym one)
    (joined_of false mode text number 1 at (at + 64) (at + 64) (number + 1) lv rv v (0, refl) fits refl (omega arith) refl
    (left_words text at) (right_words text at) (no_chunk_whole mode number lv (piece text (at + 64) 0) refl) (no_chunk_whole mode (number + 1) rv (piece text (at + 64) 0) refl)
    (c.told_lanes.ensures j h))

pub returns-clause-whole : goal.returns-clause-whole
returns-clause-whole t c = λ same j number power h. elim c.if-not-says.branch [
  | then-not-says w ↦ absurd (false≢true (sym w.same-is ∙ same))
  | else-not-says w ↦
      let mode : Mode = c.args.mode.now in
      let text : List ℕ = c.args.text.now in
      let at : ℕ = lane_place c.args.at c.args.step j in
      let half : ℕ = c.args.pairs / 2 in
      let other : c.args.pairs ≡ 1 → ⊥ = c.if-pairs-eq1.false in
      let halved : IsPowerOfTwo half × (half + half ≡ c.args.pairs) = IsPowerOfTwo_half c.args.pairs power (omega arith) in
      let two : half + half ≡ c.args.pairs = halved.1 in
      let k : ℕ = whole_len false (c.args.pairs + c.args.pairs) in
      let fits : at + k ≤ length text = lane_fits c.args.at c.args.step j k (length text) (omega arith) (omega (arith, c.requires.len)) in
      let right_same = sym w.same-is ∙ same in
      let left_same = c.outline_lanes-right.ensures.kept right_same in
      let says = c.says.ensures w.if-not-says.false j h in
      let near : ℕ = lane_place (c.args.at + 64) c.args.step j in
      let far : ℕ = lane_place (c.args.at + 64 + (128 * half - 64)) c.args.step j in
      let v : List ℕ = lane8 j c.parent_lanes.result in
      subst (λ (n : ℕ). IsWholeOf false mode number (n + n) v (piece text at (whole_len false (n + n)))) two
      (joined_of false mode text number (half + half) at near far (number + (half + half)) (lane8 j c.outline_lanes-left.result) (lane8 j c.outline_lanes-right.result) v
      (IsPowerOfTwo_double half halved.0) (omega (arith, fits, two)) (omega arith) (omega arith) refl
      (left_words text at ∙ says.0) (right_words text at ∙ says.1)
      (c.outline_lanes-left.ensures.whole left_same j number halved.0 h) (c.outline_lanes-right.ensures.whole right_same j (number + (half + half)) halved.0 h)
      (c.parent_lanes.ensures j h))
]
