use Rattle.std.proofs.Common.{◌≡◌, ◌≤◌, ℕ, ◌+◌, ◌-◌, ◌*◌, ◌/◌, List, length, true, sym, subst, ◌∙◌, arith}
use Rattle.std.specs.Int.{IsPowerOfTwo}
use Rattle.std.proofs.lemmas.Bool.{false≢true}
use Rattle.b3word.specs.Lanes.{lane8}
use Rattle.b3tree.specs.declared.mode.Mode.{Mode}
use Rattle.b3tree.specs.Chunk.{last_chunk_input}
use Rattle.b3tree.specs.Pieces.{lane_place, piece}
use Rattle.b3tree.proofs.Pieces.{IsPowerOfTwo_half, lane_fits, length-piece}
use Rattle.bao_check.specs.Whole.{IsWholeOf, whole_len}
use Rattle.bao_check.proofs.WholeGood.{chunk_whole, joined_of, left_words, of_text, right_words}
use Rattle.bao_check.proofs.text_lanes.+text_lanes.Goals as goal
use Rattle.bao_check.proofs.text_lanes.+text_lanes.Goals.{then-not-says, else-not-says}

pub returns-then-chunks-eq1-clause-whole : goal.returns-then-chunks-eq1-clause-whole
returns-then-chunks-eq1-clause-whole t c = λ same j power h.
    let mode : Mode = c.args.mode.now in
    let number : ℕ = c.args.first + c.args.apart * j in
    let text : List ℕ = c.args.text.now in
    let at : ℕ = lane_place c.args.at c.args.step j in
    let one : c.args.chunks ≡ 1 = omega arith in
    let fits : at + 1024 ≤ length text = lane_fits c.args.at c.args.step j 1024 (length text) (omega arith) (omega (arith, c.requires.len)) in
    let s : List ℕ = piece text at 1024 in
    let v : List ℕ = lane8 j c.spaced_chunks.result in
    subst (λ (n : ℕ). IsWholeOf true mode number n v (piece text at (whole_len true n))) (sym one)
    (of_text true mode number 1 (last_chunk_input mode number s) v s (c.spaced_chunks.ensures j h) (chunk_whole mode number s (length-piece text at 1024 fits)))

pub returns-clause-whole : goal.returns-clause-whole
returns-clause-whole t c = λ same j power h. elim c.if-not-says.branch [
  | then-not-says w ↦ absurd (false≢true (sym w.same-is ∙ same))
  | else-not-says w ↦
      let mode : Mode = c.args.mode.now in
      let number : ℕ = c.args.first + c.args.apart * j in
      let text : List ℕ = c.args.text.now in
      let at : ℕ = lane_place c.args.at c.args.step j in
      let half : ℕ = c.args.chunks / 2 in
      let other : c.args.chunks ≡ 1 → ⊥ = c.if-chunks-eq1.false in
      let halved : IsPowerOfTwo half × (half + half ≡ c.args.chunks) = IsPowerOfTwo_half c.args.chunks power (omega arith) in
      let two : half + half ≡ c.args.chunks = halved.1 in
      let fits : at + whole_len true c.args.chunks ≤ length text =
      lane_fits c.args.at c.args.step j (whole_len true c.args.chunks) (length text) (omega arith) (omega (arith, c.requires.len)) in
      let right_same = sym w.same-is ∙ same in
      let left_same = c.text_lanes-right.ensures.kept right_same in
      let says = c.says.ensures w.if-not-says.false j h in
      let near : ℕ = lane_place (c.args.at + 64) c.args.step j in
      let far : ℕ = lane_place (c.args.at + 64 + (1088 * half - 64)) c.args.step j in
      let v : List ℕ = lane8 j c.parent_lanes.result in
      subst (λ (n : ℕ). IsWholeOf true mode number n v (piece text at (whole_len true n))) two
      (joined_of true mode text number half at near far (c.args.first + half + c.args.apart * j) (lane8 j c.text_lanes-left.result) (lane8 j c.text_lanes-right.result) v
      halved.0 (omega (arith, fits, two)) (omega arith) (omega arith) (omega arith)
      (left_words text at ∙ says.0) (right_words text at ∙ says.1)
      (c.text_lanes-left.ensures.whole left_same j halved.0 h) (c.text_lanes-right.ensures.whole right_same j halved.0 h)
      (c.parent_lanes.ensures j h))
]
