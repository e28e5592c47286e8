use Rattle.std.proofs.Common.{◌≡◌, ℕ, ◌+◌, ◌-◌, ◌*◌, ◌<◌, List, take, drop, ap, ◌∙◌, arith}
use Rattle.std.proofs.lemmas.Option.{slice_get_within}
use Rattle.b3word.specs.Compression.{cv}
use Rattle.b3tree.specs.Chunk.{last_chunk_input}
use Rattle.b3tree.specs.Pieces.{piece}
use Rattle.b3tree.proofs.Pieces.{piece-piece}
use Rattle.bao_check.specs.Bare.{bare_at}
use Rattle.bao_check.specs.declared.bare.Bare.{Bare}
use Rattle.bao_check.proofs.bare.Bare.eight.Goals as goal

pub returns : goal.returns
returns c =
    let bare : Bare = c.args.self.now in
    let number : ℕ = c.args.number in
    let at : ℕ = bare_at bare.first number in
    let chunks : List ℕ = bare.chunks.now in
    record {
      there = omega (arith, c.if-at-len.false, c.if-len-at.false);
      from = c.if-number-self.false;
      values = λ j value is.
          let below : j < 8 = omega (arith, slice_get_within c.eight_values.result j value is, c.eight_values.ensures.count) in
          let len : at + 8192 - at ≡ 8192 = omega arith in
          let place : at + 1024 * j ≡ bare_at bare.first (number + j) = omega (arith, c.if-number-self.false) in
          c.eight_values.ensures.each j value is
          ∙ (λ i. cv (last_chunk_input bare.mode (number + j) (piece (take (len i) (drop at chunks)) (1024 * j) 1024)))
          ∙ ap (λ (s : List ℕ). cv (last_chunk_input bare.mode (number + j) s)) (piece-piece chunks at 8192 (1024 * j) 1024 (omega arith))
          ∙ (λ i. cv (last_chunk_input bare.mode (number + j) (take 1024 (drop (place i) chunks))));
    }
