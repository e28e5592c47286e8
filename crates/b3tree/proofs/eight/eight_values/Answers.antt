use Rattle.std.proofs.Common.{◌≡◌, ◌+◌, ◌*◌, ◌<◌, [], sym, ap, ◌∙◌, arith}
use Rattle.std.proofs.lemmas.Option.{get_or_from_slice_get, slice_get_within}
use Rattle.b3word.specs.Compression.{cv}
use Rattle.b3word.proofs.EightLanes.{mapped-at}
use Rattle.b3tree.specs.declared.values.Cv.{Cv}
use Rattle.b3tree.specs.Chunk.{last_chunk_input}
use Rattle.b3tree.specs.Pieces.{piece}
use Rattle.b3tree.proofs.eight.eight_values.Goals as goal

pub returns-clause-each : goal.returns-clause-each
returns-clause-each c = λ j value is.
    let within : j < 8 = omega (arith, slice_get_within c.map.result j value is, c.map.ensures.items.long) in
    let number : c.args.first + 1 * j ≡ c.args.first + j = omega arith in
    let place : 0 + 1024 * 1 * j ≡ 1024 * j = omega arith in
    sym (ap (λ (x : Cv). x.0) (get_or_from_slice_get c.map.result j value value is))
    ∙ mapped-at _ _ (λ x y. y.0 ≡ x) c.transposed-rows.result c.map.result [] value c.map.ensures.items (λ p x y q k. k.met) j within
    ∙ c.transposed-rows.ensures.vectors j within ∙ c.chunk_lanes.ensures j within
    ∙ (λ i. cv (last_chunk_input c.args.mode.now (number i) (piece c.args.bytes.now (place i) 1024)))
