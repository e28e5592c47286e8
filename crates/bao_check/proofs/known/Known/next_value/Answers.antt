use Rattle.std.proofs.Common.{◌≡◌, List, ℕ, Some, sym, ap, ◌∙◌}
use Rattle.b3word.specs.Compression.{cv}
use Rattle.b3tree.specs.declared.values.Cv.{Cv}
use Rattle.b3tree.specs.Chunk.{last_chunk_input}
use Rattle.b3tree.specs.Pieces.{piece}
use Rattle.bao_check.specs.declared.part.WaitingPart.{WaitingPart}
use Rattle.bao_check.specs.Known.{IsValueAt}
use Rattle.bao_check.specs.Waiting.{last_part}
use Rattle.bao_check.proofs.ChunkBytes.{same_part, some_weaker}
use Rattle.bao_check.proofs.known.Known.next_value.Goals as goal

pub returns-clause-next : goal.returns-clause-next
returns-clause-next c =
    let mode = c.args.mode.now in
    let bytes : List ℕ = c.args.bytes.now in
    let last : last_part c.args.waiting.now.items ≡ Some c.in-Some.part = sym c.next_part.ensures ∙ c.in-Some.is in
    some_weaker c.value_of-2.result (λ (value : Cv). IsValueAt mode c.in-Some.part.number bytes c.args.from value.0)
    (λ (value : Cv). (part : WaitingPart) → last_part c.args.waiting.now.items ≡ Some part → part.len ≡ 1024 → value.0 ≡ cv (last_chunk_input mode part.number (piece bytes c.args.from 1024)))
    (λ value is part next one. is ∙ ap (λ (it : WaitingPart). cv (last_chunk_input mode it.number (piece bytes c.args.from 1024))) (same_part (last_part c.args.waiting.now.items) c.in-Some.part part last next))
    (c.value_of-2.ensures mode bytes c.of_next.ensures)
