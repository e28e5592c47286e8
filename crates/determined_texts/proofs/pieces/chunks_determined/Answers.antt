use Rattle.std.proofs.Common.{ℕ, ◌<◌, ◌≤◌, ◌↔◌, List, Option, IsSome, sym, subst}
use Rattle.bao_check.specs.Checked.{piece_places, piece_text}
use Rattle.bao_check.specs.Pieces.{chunk_in}
use Rattle.determined_texts.proofs.Same.{same_chunk}
use Rattle.determined_texts.proofs.Spans.{one_span}
use Rattle.determined_texts.proofs.pieces.chunks_determined.Goals as goal

pub returns : goal.returns
returns c =
    let a = c.args.a.now in
    let first = c.chunks.result in
    let second = c.chunks-2.result in
    one_span (λ i. IsSome (chunk_in (piece_text a) (piece_places a) i)) first.0 first.1 second.0 second.1 c.chunks.ensures.some c.chunks-2.ensures.some c.chunks.ensures.spans
    (λ i. subst (λ (o : Option (List ℕ)). IsSome o ↔ ((second.0 ≤ i) × (i < second.1))) (sym (same_chunk a c.args.b.now c.requires i)) (c.chunks-2.ensures.spans i))
