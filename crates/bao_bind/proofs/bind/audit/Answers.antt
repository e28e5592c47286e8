use Rattle.std.proofs.Common.{◌≡◌, None, Some, Option, sym, subst, ◌∙◌, arith}
use Rattle.std.proofs.lemmas.Slice.Eq.{bytes_eq-Decides}
use Rattle.std.specs.Prelude.{IfSome}
use Rattle.bao_check.specs.Checked.{piece_claimed, piece_places, piece_text}
use Rattle.bao_check.specs.Pieces.{chunk_in}
use Rattle.bao_bind.specs.declared.chunk_run.ChunkRun.{ChunkRun}
use Rattle.bao_bind.specs.Verdict.{IsOurs}
use Rattle.bao_bind.proofs.Audits.{audit_finds, chunk_range, chunk_size, disagrees}
use Rattle.bao_bind.proofs.CollidingPairs.{not_false}
use Rattle.bao_bind.proofs.bind.audit.Goals as goal

-- the chunk that isn't the blob's
told_some : (P : ChunkRun → Type 0) (found : Option ChunkRun) (chunk : ChunkRun) → found ≡ Some chunk → IfSome found P → P chunk
told_some P found chunk is told = subst (λ (o : Option ChunkRun). IfSome o P) is told

pub walk-requires-clause-chunk_range : goal.walk-requires-clause-chunk_range
walk-requires-clause-chunk_range c =
    let claimed_is : c.claimed.result ≡ piece_claimed c.args.piece.now = c.claimed.ensures in
    let there = told_some (λ chunk. chunk_in (piece_text c.args.piece.now) (piece_places c.args.piece.now) chunk.first ≡ Some chunk.bytes.now)
    c.hash_and_compare.result.1 c.in-Some.chunk c.in-Some.is c.hash_and_compare.ensures.there in
    chunk_range c.args.blob.now c.args.piece.now c.in-Some.chunk.first c.in-Some.chunk.bytes.now there (omega (arith, claimed_is, c.claimed.type_inv))

pub walk-requires-clause-chunk_len : goal.walk-requires-clause-chunk_len
walk-requires-clause-chunk_len c =
    let there = told_some (λ chunk. chunk_in (piece_text c.args.piece.now) (piece_places c.args.piece.now) chunk.first ≡ Some chunk.bytes.now)
    c.hash_and_compare.result.1 c.in-Some.chunk c.in-Some.is c.hash_and_compare.ensures.there in
    chunk_size c.args.blob.now c.args.piece.now c.in-Some.chunk.first c.in-Some.chunk.bytes.now there

pub unreachable-requires : goal.unreachable-requires
unreachable-requires c =
    let piece = c.args.piece.now in
    let found = c.hash_and_compare.result.1 in
    let there = told_some (λ chunk. chunk_in (piece_text piece) (piece_places piece) chunk.first ≡ Some chunk.bytes.now) found c.in-Some.chunk c.in-Some.is c.hash_and_compare.ensures.there in
    let apart = told_some (λ chunk. IsOurs c.args.blob.now (piece_claimed piece) chunk.first chunk.bytes.now → ⊥) found c.in-Some.chunk c.in-Some.is c.hash_and_compare.ensures.apart in
    let root : c.hash_and_compare.result.0.0 ≡ c.root.result.0 = (bytes_eq-Decides _ _).0 (not_false _ (sym c.ne.ensures ∙ c.if-ne.false)) in
    audit_finds c.args.blob.now piece c.in-Some.chunk.first c.in-Some.chunk.bytes.now there None c.mode-mode.result c.claimed.result
    c.mode-mode.ensures c.claimed.ensures c.is_keyed.ensures (sym c.hash_and_compare.ensures.hash ∙ root ∙ c.root.ensures) apart c.in-None.ensures

pub returns-clause-says : goal.returns-clause-says
returns-clause-says c =
    let piece = c.args.piece.now in
    let found = c.hash_and_compare.result.1 in
    let there = told_some (λ chunk. chunk_in (piece_text piece) (piece_places piece) chunk.first ≡ Some chunk.bytes.now) found c.in-Some.chunk c.in-Some.is c.hash_and_compare.ensures.there in
    let apart = told_some (λ chunk. IsOurs c.args.blob.now (piece_claimed piece) chunk.first chunk.bytes.now → ⊥) found c.in-Some.chunk c.in-Some.is c.hash_and_compare.ensures.apart in
    let root : c.hash_and_compare.result.0.0 ≡ c.root.result.0 = (bytes_eq-Decides _ _).0 (not_false _ (sym c.ne.ensures ∙ c.if-ne.false)) in (
      disagrees c.args.blob.now piece c.in-Some.chunk.first c.in-Some.chunk.bytes.now there apart,
      audit_finds c.args.blob.now piece c.in-Some.chunk.first c.in-Some.chunk.bytes.now there (Some c.in-Some-walk.pair) c.mode-mode.result c.claimed.result
          c.mode-mode.ensures c.claimed.ensures c.is_keyed.ensures (sym c.hash_and_compare.ensures.hash ∙ root ∙ c.root.ensures) apart c.in-Some-walk.ensures,
    )
