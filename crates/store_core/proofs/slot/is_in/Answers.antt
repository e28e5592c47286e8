use Rattle.std.proofs.lemmas.Bool.Decides.{nat_tests}
use Rattle.std.proofs.Common.{◌≡◌, ◌≤◌, ◌<◌, ◌+◌, ℕ, List, Option, IsSome, is_some, false, min, nat_lt, ◌∙◌, arith}
use Rattle.std.proofs.lemmas.Bool.{lt-leb}
use Rattle.holders.specs.Pieces.{chunk_bytes, piece_of}
use Rattle.store_core.proofs.slot.is_in.Goals as goal

-- a number that doesn't fit in 64 bits is after all chunks, and so is the greatest that does
before : (o : Option (List ℕ)) (first after n k : ℕ) → (IsSome o → (first ≤ n) × (n < after)) → k ≡ min n 18446744073709551615 → after < 18446744073709551616
    → k < first → false ≡ is_some o
before o first after n k spans is few early = grind (arith, nat_tests)

-- from the first on, those before the end
within : (o : Option (List ℕ)) (first after n k : ℕ) → (IsSome o → (first ≤ n) × (n < after)) → ((first ≤ n) × (n < after) → IsSome o)
    → k ≡ min n 18446744073709551615 → after < 18446744073709551616 → first ≤ k → nat_lt k after ≡ is_some o
within o first after n k has is number few low = grind (arith, nat_tests)

pub returns-then-first-number : goal.returns-then-first-number
returns-then-first-number c =
    let n : ℕ = c.args.base + c.args.chunk in
    let spans = c.chunks-first.ensures.spans n in
    within (chunk_bytes (piece_of c.args.base c.args.piece.now) c.args.chunk) c.chunks-first.result.0 c.chunks-first.result.1 n c.saturating_add-number.result spans.0 spans.1
    (omega (arith, c.saturating_add-number.ensures)) (omega arith) c.if-first-number.true

pub returns-else-first-number : goal.returns-else-first-number
returns-else-first-number c =
    let n : ℕ = c.args.base + c.args.chunk in
    let spans = c.chunks-first.ensures.spans n in
    lt-leb c.chunks-first.result.0 c.saturating_add-number.result (omega (arith, c.if-first-number.false))
    ∙ before (chunk_bytes (piece_of c.args.base c.args.piece.now) c.args.chunk) c.chunks-first.result.0 c.chunks-first.result.1 n c.saturating_add-number.result spans.0
    (omega (arith, c.saturating_add-number.ensures)) (omega arith) (omega (arith, c.if-first-number.false))
