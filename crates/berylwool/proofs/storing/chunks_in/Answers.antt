use Rattle.std.proofs.Common.{◌≡◌, ◌↔◌, ℕ, ◌+◌, ◌-◌, ◌<◌, ◌≤◌, nat_lt, IsSome, subst, arith}
use Rattle.store_shared.proofs.CommittedChunks.{span_mask}
use Rattle.store_core.specs.Masks.{IsMaskOf}
use Rattle.holders.specs.Pieces.{chunk_bytes, holds_chunk, piece_of}
use Rattle.berylwool.proofs.storing.chunks_in.Goals as goal

-- numbers between two others, counted from a base
from_base : (P : Type 0) (base first after c : ℕ) → P ↔ ((first ≤ base + c) × (base + c < after)) → P ↔ ((first - base ≤ c) × (c < after - base))
from_base P base first after c spans = (
  λ p. let w = spans.0 p in (omega (arith, w.0), omega (arith, w.1)),
  λ w. spans.1 (omega (arith, w.0), omega (arith, w.1)),
)

pub returns : goal.returns
returns c =
    let base : ℕ = c.args.base in
    let first : ℕ = c.chunks-first.result.0 - base in
    let after : ℕ = c.chunks-first.result.1 - base in
    let low : c.saturating_sub.result ≡ first = omega (arith, c.saturating_sub.ensures) in
    let high : c.saturating_sub-2.result ≡ after = omega (arith, c.saturating_sub-2.ensures) in
    span_mask c.args.group first after c.mask_below-until.result c.mask_below-before.result
    (λ k. holds_chunk (piece_of base c.args.piece.now) k)
    (λ k. from_base (IsSome (chunk_bytes (piece_of base c.args.piece.now) k)) base c.chunks-first.result.0 c.chunks-first.result.1 k (c.chunks-first.ensures.spans (base + k)))
    (subst (λ (n : ℕ). IsMaskOf c.args.group c.mask_below-until.result (λ k. nat_lt k n)) high c.mask_below-until.ensures)
    (subst (λ (n : ℕ). IsMaskOf c.args.group c.mask_below-before.result (λ k. nat_lt k n)) low c.mask_below-before.ensures)
