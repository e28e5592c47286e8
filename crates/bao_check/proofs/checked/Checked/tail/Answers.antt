use Rattle.std.proofs.Common.{rules, ◌≡◌, ◌≤◌, ◌<◌, ◌-◌, ℕ, ◌↔◌, IsSome, ap, ◌∙◌, sym, subst, arith}
use Rattle.bao_text.specs.Choice.{chunk_count}
use Rattle.bao_check.specs.declared.checked.Checked.{Checked}
use Rattle.bao_check.specs.Checked.{HoldsLast, piece_claimed, piece_places, piece_text}
use Rattle.bao_check.specs.Pieces.{chunk_in}
use Rattle.bao_check.proofs.Tails.{last_certificate}
use Rattle.bao_check.proofs.checked.Checked.tail.Goals as goal
use Rattle.bao_check.proofs.checked.Checked.tail.Goals.{else-first-last-via-then-first-last+else-last-after, else-first-last-via-else-first-last}

-- the last chunk's number
last_is : (total claimed count : ℕ) → claimed ≡ total → count ≡ chunk_count claimed → count - 1 ≡ chunk_count total - 1
last_is total claimed count e is = ap (λ (n : ℕ). n - 1) is ∙ ap (λ (n : ℕ). chunk_count n - 1) e

-- the piece holds it where it is between
holds_last : (piece : Checked) (last first after : ℕ) → last ≡ chunk_count (piece_claimed piece) - 1
    → ((i : ℕ) → IsSome (chunk_in (piece_text piece) (piece_places piece) i) ↔ ((first ≤ i) × (i < after))) → first ≤ last → last < after → HoldsLast piece
holds_last piece last first after is spans from below =
    subst (λ (i : ℕ). IsSome (chunk_in (piece_text piece) (piece_places piece) i)) is ((spans last).1 (from, below))

pub invariant_of-result : goal.invariant_of-result
invariant_of-result c = search (rules, arith, last_is, holds_last)

pub returns-then-last-after-clause-certificate : goal.returns-then-last-after-clause-certificate
returns-then-last-after-clause-certificate c = grind (arith, last_is, last_certificate, holds_last)

pub returns-else-first-last-clause-there : goal.returns-else-first-last-clause-there
returns-else-first-last-clause-there c =
    let total : ℕ = piece_claimed c.args.self.now in
    let last : c.chunk_count-last.result - 1 ≡ chunk_count total - 1 = last_is total c.claimed.result c.chunk_count-last.result c.claimed.ensures c.chunk_count-last.ensures in (
      λ h. cc,
      λ there.
          let within = (c.chunks-first.ensures.spans (c.chunk_count-last.result - 1)).0 (subst (λ (i : ℕ). IsSome (chunk_in (piece_text c.args.self.now) (piece_places c.args.self.now) i)) (sym last) there) in
          elim c.else-first-last.branch [
            | else-first-last-via-then-first-last+else-last-after w ↦ absurd (omega (arith, within.1, w.if-last-after.false))
            | else-first-last-via-else-first-last w ↦ absurd (omega (arith, within.0, w.if-first-last.false))
          ],
    )
