use Rattle.std.proofs.Common.{◌≡◌, ℕ, ◌+◌, ◌-◌, ◌*◌, ◌^◌, Bool, if◌then◌else◌, sym, ap, ◌∙◌, arith}
use Rattle.std.specs.Bool.{then_some}
use Rattle.std.specs.Int.Count.{ones}
use Rattle.bao_text.proofs.Everything.{chunk_part}
use Rattle.bao_check.proofs.Descents.{first_of, parent_full}
use Rattle.bao_check.proofs.parent.parent_of_left.Goals as goal
use Rattle.bao_check.proofs.parent.parent_of_left.Goals.{then-has_chunks, else-has_chunks}

pub returns : goal.returns
returns c = λ sides from.
    let b : ℕ = c.args.m - c.args.number in
    let k : ℕ = first_of b in
    let part : c.if-has_chunks.bytes ≡ chunk_part c.args.choice.now (1024 * k) = elim c.if-has_chunks.branch [
      | then-has_chunks w ↦ w.bytes-is ∙ sym (ap (λ (x : Bool). if x then 1024 * k else 0) (sym c.has_chunks.ensures ∙ w.if-has_chunks.true))
      | else-has_chunks w ↦ w.bytes-is ∙ sym (ap (λ (x : Bool). if x then 1024 * k else 0) (sym c.has_chunks.ensures ∙ w.if-has_chunks.false))
    ] in
    let place : c.args.at + c.from-2.result + 64 * c.from-3.result ≡ c.args.at + chunk_part c.args.choice.now (1024 * k) + 64 * (k + ones (2 ^ c.requires.power.0 - b)) =
    omega (arith, part, c.from.ensures, c.from-2.ensures, c.from-3.ensures, ap (λ (n : ℕ). ones (n - b)) c.requires.power.1) in
    c.then_some.ensures
    ∙ (λ j. then_some (c.wants.ensures j) (place j))
    ∙ sym (parent_full c.requires.power.0 c.args.choice.now c.args.number (1024 * c.args.count) sides from c.args.at c.args.m (ap (λ (n : ℕ). 1024 * n) c.requires.power.1)
    c.requires.boundary.0 (omega (arith, c.requires.power.1, c.requires.boundary.1)) c.requires.start)
