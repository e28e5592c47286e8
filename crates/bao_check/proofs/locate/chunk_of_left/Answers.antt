use Rattle.std.proofs.Common.{◌≡◌, ℕ, ◌+◌, ◌-◌, ◌*◌, ◌^◌, ◌&&◌, Bool, sym, ap, ◌∙◌, arith}
use Rattle.std.specs.Bool.{then_some}
use Rattle.std.specs.Int.Count.{ones}
use Rattle.bao_text.specs.Choice.{wants}
use Rattle.bao_check.proofs.Descents.{chunk_full}
use Rattle.bao_check.proofs.locate.chunk_of_left.Goals as goal
use Rattle.bao_check.proofs.locate.chunk_of_left.Goals.{then-has_chunks, else-has_chunks}

pub returns : goal.returns
returns c = λ sides from.
    let asked : Bool = wants c.args.choice.now (1024 * c.args.i) 1024 in
    let there : c.if-has_chunks.there ≡ (c.args.choice.now.chunks && asked) = elim c.if-has_chunks.branch [
      | then-has_chunks w ↦ w.there-is ∙ w.wants-there.ensures ∙ sym (ap (λ (x : Bool). x && asked) (sym c.has_chunks.ensures ∙ w.if-has_chunks.true))
      | else-has_chunks w ↦ w.there-is ∙ w.if-has_chunks.false ∙ sym (ap (λ (x : Bool). x && asked) (sym c.has_chunks.ensures ∙ w.if-has_chunks.false))
    ] in
    let k : ℕ = c.args.i - c.args.number in
    let place : c.args.at + c.from-2.result + 64 * c.from-3.result ≡ c.args.at + 64 + 1024 * k + 64 * (k + ones (2 ^ c.requires.power.0 - 1 - k)) =
    omega (arith, c.from.ensures, c.from-2.ensures, c.from-3.ensures, ap (λ (n : ℕ). ones (n - 1 - k)) c.requires.power.1) in
    c.then_some.ensures
    ∙ (λ j. then_some (there j) (record { at = place j; len = 1024 }))
    ∙ sym (chunk_full c.requires.power.0 c.args.choice.now c.args.number (1024 * c.args.count) sides from (c.args.at + 64) c.args.i (ap (λ (n : ℕ). 1024 * n) c.requires.power.1)
    c.requires.chunk.0 (omega (arith, c.requires.power.1, c.requires.chunk.1)) c.requires.start)
