use Rattle.std.proofs.Common.{◌≡◌, ℕ, ◌*◌, IfOk, ap, subst, arith}
use Rattle.bao_tasks.specs.Missing.{unit_chunks}
use Rattle.bao_tasks.specs.Worth.{HasChunks, IsSaidOf, JudgesGroup}
use Rattle.bao_tasks.proofs.missing.lacks_unit.Goals as goal

pub overflow_mul-most : goal.overflow_mul-most
overflow_mul-most g c =
    let same : c.unit_chunks-most.result * c.args.unit ≡ unit_chunks c.args.wanted.now.grain * c.args.unit = ap (λ (n : ℕ). n * c.args.unit) c.unit_chunks-most.ensures.value in
    omega (arith, same, c.requires.0)

pub returns : goal.returns
returns g c =
    let wanted = c.args.wanted.now in
    subst (λ (n : ℕ). IfOk c.lacks_part.result (λ lacks. IsSaidOf (g.S.Source.contents c.args.source.now) (g.S.Source.faultless c.args.source.now)
    (λ bytes. JudgesGroup lacks (HasChunks wanted.form wanted.mode wanted.root.0 (n * c.args.unit) n bytes)))) c.unit_chunks-most.ensures.value c.lacks_part.ensures
