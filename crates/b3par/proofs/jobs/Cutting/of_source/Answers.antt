use Rattle.std.proofs.Common.{◌≡◌, ◌/◌, ℕ, ap, subst, sym, arith}
use Rattle.std.specs.Int.{IsPowerOfTwo}
use Rattle.b3par.proofs.Cuttings.{few_jobs, many_jobs, raised_power}
use Rattle.b3par.proofs.jobs.Cutting.of_source.Goals as goal

pub returns-clause-power : goal.returns-clause-power
returns-clause-power c =
    subst (λ (n : ℕ). IsPowerOfTwo n) (sym c.max.ensures) (raised_power c.next_power_of_two.result c.next_power_of_two.ensures.power)

pub returns-clause-few : goal.returns-clause-few
returns-clause-few c =
    few_jobs c.args.len c.div_ceil-share.result c.max.result (omega (arith, c.max.ensures)) c.div_ceil-share.ensures
    (omega (arith, c.max.ensures, c.next_power_of_two.ensures.lower_bound))

pub returns-clause-no_larger : goal.returns-clause-no_larger
returns-clause-no_larger c = λ large.
    let next : c.max.result ≡ c.next_power_of_two.result = omega (arith, c.max.ensures, large) in
    let half : c.max.result / 2 ≡ c.next_power_of_two.result / 2 = ap (λ (n : ℕ). n / 2) next in
    many_jobs c.args.len c.div_ceil-share.result (c.max.result / 2) (omega (arith, large)) c.div_ceil-share.ensures
    (omega (arith, half, large, c.next_power_of_two.ensures.upper_bound))
