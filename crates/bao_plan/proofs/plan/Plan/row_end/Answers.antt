use Rattle.std.proofs.Common.{◌≡◌, ◌+◌, ◌/◌, ◌%◌, sym, ◌∙◌, ap, arith}
use Rattle.bao_plan.specs.Sets.{has_bit}
use Rattle.bao_plan.proofs.plan.Plan.row_end.Goals as goal

pub returns : goal.returns
returns c =
    let first = c.args.first in
    let n = c.from.result in
    let mask = c.ready-run.result.mask in
    record {
      from = omega arith;
      to = omega (arith, c.ones_from.ensures.within, c.from.ensures);
      ready = λ k from to.
          let here : k / 64 ≡ first / 64 = omega (arith, from, to, c.ones_from.ensures.within, c.from.ensures) in
          sym (c.ready-run.ensures.bits k (omega (arith, here)) (omega (arith, here, c.ready-run.ensures.ahead)))
          ∙ c.ones_from.ensures.set (k % 64) (omega (arith, here, from)) (omega (arith, here, from, to, c.from.ensures));
      last = λ below.
          let here : (first + n) / 64 ≡ first / 64 = omega (arith, below) in
          let place : first % 64 + c.ones_from.result ≡ (first + n) % 64 = omega (arith, below, here, c.from.ensures) in
          sym (c.ready-run.ensures.bits (first + n) (omega (arith, here)) (omega (arith, here, c.ready-run.ensures.ahead)))
          ∙ (sym (ap (has_bit mask) place) ∙ c.ones_from.ensures.end (omega (arith, place)));
    }
