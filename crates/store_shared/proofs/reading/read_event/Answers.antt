use Rattle.std.proofs.Common.{◌≡◌, ◌*◌, ◌==◌, false, length, ap, sym, ◌∙◌, arith, inr}
use Rattle.std.proofs.lemmas.Bool.Decides.{nat_tests}
use Rattle.holders.specs.declared.fixed.Fixed.{Fixed}
use Rattle.store_shared.proofs.Ending.{read_nothing}
use Rattle.store_shared.proofs.reading.read_event.Goals as goal

pub returns-then-at-limit_of-clause-read : goal.returns-then-at-limit_of-clause-read
returns-then-at-limit_of-clause-read c =
    let grip = c.args.grip.now in
    let limit : 1024 * c.fixed.result.capacity ≡ 1024 * grip.view.fixed.capacity =
    ap (λ (f : Fixed). 1024 * f.capacity) (c.fixed.ensures ∙ sym c.requires.of.knows.fixed_is) in
    let some : (length c.args.out.now == 0) ≡ false = sym c.is_empty.ensures ∙ c.if-is_empty.false in
    read_nothing grip.view c.load-then-at-limit_of.new.grip.view c.args.at c.args.out.now _ c.requires.of.knows.legal c.load-then-at-limit_of.ensures.looked
    (inr (omega (arith, limit, c.if-at-limit_of.true, c.limit_of.ensures))) (grind (arith, nat_tests), omega arith)
