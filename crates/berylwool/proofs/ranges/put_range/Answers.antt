use Rattle.std.proofs.Common.{◌≡◌, ℕ, ◌+◌, ◌-◌, List, ◌++◌, drop, get_or, set, take, arith, refl, subst}
use Rattle.berylwool.specs.declared.ranges.BwRange.{BwRange}
use Rattle.berylwool.specs.Ranges.{parts}
use Rattle.berylwool.proofs.Parts.{added, longer}
use Rattle.berylwool.proofs.ranges.put_range.Goals as goal

pub returns-then-at-last-clause-parts : goal.returns-then-at-last-clause-parts
returns-then-at-last-clause-parts c = λ text.
    let out : List BwRange = c.args.out.now in
    let k : ℕ = c.args.count - 1 in
    let last : BwRange = get_or out k (record { at = 0; len = 0 }) in
    let more : k + 1 ≡ c.args.count = omega (arith, c.if-count-gt0.true) in
    subst
    (λ (n : ℕ). parts text (take n (set out k (record { at = last.at; len = last.len + c.args.len }))) ≡ parts text (take n out) ++ take c.args.len (drop c.args.at text)) more
    (longer text out k c.args.at c.args.len last (omega (arith, c.requires.count, c.if-count-gt0.true)) refl (omega (arith, c.if-last-at.true, c.if-at-last.true)))

pub returns-clause-parts : goal.returns-clause-parts
returns-clause-parts c = λ text. added text c.args.out.now c.args.count (record { at = c.args.at; len = c.args.len }) (omega (arith, c.requires.count, c.if-count-out.false))
