use Rattle.gather.proofs.Common.{◌≡◌, ◌∙◌, ℕ, IsTrue, Some, false, subst, sym, true}
use Rattle.holders.specs.Forms.{IsLengthOf}
use Rattle.gather.proofs.completing.length_for.Goals as goal

pub returns-in-Some-clause-known : goal.returns-in-Some-clause-known
returns-in-Some-clause-known g c = λ l is of. sym c.in-Some.is ∙ c.length.ensures.known l is

pub returns-in_default-clause-known : goal.returns-in_default-clause-known
returns-in_default-clause-known g c = λ l is of.
    let same : Some c.in-Some.length ≡ Some l = sym c.in-Some.is ∙ c.length.ensures.known l is in
    let e : c.in-Some.length ≡ l = cc in
    let met : IsTrue c.is_of.result = c.is_of.ensures.1 (subst (λ (n : ℕ). IsLengthOf c.args.form.now n) (sym e) of) in
    let no : false ≡ true = sym c.if-is_of.false ∙ met in cc

pub returns-in_default-2-clause-known : goal.returns-in_default-2-clause-known
returns-in_default-2-clause-known g c = λ l is of. sym c.in_default.is ∙ c.length.ensures.known l is
