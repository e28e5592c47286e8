use Rattle.std.proofs.Common.{◌≡◌, ℕ, ◌*◌, ◌<◌, ◌≤◌, Bool, false, true, List, length, Option, None, Some, IfSome, inl, inr, subst, sym, arith, ◌∙◌}
use Rattle.std.proofs.lemmas.Bool.{cases_lt}
use Rattle.holders.specs.declared.form.Form.{Form}
use Rattle.bao_tasks.specs.Worth.{GoesOn, IsSaidOf}
use Rattle.bao_tasks.proofs.Said.{said_always}
use Rattle.bao_tasks.proofs.worth.has_ended.Goals as goal

-- where it has ended it goes on nowhere
over : (contents : Option (List ℕ)) (faultless : Type 0) (n : ℕ) → IfSome contents (λ s. length s ≤ 65536 * n) → IsSaidOf contents faultless (λ bytes. (g : ℕ) → n ≤ g → ¬ (65536 * g < length bytes))
over None faultless n ends = tt
over (Some s) faultless n ends = λ few sound g after on. omega (arith, ends, after, on)

goes_on : (contents : Option (List ℕ)) (faultless : Type 0) (n : ℕ) (ended : Bool) → ended ≡ false → (faultless → IfSome contents (λ s. length s ≤ 65536 * n → ended ≡ true))
    → IsSaidOf contents faultless (λ bytes. 65536 * n < length bytes)
goes_on None faultless n ended not found = tt
goes_on (Some s) faultless n ended not found = λ few sound. elim (cases_lt (65536 * n) (length s)) [
  | inl more ↦ more
  | inr less ↦ let no : false ≡ true = sym not ∙ found sound less in cc
]

pub returns-in-Slices-clause-ends : goal.returns-in-Slices-clause-ends
returns-in-Slices-clause-ends g c = λ yes.
    subst (λ (f : Form). IsSaidOf (g.S.Source.contents c.args.source.now) (g.S.Source.faultless c.args.source.now) (λ bytes. (j : ℕ) → c.args.group ≤ j → ¬ GoesOn f bytes j)) (sym c.in-Slices.is)
    (over _ _ c.args.group (c.ends_at.ensures.ends yes))

pub returns-in-Slices-clause-goes : goal.returns-in-Slices-clause-goes
returns-in-Slices-clause-goes g c = λ no.
    subst (λ (f : Form). IsSaidOf (g.S.Source.contents c.args.source.now) (g.S.Source.faultless c.args.source.now) (λ bytes. GoesOn f bytes c.args.group)) (sym c.in-Slices.is)
    (goes_on _ _ c.args.group c.ends_at.result no c.ends_at.ensures.found)

pub returns-in-Bare-clause-goes : goal.returns-in-Bare-clause-goes
returns-in-Bare-clause-goes g c = λ no.
    subst (λ (f : Form). IsSaidOf (g.S.Source.contents c.args.source.now) (g.S.Source.faultless c.args.source.now) (λ bytes. GoesOn f bytes c.args.group)) (sym c.in-Bare.is)
    (said_always _ _ _ (λ bytes. tt))
