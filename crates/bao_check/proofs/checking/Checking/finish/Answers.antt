use Rattle.std.proofs.Common.{◌≡◌, ℕ, ◌<◌, List, ◌++◌, length, sym, ap, subst, ◌∙◌, arith, length-append}
use Rattle.std.specs.Prelude.{IsNone}
use Rattle.std.proofs.lemmas.List.{append-nil}
use Rattle.bao_check.specs.declared.fault.CheckFault.TheVariants.{Short}
use Rattle.bao_check.specs.Checking.{wanted}
use Rattle.bao_check.specs.Waiting.{IsAcceptedAs, IsFaultAs}
use Rattle.bao_check.proofs.Feeding.{later_size, no_rest, none_begun, some_rest, waits_trailing, with_size}
use Rattle.bao_check.proofs.checking.Checking.finish.Goals as goal

pub returns-then-is_some : goal.returns-then-is_some
returns-then-is_some c = λ task taken it.
    subst (λ (k : ℕ). IsFaultAs task (taken ++ c.args.rest.now) (Short k)) (sym it.at_is)
    (with_size c.wants.result (wanted c.args.self.now) (λ size. (more : List ℕ) → length more < size → IsFaultAs task (taken ++ more) (Short (length taken)))
    (λ size. length c.args.rest.now < size) (IsFaultAs task (taken ++ c.args.rest.now) (Short (length taken))) c.wants.ensures.value (sym c.is_some.ensures ∙ c.if-is_some.true)
    (c.wants.ensures.short task taken it) c.requires (λ size short less. short c.args.rest.now less))

pub returns-then-is_empty : goal.returns-then-is_empty
returns-then-is_empty c = λ task taken it.
    let none : IsNone c.wants.result = sym c.is_some.ensures ∙ c.if-is_some.false in
    let all : taken ++ c.args.rest.now ≡ taken = ap (λ (s : List ℕ). taken ++ s) (no_rest c.args.rest.now (sym c.is_empty.ensures ∙ c.if-is_empty.true)) ∙ append-nil taken in
    subst (λ (s : List ℕ). IsAcceptedAs task s) (sym all) ((c.wants.ensures.done task taken it).0 none)

pub returns-else-is_empty : goal.returns-else-is_empty
returns-else-is_empty c = grind (arith, none_begun, later_size, some_rest, waits_trailing, length-append)
