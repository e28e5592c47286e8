-- What an answer says, of the place that it is for.
use Rattle.std.proofs.Common.{◌≡◌, ℕ, zero, suc, ◌+◌, ◌*◌, ◌++◌, ◌∷◌, List, Option, None, [], IfErr, IfOk, IfSome, slice_index_or, refl, sym, subst}
use Rattle.b3tree.specs.declared.mode.Mode.{Mode}
use Rattle.bao_text.specs.declared.choice.Choice.{Choice}
use Rattle.b3par.specs.declared.fault.ReadFault.TheVariants.{Reader}
use Rattle.b3par.specs.declared.jobs.Answer.{Answer}
use Rattle.b3par.specs.Encodings.{GainsText}
use Rattle.b3par.specs.Given.{Lacks}
use Rattle.b3par.specs.Jobs.{AllThere, IsJobAnswer}

pub placed_ok : (contents : Option (List ℕ)) (faultless : Type 0) (choice : Choice) (mode : Mode) (first len : ℕ) (answer : Answer) → answer.job.first ≡ first → answer.job.len ≡ len
    → IsJobAnswer contents faultless choice mode answer → IfOk answer.made (λ made. GainsText contents choice mode first len [] made.text.items made.top)
placed_ok contents faultless choice mode first len answer first_is len_is right =
    subst (λ (n : ℕ). IfOk answer.made (λ made. GainsText contents choice mode first n [] made.text.items made.top)) len_is
    (subst (λ (n : ℕ). IfOk answer.made (λ made. GainsText contents choice mode n answer.job.len [] made.text.items made.top)) first_is right.0)

pub placed_err : (contents : Option (List ℕ)) (faultless : Type 0) (choice : Choice) (mode : Mode) (first len : ℕ) (answer : Answer) → answer.job.first ≡ first → answer.job.len ≡ len
    → IsJobAnswer contents faultless choice mode answer → IfErr answer.made (λ fault. fault ≡ Reader → Lacks contents faultless (1024 * first + len))
placed_err contents faultless choice mode first len answer first_is len_is right =
    subst (λ (n : ℕ). IfErr answer.made (λ fault. fault ≡ Reader → Lacks contents faultless (1024 * first + n))) len_is
    (subst (λ (n : ℕ). IfErr answer.made (λ fault. fault ≡ Reader → Lacks contents faultless (1024 * n + answer.job.len))) first_is right.1)

-- one more empty slot
pub none_more : (slots : List (Option Answer)) → ((i : ℕ) → slice_index_or slots i None ≡ None) → (i : ℕ) → slice_index_or (slots ++ None ∷ []) i None ≡ None
none_more [] empty zero = refl
none_more [] empty (suc i) = refl
none_more (x ∷ xs) empty zero = empty zero
none_more (x ∷ xs) empty (suc i) = none_more xs (λ k. empty (suc k)) i

-- nothing is wrong in empty slots
pub none_wrong : (P : Answer → Type 0) (slots : List (Option Answer)) → ((i : ℕ) → slice_index_or slots i None ≡ None) → AllThere P slots
none_wrong P slots empty i = subst (λ (o : Option Answer). IfSome o P) (sym (empty i)) tt
