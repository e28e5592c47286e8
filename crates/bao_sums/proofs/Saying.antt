-- What the first lines of a text say, and one more.
use Rattle.std.proofs.Common.{◌≡◌, ℕ, List, [], ◌∷◌, ◌++◌, Option, None, ap, refl, subst, sym, ◌∙◌, map}
use Rattle.std.proofs.lemmas.List.{append-nil, append_assoc, map-append}
use Rattle.std.proofs.lemmas.Iterator.{YieldsList}
use Rattle.std.proofs.lemmas.Iterator.Consumers.{YieldsList-end}
use Rattle.std.specs.Iterator.{Yields}
use Rattle.std.specs.Prelude.{option_to_list}
use Rattle.bao_sums.specs.Found.{AddsLine}
use Rattle.bao_sums.specs.Sums.{Say, Says, Sum}

say_more : (lines : List (List ℕ)) (line : List ℕ) (sums : List Sum) (found : Option Sum) → Say lines sums → Says line found → Say (lines ++ line ∷ []) (sums ++ option_to_list found)
say_more [] line sums found said says =
    (found, [], says, refl, ap (λ (s : List Sum). s ++ option_to_list found) said ∙ sym (append-nil (option_to_list found)))
say_more (first ∷ lines) line sums found said says = (
  said.0,
  said.1 ++ option_to_list found,
  said.2,
  say_more lines line said.1 found said.3 says,
  ap (λ (s : List Sum). s ++ option_to_list found) said.4 ∙ append_assoc (option_to_list said.0) said.1 (option_to_list found),
)

pub one_line : {X : Type 0} (f : X → List ℕ) (lines : List X) (line : X) (old new : List Sum) → Say (map f lines) old → AddsLine (f line) old new → Say (map f (lines ++ line ∷ [])) new
one_line f lines line old new said adds =
    subst (λ (ls : List (List ℕ)). Say ls new) (sym (map-append f lines (line ∷ [])))
    (subst (Say (map f lines ++ f line ∷ [])) (sym adds.2) (say_more (map f lines) (f line) old adds.0 said adds.1))

-- all parts came
pub all_parts : {S A B : Type 0} {steps : S → Option A → S → Type 0} {v : A → B} {s : S} {all : List B} (xs : List A) (t : S) → Yields steps s xs t
    → (r : Option A) (u : S) → r ≡ None → steps t r u → YieldsList steps v s all → map v xs ≡ all
all_parts xs t came r u is over parts = (YieldsList-end parts xs t came r u is over).0
