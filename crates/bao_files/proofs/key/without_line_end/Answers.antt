use Rattle.std.proofs.Common.{[], ◌∷◌, None, Some, inl, inr, refl}
use Rattle.std.proofs.lemmas.Bool.Decides.{Decides-eqb}
use Rattle.std.proofs.lemmas.Slice.Eq.{strip_suffix_is}
use Rattle.bao_files.proofs.KeyTexts.{digits_alone, digits_before}
use Rattle.bao_files.proofs.key.without_line_end.Goals as goal

pub returns-in-Some-clause-cut : goal.returns-in-Some-clause-cut
returns-in-Some-clause-cut c =
    let is = strip_suffix_is Decides-eqb c.args.bytes.now (10 ∷ []) (Some c.in-Some.digits) c.in-Some.ensures.cases in
    λ digits text. digits_before c.args.bytes.now c.in-Some.digits.now digits is text.0 text.1

pub returns-in-Some-clause-rest : goal.returns-in-Some-clause-rest
returns-in-Some-clause-rest c = inr (strip_suffix_is Decides-eqb c.args.bytes.now (10 ∷ []) (Some c.in-Some.digits) c.in-Some.ensures.cases)

pub returns-in-None-clause-cut : goal.returns-in-None-clause-cut
returns-in-None-clause-cut c =
    let none = strip_suffix_is Decides-eqb c.args.bytes.now (10 ∷ []) None c.in-None.ensures.cases in λ digits text. digits_alone c.args.bytes.now digits none text.1

pub returns-in-None-clause-rest : goal.returns-in-None-clause-rest
returns-in-None-clause-rest c = inl refl
