use Rattle.std.proofs.Common.{◌≡◌, List, true, refl, map, string_bytes, ap, ◌∙◌, subst}
use Rattle.std.specs.Prelude.{IfErr}
use Rattle.std.proofs.lemmas.Result.{IfOk-weaker}
use Rattle.clap.specs.Words.{App, FailsBy, Text, app_of, fault_of, kind_of, is_simple, is_simple_and_free, subcommand_of, takes}
use Rattle.clap.specs.declared.error.kind.ErrorKind.TheVariants.{OutOfMemory}
use Rattle.clap.proofs.OnLiterals.{clap_on_literals}
use Rattle.bao_request.specs.CommandLine.{program_app}
use Rattle.bao_request.proofs.reading.matches_of.Goals as goal

program_simple : is_simple program_app ≡ true
unfolding clap_on_literals
program_simple = refl

program_free : is_simple_and_free program_app ≡ true
unfolding clap_on_literals
program_free = refl

pub returns-clause-rows : goal.returns-clause-rows
returns-clause-rows c =
    let app : app_of c.in_ok-program.program ≡ program_app = c.in_ok-program.ensures.app_is in
    let words : List Text = map string_bytes c.args.words.now in
    IfOk-weaker c.try_get_matches_from.result _ _ (λ m h. (h (ap is_simple app ∙ program_simple)).1 ∙ ap (λ (a : App). subcommand_of a words) app) c.try_get_matches_from.ensures.matches

pub returns-clause-kinds : goal.returns-clause-kinds
returns-clause-kinds c =
    let app : app_of c.in_ok-program.program ≡ program_app = c.in_ok-program.ensures.app_is in
    let words : List Text = map string_bytes c.args.words.now in
    subst (λ (a : App). FailsBy (fault_of a words) c.try_get_matches_from.result) app (c.try_get_matches_from.ensures.kinds (ap is_simple_and_free app ∙ program_free))

pub returns-clause-passes : goal.returns-clause-passes
returns-clause-passes c =
    let app : app_of c.in_ok-program.program ≡ program_app = c.in_ok-program.ensures.app_is in
    let words : List Text = map string_bytes c.args.words.now in
    subst (λ (a : App). IfErr c.try_get_matches_from.result (λ error. takes a words ≡ true → kind_of error ≡ OutOfMemory)) app c.try_get_matches_from.ensures.passes
