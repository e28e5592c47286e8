use Rattle.std.proofs.Common.{Result, Err, sym}
use Rattle.std.proofs.KnownBytes.{Keeps-refl}
use Rattle.bao_sums.specs.declared.verdict.Tally.{Tally}
use Rattle.bao_command.specs.declared.survey_fault.SurveyFault.{SurveyFault}
use Rattle.bao_command.specs.declared.survey_fault.SurveyFault.TheVariants.{Mode as OfMode}
use Rattle.bao_command.proofs.survey.conduct_survey.Goals as goal

pub returns-in-Err : goal.returns-in-Err
returns-in-Err g c =
    let answer : Result Tally SurveyFault = Err (OfMode c.in-Err.fault) in
    (answer, sym c.report.ensures, (Keeps-refl (g.O.Write.contents c.args.out.now), c.in-Err.ensures.due))
