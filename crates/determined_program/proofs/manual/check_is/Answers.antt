use Rattle.std.proofs.Common.{false, map, string_bytes}
use Rattle.bao_files.specs.HeldFiles.{held_at}
use Rattle.bao_request.specs.declared.tasks.SurveyTask.TheVariants.{Check}
use Rattle.determined_program.proofs.ManualRuns.{held_known}
use Rattle.determined_program.proofs.PlainRequests.{SurveysAlone, bare_survey, check_alone}
use Rattle.determined_program.proofs.SurveyRuns.{CheckTold, check_done, check_told, check_usage}
use Rattle.determined_program.proofs.manual.check_is.Given.{Over}
use Rattle.determined_program.proofs.manual.check_is.Goals as goal
use Rattle.determined_program.proofs.manual.check_is.Goals.{After-command}

module _ (g : Over) (c : After-command g) where
  alone : SurveysAlone (map string_bytes c.args.words.now) (Check false c.args.ranges c.args.sums)
  alone = check_alone (map string_bytes c.args.words.now) c.args.ranges c.args.sums c.requires

  told : CheckTold (held_at c.args.disk.now.files) false c.args.ranges c.args.sums.now (g.O.Write.contents c.args.out.now) (g.O.Write.contents c.command.new.out) c.command.result
  told = check_told (held_at c.args.disk.now.files) (held_known c.args.disk.now.files) (g.O.Write.contents c.args.out.now) (g.O.Write.contents c.command.new.out) c.args.ranges c.args.sums
      (map string_bytes c.args.words.now) c.command.result alone (c.command.ensures.surveyed (alone.taken, (bare_survey (Check false c.args.ranges c.args.sums), alone.asked))).1

pub returns-clause-done : goal.returns-clause-done
returns-clause-done g c =
    check_done (held_at c.args.disk.now.files) c.args.ranges c.args.sums.now (g.O.Write.contents c.args.out.now) (g.O.Write.contents c.command.new.out) c.command.result (told g c)

pub returns-clause-usage : goal.returns-clause-usage
returns-clause-usage g c =
    check_usage (held_at c.args.disk.now.files) c.args.ranges c.args.sums.now (g.O.Write.contents c.args.out.now) (g.O.Write.contents c.command.new.out) c.command.result (told g c)

pub returns-clause-files : goal.returns-clause-files
returns-clause-files g c = (c.command.ensures.surveyed ((alone g c).taken, (bare_survey (Check false c.args.ranges c.args.sums), (alone g c).asked))).0
