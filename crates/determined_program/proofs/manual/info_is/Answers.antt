use Rattle.std.proofs.Common.{map, string_bytes, arith}
use Rattle.bao_files.specs.HeldFiles.{held_at}
use Rattle.bao_sums.specs.Hashed.{paths_of}
use Rattle.bao_request.specs.declared.tasks.SurveyTask.TheVariants.{Info}
use Rattle.determined_program.specs.Manual.{info_lines}
use Rattle.determined_program.proofs.ManualRuns.{held_known}
use Rattle.determined_program.proofs.PlainRequests.{SurveysAlone, info_alone, bare_survey}
use Rattle.determined_program.proofs.SurveyRuns.{Told, info_told, told_begun, told_done, told_status}
use Rattle.determined_program.proofs.manual.info_is.Given.{Over}
use Rattle.determined_program.proofs.manual.info_is.Goals as goal
use Rattle.determined_program.proofs.manual.info_is.Goals.{After-command}

module _ (g : Over) (c : After-command g) where
  alone : SurveysAlone (map string_bytes c.args.words.now) (Info c.args.files.now)
  alone = info_alone (map string_bytes c.args.words.now) c.args.files.now c.requires.some (omega arith) c.requires.asked

  told : Told (held_at c.args.disk.now.files) (paths_of c.args.files.now.items) (g.O.Write.contents c.args.out.now) (g.O.Write.contents c.command.new.out)
      (info_lines (held_at c.args.disk.now.files) (paths_of c.args.files.now.items)) c.command.result
  told = info_told (held_at c.args.disk.now.files) (held_known c.args.disk.now.files) (g.O.Write.contents c.args.out.now) (g.O.Write.contents c.command.new.out) c.args.files.now (map string_bytes c.args.words.now) c.command.result alone
      (c.command.ensures.surveyed (alone.taken, (bare_survey (Info c.args.files.now), alone.asked))).1

pub returns-clause-done : goal.returns-clause-done
returns-clause-done g c = told_done (held_at c.args.disk.now.files) (paths_of c.args.files.now.items) (g.O.Write.contents c.args.out.now) (g.O.Write.contents c.command.new.out)
    (info_lines (held_at c.args.disk.now.files) (paths_of c.args.files.now.items)) c.command.result (told g c)

pub returns-clause-begun : goal.returns-clause-begun
returns-clause-begun g c = told_begun (held_at c.args.disk.now.files) (paths_of c.args.files.now.items) (g.O.Write.contents c.args.out.now) (g.O.Write.contents c.command.new.out)
    (info_lines (held_at c.args.disk.now.files) (paths_of c.args.files.now.items)) c.command.result (told g c)

pub returns-clause-files : goal.returns-clause-files
returns-clause-files g c = (c.command.ensures.surveyed ((alone g c).taken, (bare_survey (Info c.args.files.now), (alone g c).asked))).0

pub returns-clause-status : goal.returns-clause-status
returns-clause-status g c = told_status (held_at c.args.disk.now.files) (paths_of c.args.files.now.items) (g.O.Write.contents c.args.out.now) (g.O.Write.contents c.command.new.out)
    (info_lines (held_at c.args.disk.now.files) (paths_of c.args.files.now.items)) c.command.result (told g c)
