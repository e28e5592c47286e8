use Rattle.std.proofs.Common.{ℕ, List, inr, refl, subst, sym}
use Rattle.bao_tasks.specs.Replayed.{IsRun, OfFiles}
use Rattle.bao_command.specs.Printed.{CommandPrints}
use Rattle.bao_command.specs.Tasks.{IsReplay}
use Rattle.bao_command.proofs.Refusals.{replay_refused, replay_usage}
use Rattle.bao_command.proofs.Telling.{no_refusal, of_file_or, on_printed, told_prints}
use Rattle.bao_command.proofs.commands.replay.Goals as goal

pub returns-in-Ok-clause-answer : goal.returns-in-Ok-clause-answer
returns-in-Ok-clause-answer g c =
    let mode = c.args.mode.now in
    let root = c.in_ok-root.root in
    let at = g.D.Disk.at c.args.disk.now in
    let text : List ℕ = c.as_slice.result.now in
    let old = g.O.Write.contents c.args.out.now in
    let new = g.O.Write.contents c.print_text.new.out in
    let run : OfFiles at c.args.script.now c.args.files.now (λ lines pieces. IsRun mode root c.args.capacity lines pieces text) =
    subst (λ (t : List ℕ). OfFiles at c.args.script.now c.args.files.now (λ lines pieces. IsRun mode root c.args.capacity lines pieces t)) (sym c.as_slice.ensures.value) c.in-Ok.ensures.answer in
    let right : IsReplay at mode c.args.digits.now c.args.capacity c.args.script.now c.args.files.now text = (root, (c.in_ok-root.ensures.ok, run)) in
    let told = told_prints text old new c.print_text.result c.print_text.ensures.prints in
    (text, on_printed c.told.result right, subst (CommandPrints text old new) (sym c.told.ensures.prints) told)

pub returns-in-Ok-clause-refused : goal.returns-in-Ok-clause-refused
returns-in-Ok-clause-refused g c = no_refusal _ c.told.result c.told.ensures.file

pub returns-in-Ok-clause-due : goal.returns-in-Ok-clause-due
returns-in-Ok-clause-due g c = of_file_or _ c.told.result c.told.ensures.file

pub returns-in-Err-clause-refused : goal.returns-in-Err-clause-refused
returns-in-Err-clause-refused g c = λ is. (
  c.in_ok-root.root,
  (
    c.in_ok-root.ensures.ok,
    replay_refused (g.D.Disk.at c.args.disk.now) c.args.mode.now c.in_ok-root.root c.args.capacity c.args.script.now c.args.files.now c.replay_on.result c.in-Err.fault c.in-Err.is is
        (λ number at. c.replay_on.ensures.illegal number at) (λ number cause at. c.replay_on.ensures.refused number cause at),
  ),
)

pub returns-in-Err-clause-due : goal.returns-in-Err-clause-due
returns-in-Err-clause-due g c =
    inr (inr (inr (
      c.in-Err.fault,
      refl,
      λ two.
          replay_usage (g.D.Disk.at c.args.disk.now) c.args.mode.now c.in_ok-root.root c.args.capacity c.args.script.now c.args.files.now c.replay_on.result c.in-Err.fault c.in-Err.is two
          (λ number at. c.replay_on.ensures.script number at) (λ at. (c.replay_on.ensures.capacity at).0),
    )))
