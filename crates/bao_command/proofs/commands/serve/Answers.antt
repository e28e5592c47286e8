use Rattle.std.proofs.Common.{◌≡◌, ◌⊎◌, ℕ, Bool, true, false, Decides, List, Option, Result, Ok, Err, IfErr, OnOk, inl, inr, refl}
use Rattle.std.proofs.lemmas.Bool.{false≢true}
use Rattle.std.proofs.lemmas.Bool.Decides.{Decides-eqb}
use Rattle.b3tree.specs.declared.mode.Mode.{Mode}
use Rattle.bao_files.specs.Disks.{FileState, KeepsFiles}
use Rattle.bao_command.specs.declared.fault.Fault.{Fault}
use Rattle.bao_command.specs.declared.fault.Fault.TheVariants.{Word, Root, Key, KeyAndContext, KeyFile, KeyFileAndOthers, OutputRange, TooManyFiles, OutIsOutput, OutLeadsToOutput, OutIsRead, LongAndCapacity, ListIsOut, ListIsRead, ListLeadsToOther, File, Decode, Gather, Replay}
use Rattle.bao_files.specs.declared.fault.FileFault.TheVariants as file
use Rattle.bao_request.specs.declared.tasks.Request.{Request}
use Rattle.bao_command.specs.Effects.{Writes, list_of}
use Rattle.bao_command.specs.Printed.{CommandPrints, OnPrinted}
use Rattle.bao_command.specs.ModeWords.{HasMode}
use Rattle.bao_command.specs.Refused.{IsBlobFor, IsBlobOf, IsRefused, IsRefusedFor}
use Rattle.bao_command.specs.Status.{status_of}
use Rattle.bao_command.specs.Tasks.{Answers, GoesApart, IsPassed, IsRight, LeavesFiles, LeavesFilesOf, line_of}
use Rattle.bao_command.proofs.Due.{mode_due, task_due}
use Rattle.bao_command.proofs.Listing.{list_before, list_for}
use Rattle.bao_command.proofs.Modes.{mode_answer, mode_refuses_none, mode_relists_none}
use Rattle.bao_command.proofs.Telling.{never_passed, other_status, passed_of}
use Rattle.bao_command.proofs.commands.serve.Goals as goal

is_or_not : (b : Bool) (P : Type 0) → Decides b P → P ⊎ (¬ P)
is_or_not true P decides = inl (decides.0 refl)
is_or_not false P decides = inr (λ p. absurd (false≢true (decides.1 p)))

module _ (request : Request) (at after : List ℕ → FileState) (mode : Mode) (has : HasMode at request mode) where
  -- what was printed of the line in the request's mode answers the request
  answers : (bytes : List ℕ) (old new : Option (List ℕ)) (result : Result Unit Fault) → GoesApart request
      → OnPrinted result (IsRight at mode request.task bytes × Writes at after mode request.task (list_of request.task) bytes)
      → CommandPrints (line_of mode request.task bytes) old new result → Answers request at after old new result
  answers bytes old new (Ok done) apart right prints = (mode, bytes, has, apart, right.0, right.1, prints)
  answers bytes old new (Err Word) apart right prints = prints
  answers bytes old new (Err Root) apart right prints = prints
  answers bytes old new (Err Key) apart right prints = prints
  answers bytes old new (Err KeyAndContext) apart right prints = prints
  answers bytes old new (Err KeyFile) apart right prints = prints
  answers bytes old new (Err KeyFileAndOthers) apart right prints = prints
  answers bytes old new (Err OutputRange) apart right prints = prints
  answers bytes old new (Err TooManyFiles) apart right prints = prints
  answers bytes old new (Err OutIsOutput) apart right prints = prints
  answers bytes old new (Err OutLeadsToOutput) apart right prints = prints
  answers bytes old new (Err OutIsRead) apart right prints = prints
  answers bytes old new (Err LongAndCapacity) apart right prints = prints
  answers bytes old new (Err ListIsOut) apart right prints = prints
  answers bytes old new (Err ListIsRead) apart right prints = prints
  answers bytes old new (Err ListLeadsToOther) apart right prints = prints
  answers bytes old new (Err (File (file.Read path))) apart right prints = prints
  answers bytes old new (Err (File (file.Write path))) apart right prints = prints
  answers bytes old new (Err (File file.Output)) apart right prints = (mode, bytes, has, apart, (right refl).0, (right refl).1, prints)
  answers bytes old new (Err (File file.Encoding)) apart right prints = prints
  answers bytes old new (Err (File file.Memory)) apart right prints = prints
  answers bytes old new (Err (Decode fault)) apart right prints = prints
  answers bytes old new (Err (Gather fault unlisted)) apart right prints = prints
  answers bytes old new (Err (Replay fault)) apart right prints = prints

  -- what the task's fault leaves and refuses is the request's
  leaves : (result : Result Unit Fault) → GoesApart request → IfErr result (LeavesFiles at after mode request.task)
      → IfErr result (λ fault. status_of fault ≡ 2 → KeepsFiles at after) → IfErr result (LeavesFilesOf at after request)
  leaves (Ok done) apart left usage = tt
  leaves (Err fault) apart left usage = elim (is_or_not _ _ (Decides-eqb (status_of fault) 2)) [
    | inl is ↦ inl (usage is)
    | inr other ↦ inr (other, apart, (mode, has, left))
  ]

  refuses : (sure : Type 0) (result : Result Unit Fault) → IfErr result (λ fault. status_of fault ≡ 1 → IsRefused sure at mode request.task)
      → IfErr result (λ fault. status_of fault ≡ 1 → IsRefusedFor sure at request)
  refuses sure (Ok done) refused = tt
  refuses sure (Err fault) refused = λ is. (mode, has, refused is)

  -- so is the blob that it gathers
  gathers : (sure : Type 0) (old new : Option (List ℕ)) (result : Result Unit Fault) → OnOk result (IsBlobOf sure at after mode request.task old new)
      → OnOk result (IsBlobFor sure at after request old new)
  gathers sure old new (Ok done) blob = (mode, has, blob)
  gathers sure old new (Err fault) blob = tt

-- before the task nothing has changed
unchanged : (request : Request) (at : List ℕ → FileState) (result : Result Unit Fault) → IfErr result (LeavesFilesOf at at request)
unchanged request at (Ok done) = tt
unchanged request at (Err fault) = inl (λ path. refl)

pub returns-in_ok-check_places-clause-answer : goal.returns-in_ok-check_places-clause-answer
returns-in_ok-check_places-clause-answer g c =
    let prints = c.serve_task.ensures.prints in
    answers c.args.request.now (g.D.Disk.at c.args.disk.now) (g.D.Disk.at c.serve_task.new.disk) c.in_ok-mode.mode c.in_ok-mode.ensures.mode prints.0 (g.O.Write.contents c.args.out.now)
    (g.O.Write.contents c.serve_task.new.out) c.serve_task.result (c.writes_apart.ensures.yes c.if-writes_apart.true, c.in_ok-check_list.ensures.clash, c.in_ok-check_list.ensures.read, c.in_ok-check_places.ensures.apart) prints.1 prints.2

pub returns-in_ok-check_places-clause-files : goal.returns-in_ok-check_places-clause-files
returns-in_ok-check_places-clause-files g c =
    leaves c.args.request.now (g.D.Disk.at c.args.disk.now) (g.D.Disk.at c.serve_task.new.disk) c.in_ok-mode.mode c.in_ok-mode.ensures.mode c.serve_task.result
    (c.writes_apart.ensures.yes c.if-writes_apart.true, c.in_ok-check_list.ensures.clash, c.in_ok-check_list.ensures.read, c.in_ok-check_places.ensures.apart) c.serve_task.ensures.files c.serve_task.ensures.usage

pub returns-in_ok-check_places-clause-refused : goal.returns-in_ok-check_places-clause-refused
returns-in_ok-check_places-clause-refused g c =
    refuses c.args.request.now (g.D.Disk.at c.args.disk.now) (g.D.Disk.at c.serve_task.new.disk) c.in_ok-mode.mode c.in_ok-mode.ensures.mode (g.D.Disk.faultless c.args.disk.now) c.serve_task.result c.serve_task.ensures.refused

pub returns-in_ok-check_places-clause-blob : goal.returns-in_ok-check_places-clause-blob
returns-in_ok-check_places-clause-blob g c =
    gathers c.args.request.now (g.D.Disk.at c.args.disk.now) (g.D.Disk.at c.serve_task.new.disk) c.in_ok-mode.mode c.in_ok-mode.ensures.mode (g.D.Disk.faultless c.args.disk.now)
    (g.O.Write.contents c.args.out.now) (g.O.Write.contents c.serve_task.new.out) c.serve_task.result c.serve_task.ensures.blob

pub returns-in_err-mode-clause-answer : goal.returns-in_err-mode-clause-answer
returns-in_err-mode-clause-answer g c =
    mode_answer c.args.request.now (g.D.Disk.at c.args.disk.now) (g.O.Write.contents c.args.out.now) c.from_residual-in_err-mode.result _ c.from_residual-in_err-mode.ensures.1 c.in_err-mode.ensures.fault

pub returns-in_err-mode-clause-refused : goal.returns-in_err-mode-clause-refused
returns-in_err-mode-clause-refused g c =
    other_status _ c.from_residual-in_err-mode.result _ c.from_residual-in_err-mode.ensures.1 (mode_refuses_none c.args.request.now.key_file _ c.in_err-mode.ensures.fault)

pub returns-in_err-mode-clause-due : goal.returns-in_err-mode-clause-due
returns-in_err-mode-clause-due g c = mode_due (g.D.Disk.at c.args.disk.now) c.args.request.now c.from_residual-in_err-mode.result _ c.from_residual-in_err-mode.ensures.1 c.in_err-mode.ensures.due

pub returns-in_ok-check_places-clause-due : goal.returns-in_ok-check_places-clause-due
returns-in_ok-check_places-clause-due g c = task_due (g.D.Disk.at c.args.disk.now) c.args.request.now c.serve_task.result c.serve_task.ensures.due

pub returns-in_ok-check_places-clause-passed : goal.returns-in_ok-check_places-clause-passed
returns-in_ok-check_places-clause-passed g c =
    passed_of _ (IsPassed (g.D.Disk.at c.args.disk.now) c.args.request.now) c.serve_task.result (λ rest. record {
      root = c.in_ok-check_root.ensures.ok;
      mixed = c.in_ok-check_long.ensures.ok;
      mode = (c.in_ok-mode.mode, c.in_ok-mode.ensures.mode);
      apart = (c.writes_apart.ensures.yes c.if-writes_apart.true, c.in_ok-check_list.ensures.clash, c.in_ok-check_list.ensures.read, c.in_ok-check_places.ensures.apart);
      past = rest.0;
      few = rest.1;
    }) c.serve_task.ensures.passed

pub returns-in_err-mode-clause-passed : goal.returns-in_err-mode-clause-passed
returns-in_err-mode-clause-passed g c =
    never_passed _ c.from_residual-in_err-mode.result _ c.from_residual-in_err-mode.ensures.1 (mode_refuses_none c.args.request.now.key_file _ c.in_err-mode.ensures.fault)

pub returns-in_err-mode-clause-listed : goal.returns-in_err-mode-clause-listed
returns-in_err-mode-clause-listed g c =
    mode_relists_none (g.D.Disk.at c.args.disk.now) (g.D.Disk.at c.args.disk.now) (list_of c.args.request.now.task) c.args.request.now.key_file c.from_residual-in_err-mode.result _
    c.from_residual-in_err-mode.ensures.1 c.in_err-mode.ensures.fault

pub returns-in_err-mode-clause-gaps : goal.returns-in_err-mode-clause-gaps
returns-in_err-mode-clause-gaps g c = list_before (g.D.Disk.faultless c.args.disk.now) (g.D.Disk.at c.args.disk.now) c.args.request.now c.from_residual-in_err-mode.result

pub returns-in_ok-check_places-clause-gaps : goal.returns-in_ok-check_places-clause-gaps
returns-in_ok-check_places-clause-gaps g c =
    list_for (g.D.Disk.faultless c.args.disk.now) (g.D.Disk.at c.args.disk.now) (g.D.Disk.at c.serve_task.new.disk) c.args.request.now c.in_ok-mode.mode c.serve_task.result c.in_ok-mode.ensures.mode
    c.serve_task.ensures.gaps
