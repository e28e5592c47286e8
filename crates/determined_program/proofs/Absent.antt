-- Of a file that isn't there nothing is made, and nothing is refused.
use Rattle.std.specs.Borrow.{Bor}
use Rattle.std.proofs.Common.{◌≡◌, ℕ, List, Option, None, Some, inl, inr, refl, subst}
use Rattle.std.specs.Io.KnownBytes.{Keeps}
use Rattle.b3tree.specs.declared.mode.Mode.{Mode}
use Rattle.clap.specs.Words.{Text}
use Rattle.bao_check.specs.Accepted.{IsAccepted, outboard_nodes}
use Rattle.bao_check.specs.Faults.{IsFirstFault}
use Rattle.bao_check.proofs.Laws.{first_fault-not_accepted}
use Rattle.bao_files.specs.Disks.{Absent, AreOf, FileState, KeepsFiles}
use Rattle.bao_request.specs.CommandLine.{AsksFor, AsksForHelp}
use Rattle.bao_request.specs.declared.tasks.Request.{Request}
use Rattle.bao_request.specs.declared.tasks.Task.{Task}
use Rattle.bao_request.specs.declared.tasks.Task.TheVariants.{Hash, Encode, CutSlice, Decode, DecodeCopy, Gather, Replay}
use Rattle.bao_command.specs.Effects.{KeepsButList, list_of}
use Rattle.bao_command.specs.Outcome.{Begun, Done, IsRefusable, LeavesAt}
use Rattle.bao_command.specs.ModeWords.{HasMode}
use Rattle.bao_command.specs.Refused.{HasFault, IsRefused}
use Rattle.bao_command.specs.Tasks.{IsRight, LeavesFiles, LeavesFilesOf}
use Rattle.bao_command.specs.declared.fault.Fault.{Fault}
use Rattle.determined_program.specs.Commands.{LacksFile}

none_of : (state : FileState) (bytes : List ℕ) → state ≡ Absent → AreOf state bytes → ⊥
none_of state bytes is are = subst (λ (s : FileState). AreOf s bytes) is are

module _ (at : List ℕ → FileState) (m : Mode) where
  not_right : (task : Task) (bytes : List ℕ) → LacksFile at m task → IsRight at m task bytes → ⊥
  not_right (Hash from count file) bytes lacks right = none_of (at file.now) bytes lacks right
  not_right (Encode encoding file out) bytes lacks right = none_of (at file.now) bytes lacks right
  not_right (CutSlice root start len None file out) bytes lacks right = none_of (at file.now) right.1.0 lacks right.1.1
  not_right (CutSlice root start len (Some outboard) file out) bytes (inl lacks) right = none_of (at outboard.now) right.1.0 lacks right.1.2
  not_right (CutSlice root start len (Some outboard) file out) bytes (inr lacks) right = none_of (at file.now) right.1.1 lacks right.1.3
  not_right (Decode root part file out) bytes lacks right = none_of (at file.now) bytes lacks right.1
  not_right (DecodeCopy root outboard copy out) bytes (inl lacks) right = none_of (at outboard.now) right.1.1.0 lacks right.1.1.1
  not_right (DecodeCopy root outboard copy out) bytes (inr lacks) right = none_of (at copy.now) bytes lacks.0 right.1.1.2
  not_right (Gather task) bytes lacks right = absurd lacks
  not_right (Replay root capacity script files) bytes lacks right = none_of (at script.now) right.1.1.1.0 lacks right.1.1.1.2

  -- an encoding that is accepted has no fault
  no_fault : (key outline : List ℕ) → IsAccepted m key outline (outboard_nodes outline) → HasFault (IsFirstFault m key outline (outboard_nodes outline)) → ⊥
  no_fault key outline accepted fault = first_fault-not_accepted m key outline (outboard_nodes outline) fault.0 fault.2 accepted

  not_refused : (sure : Type 0) (task : Task) → LacksFile at m task → IsRefused sure at m task → ⊥
  not_refused sure (Hash from count file) lacks refused = absurd refused
  not_refused sure (Encode encoding file out) lacks refused = absurd refused
  not_refused sure (CutSlice root start len None file out) lacks refused = refused.1.1.0 lacks
  not_refused sure (CutSlice root start len (Some outboard) file out) (inl lacks) refused = refused.1.1.0 lacks
  not_refused sure (CutSlice root start len (Some outboard) file out) (inr lacks) refused = refused.1.1.2 lacks
  not_refused sure (Decode root part file out) lacks refused = refused.1.1.0 lacks
  not_refused sure (DecodeCopy root outboard copy out) (inl lacks) refused = refused.1.1.0 lacks
  not_refused sure (DecodeCopy root outboard copy out) (inr lacks) refused =
      no_fault refused.0 lacks.1.0 (lacks.1.2 refused.0 refused.1.0) (refused.1.1.2 lacks.0 lacks.1.0 lacks.1.1)
  not_refused sure (Gather task) lacks refused = absurd lacks
  not_refused sure (Replay root capacity script files) lacks refused = elim refused.1.1.1 [
    | inl stopped ↦ none_of (at script.now) stopped.0 lacks stopped.2
    | inr fault ↦ none_of (at script.now) fault.2.0 lacks fault.2.2
  ]

  but_list : (after : List ℕ → FileState) (list : Option (Bor (List ℕ))) → list ≡ None → KeepsButList at after list → KeepsFiles at after
  but_list after None is (inl kept) = kept
  but_list after None is (inr listed) = listed.1
  but_list after (Some list) is left = absurd (let no = is in cc)

  no_list : (task : Task) → LacksFile at m task → list_of task ≡ None
  no_list (Hash from count file) lacks = refl
  no_list (Encode encoding file out) lacks = refl
  no_list (CutSlice root start len outboard file out) lacks = refl
  no_list (Decode root part file out) lacks = refl
  no_list (DecodeCopy root outboard copy out) lacks = refl
  no_list (Gather task) lacks = absurd lacks
  no_list (Replay root capacity script files) lacks = refl

  left_in : (after : List ℕ → FileState) (task : Task) (fault : Fault) → LacksFile at m task → LeavesFiles at after m task fault → KeepsFiles at after
  left_in after task fault lacks (inl but) = but_list after (list_of task) (no_list task lacks) but
  left_in after task fault lacks (inr did) = absurd (not_right task did.1.0 lacks did.1.1)

module _ (at : List ℕ → FileState) (words : List Text) (after : List ℕ → FileState) (old new : Option (List ℕ))
    (asked : (request : Request) (mode : Mode) → AsksFor words request → HasMode at request mode → LacksFile at mode request.task) (work : ¬ AsksForHelp words) where
  pub never_done : Done words at after old new → ⊥
  never_done (inl help) = work help.0
  never_done (inr done) = not_right at done.2.0 done.0.task done.2.1 (asked done.0 done.2.0 done.1 done.2.2) done.2.4

  pub never_refused : (sure : Type 0) → IsRefusable words sure at → ⊥
  never_refused sure refused = not_refused at refused.2.0 sure refused.0.task (asked refused.0 refused.2.0 refused.1 refused.2.1) refused.2.2

  left_by : (request : Request) (fault : Fault) → AsksFor words request → LeavesFilesOf at after request fault → KeepsFiles at after
  left_by request fault asks (inl kept) = kept
  left_by request fault asks (inr left) = left_in at left.2.0 after request.task fault (asked request left.2.0 asks left.2.1) left.2.2

  pub all_kept : (status : ℕ) → LeavesAt words at after status → KeepsFiles at after
  all_kept status (inl kept) = kept
  all_kept status (inr left) = left_by left.0 left.2.0 left.1 left.2.2

  pub never_begun : Begun words at after old new → Keeps old new
  never_begun (inl kept) = kept
  never_begun (inr (inl help)) = absurd (work help)
  never_begun (inr (inr begun)) = absurd (not_right at begun.2.0 begun.0.task begun.2.1 (asked begun.0 begun.2.0 begun.1 begun.2.2) begun.2.4)
