-- What a fault of status 1 says of the files.
use Rattle.std.proofs.Common.{◌≡◌, ◌≢◌, ◌⊎◌, ◌∙◌, ℕ, List, length, Bor, Result, Err, inl, inr, ap, sym, arith}
use Rattle.b3tree.specs.declared.mode.Mode.{Mode}
use Rattle.b3tree.specs.declared.values.Hash.{Hash}
use Rattle.bao_check.specs.declared.fault.CheckFault.{CheckFault}
use Rattle.bao_files.specs.Disks.{Absent, FileState, Stored}
use Rattle.bao_files.specs.declared.fault.FileFault.TheVariants as files
use Rattle.bao_text.specs.declared.kinds.Part.{Part}
use Rattle.bao_text.specs.declared.kinds.Part.TheVariants.{Slice}
use Rattle.bao_text.specs.Choice.{chunk_count}
use Rattle.bao_text.specs.Cut.{claimed}
use Rattle.bao_check.specs.Accepted.{IsAccepted, outboard_nodes}
use Rattle.bao_check.specs.Bare.{IsBareFault}
use Rattle.bao_check.specs.Faults.{IsFirstFault}
use Rattle.bao_decode.specs.Copies.{BesideStops, IsOfOutboard}
use Rattle.bao_decode.specs.Opened.{IsNotThere}
use Rattle.bao_decode.specs.TextPass.{DecodeStops, IsTextFault, task_of_part}
use Rattle.bao_decode.specs.Weaving.{CutBesideStops, cut_beside}
use Rattle.bao_decode.specs.declared.decode_fault.DecodeFault.{DecodeFault}
use Rattle.bao_decode.specs.declared.decode_fault.DecodeFault.TheVariants as decode
use Rattle.bao_tasks.specs.Replayed.{IsRefusedRun, IsStoppedRun, OfFiles}
use Rattle.bao_tasks.specs.declared.rerun_fault.RerunFault.{RerunFault}
use Rattle.bao_tasks.specs.declared.rerun_fault.RerunFault.TheVariants as rerun
use Rattle.bao_script.specs.declared.fault.ReplayScriptFault.TheVariants as replay
use Rattle.bao_command.specs.Refused.{HasFault}
use Rattle.bao_check.specs.declared.fault.CheckFault.TheVariants as check
use Rattle.bao_script.specs.Scripts.{IsFirstRefused}
use Rattle.bao_command.specs.Status.{check_status_of, decode_status_of, rerun_status_of}
use Rattle.bao_command.specs.Tasks.{HasBadLine, IsNoCapacity}
use Rattle.bao_command.proofs.Telling.{file_is_no_usage, file_refuses_none}

-- one that isn't there isn't refused
pub not_there : (path : Bor (List ℕ)) (fault : DecodeFault) → decode_status_of fault ≡ 1 → IsNotThere path fault → ⊥
not_there path fault is (inl memory) = file_refuses_none files.Memory (ap decode_status_of (sym memory) ∙ is)
not_there path fault is (inr read) = file_refuses_none (files.Read path) (ap decode_status_of (sym read) ∙ is)

-- a text that is refused is there
pub is_there : (state : FileState) (path : Bor (List ℕ)) (fault : DecodeFault) → decode_status_of fault ≡ 1 → (state ≡ Absent → IsNotThere path fault) → state ≢ Absent
is_there state path fault is absent none = not_there path fault is (absent none)

module _ (mode : Mode) (root : List ℕ) (faultless : Type 0) where
  pub text_refused : (part : Part) (text : List ℕ) (file path : Bor (List ℕ)) (fault : DecodeFault) → decode_status_of fault ≡ 1
      → DecodeStops mode root part faultless text file path fault → HasFault (IsTextFault (task_of_part mode root part) text)
  text_refused part text file path (decode.File cause) is stops = absurd (file_refuses_none cause is)
  text_refused part text file path (decode.Check cause) is stops = (cause, is, stops)

  pub beside_refused : (start len : ℕ) (outline bytes : List ℕ) (outboard file path : Bor (List ℕ)) (fault : DecodeFault) → decode_status_of fault ≡ 1
      → CutBesideStops mode root start len faultless outline bytes outboard file path fault
      → HasFault (IsTextFault (task_of_part mode root (Slice start len)) (cut_beside outline bytes start len))
  beside_refused start len outline bytes outboard file path fault is (inl read) = absurd (file_refuses_none (files.Read outboard) (ap decode_status_of (sym read.0) ∙ is))
  beside_refused start len outline bytes outboard file path fault is (inr stops) =
      text_refused (Slice start len) (cut_beside outline bytes start len) file path fault is stops

  -- beside a copy that isn't there it is the outboard encoding that is refused
  pub outboard_refused : (state : FileState) (outboard copy : Bor (List ℕ)) (fault : DecodeFault) → decode_status_of fault ≡ 1
      → IsNotThere copy fault ⊎ IsOfOutboard state mode root outboard fault → (outline : List ℕ) → state ≡ Stored outline
      → HasFault (IsFirstFault mode root outline (outboard_nodes outline))
  outboard_refused state outboard copy fault is (inl lacks) outline there = absurd (not_there copy fault is lacks)
  outboard_refused state outboard copy (decode.File cause) is (inr of) outline there = absurd (file_refuses_none cause is)
  outboard_refused state outboard copy (decode.Check cause) is (inr of) outline there = (cause, is, of outline there)

  pub copy_refused : (outline bytes : List ℕ) (outboard file path : Bor (List ℕ)) (fault : DecodeFault) → decode_status_of fault ≡ 1
      → BesideStops mode root faultless outline bytes outboard file path fault
      → HasFault (λ f. IsFirstFault mode root outline (outboard_nodes outline) f
      ⊎ (IsAccepted mode root outline (outboard_nodes outline) × IsBareFault mode root outline 0 (chunk_count (claimed outline)) bytes f))
  copy_refused outline bytes outboard file path (decode.File cause) is stops = absurd (file_refuses_none cause is)
  copy_refused outline bytes outboard file path (decode.Check cause) is stops = (cause, is, stops)

-- a text that is refused is no wrong argument
pub check_is_no_usage : (fault : CheckFault) → check_status_of fault ≢ 2
check_is_no_usage (check.Short at) is = let two : 1 ≡ 2 = is in omega arith
check_is_no_usage (check.Mismatch at) is = let two : 1 ≡ 2 = is in omega arith
check_is_no_usage (check.Trailing at) is = let two : 1 ≡ 2 = is in omega arith
check_is_no_usage check.Memory is = let two : 4 ≡ 2 = is in omega arith
check_is_no_usage check.Reader is = let two : 3 ≡ 2 = is in omega arith

module _ (at : List ℕ → FileState) (mode : Mode) (root : Hash) (capacity : ℕ) (script : List ℕ) (files : List (Bor (List ℕ))) where
  abbrev pub Stopped : ℕ → Type 0
  Stopped number = OfFiles at script files (λ lines pieces. IsStoppedRun mode root capacity lines pieces number)

  abbrev pub BadLine : ℕ → Type 0
  BadLine number = OfFiles at script files (λ lines pieces. IsFirstRefused (length pieces) lines number)

  abbrev pub Refused : ℕ → CheckFault → Type 0
  Refused number fault = OfFiles at script files (λ lines pieces. IsRefusedRun mode root lines pieces number fault)

  pub replay_refused : {V : Type 0} (result : Result V RerunFault) (fault : RerunFault) → result ≡ Err fault → rerun_status_of fault ≡ 1
      → ((number : ℕ) → result ≡ Err (rerun.Replay (replay.Illegal number)) → Stopped number)
      → ((number : ℕ) (cause : CheckFault) → result ≡ Err (rerun.Replay (replay.Refused number cause)) → Refused number cause)
      → (number : ℕ) × (Stopped number ⊎ HasFault (Refused number))
  replay_refused result (rerun.File cause) of is stopped refused = absurd (file_refuses_none cause is)
  replay_refused result (rerun.Script line) of is stopped refused = let bad : 2 ≡ 1 = is in absurd (omega arith)
  replay_refused result (rerun.Replay (replay.Refused number cause)) of is stopped refused = (number, inr (cause, is, refused number cause of))
  replay_refused result (rerun.Replay (replay.Illegal number)) of is stopped refused = (number, inl (stopped number of))
  replay_refused result (rerun.Replay replay.Capacity) of is stopped refused = let bad : 2 ≡ 1 = is in absurd (omega arith)
  replay_refused result (rerun.Replay replay.Cutting) of is stopped refused = let bad : 4 ≡ 1 = is in absurd (omega arith)
  replay_refused result (rerun.Replay replay.Replaying) of is stopped refused = let bad : 4 ≡ 1 = is in absurd (omega arith)
  replay_refused result (rerun.Replay replay.Memory) of is stopped refused = let bad : 4 ≡ 1 = is in absurd (omega arith)

  -- so it is of one of the arguments: the capacity, or the script
  pub replay_usage : {V : Type 0} (result : Result V RerunFault) (fault : RerunFault) → result ≡ Err fault → rerun_status_of fault ≡ 2
      → ((number : ℕ) → result ≡ Err (rerun.Script number) → BadLine number)
      → (result ≡ Err (rerun.Replay replay.Capacity) → IsNoCapacity capacity)
      → IsNoCapacity capacity ⊎ HasBadLine at script files
  replay_usage result (rerun.File cause) of is bad none = absurd (file_is_no_usage cause is)
  replay_usage result (rerun.Script line) of is bad none = inr (line, bad line of)
  replay_usage result (rerun.Replay (replay.Refused number cause)) of is bad none = absurd (check_is_no_usage cause is)
  replay_usage result (rerun.Replay (replay.Illegal number)) of is bad none = let two : 1 ≡ 2 = is in absurd (omega arith)
  replay_usage result (rerun.Replay replay.Capacity) of is bad none = inl (none of)
  replay_usage result (rerun.Replay replay.Cutting) of is bad none = let two : 4 ≡ 2 = is in absurd (omega arith)
  replay_usage result (rerun.Replay replay.Replaying) of is bad none = let two : 4 ≡ 2 = is in absurd (omega arith)
  replay_usage result (rerun.Replay replay.Memory) of is bad none = let two : 4 ≡ 2 = is in absurd (omega arith)
