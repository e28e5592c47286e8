-- the exit status of each fault: 1 for a text or a blob that is refused, 2 for usage, 3 for a file, 4 out of memory
use Rattle.std.specs.Prelude.{ℕ}
use Rattle.bao_command.specs.declared.fault.Fault.{Fault}
use Rattle.bao_command.specs.declared.fault.Fault.TheVariants.{File, Decode, Gather, Replay}
use Rattle.bao_check.specs.declared.fault.CheckFault.{CheckFault}
use Rattle.bao_check.specs.declared.fault.CheckFault.TheVariants as check
use Rattle.bao_decode.specs.declared.decode_fault.DecodeFault.{DecodeFault}
use Rattle.bao_decode.specs.declared.decode_fault.DecodeFault.TheVariants as decode
use Rattle.bao_files.specs.declared.fault.FileFault.{FileFault}
use Rattle.bao_files.specs.declared.fault.FileFault.TheVariants as file
use Rattle.bao_tasks.specs.declared.gathered_fault.GatheredFault.{GatheredFault}
use Rattle.bao_tasks.specs.declared.gathered_fault.GatheredFault.TheVariants as gathered
use Rattle.bao_tasks.specs.declared.rerun_fault.RerunFault.{RerunFault}
use Rattle.bao_tasks.specs.declared.rerun_fault.RerunFault.TheVariants as rerun
use Rattle.bao_windows.specs.declared.fault.GatherFault.{GatherFault}
use Rattle.bao_windows.specs.declared.fault.GatherFault.TheVariants as gather
use Rattle.bao_script.specs.declared.fault.ReplayScriptFault.{ReplayScriptFault}
use Rattle.bao_script.specs.declared.fault.ReplayScriptFault.TheVariants as replay

abbrev pub file_status_of : FileFault → ℕ
file_status_of (file.Read path) = 3
file_status_of (file.Write path) = 3
file_status_of file.Output = 3
file_status_of file.Encoding = 4
file_status_of file.Memory = 4

abbrev pub check_status_of : CheckFault → ℕ
check_status_of (check.Short at) = 1
check_status_of (check.Mismatch at) = 1
check_status_of (check.Trailing at) = 1
check_status_of check.Memory = 4
check_status_of check.Reader = 3

abbrev pub decode_status_of : DecodeFault → ℕ
decode_status_of (decode.File fault) = file_status_of fault
decode_status_of (decode.Check fault) = check_status_of fault

abbrev pub gather_status_of : GatherFault → ℕ
gather_status_of gather.TooLarge = 1
gather_status_of gather.Unfinished = 1
gather_status_of gather.NotTheRoot = 1
gather_status_of gather.Memory = 4
gather_status_of gather.Starved = 4

abbrev pub gathered_status_of : GatheredFault → ℕ
gathered_status_of (gathered.File fault) = file_status_of fault
gathered_status_of (gathered.Outboard fault) = check_status_of fault
gathered_status_of (gathered.Gather fault) = gather_status_of fault

abbrev pub replay_status_of : ReplayScriptFault → ℕ
replay_status_of (replay.Refused line fault) = check_status_of fault
replay_status_of (replay.Illegal line) = 1
replay_status_of replay.Capacity = 2
replay_status_of replay.Cutting = 4
replay_status_of replay.Replaying = 4
replay_status_of replay.Memory = 4

abbrev pub rerun_status_of : RerunFault → ℕ
rerun_status_of (rerun.File fault) = file_status_of fault
rerun_status_of (rerun.Script line) = 2
rerun_status_of (rerun.Replay fault) = replay_status_of fault

abbrev pub status_of : Fault → ℕ
status_of (File fault) = file_status_of fault
status_of (Decode fault) = decode_status_of fault
status_of (Gather fault unlisted) = gathered_status_of fault
status_of (Replay fault) = rerun_status_of fault
status_of fault = 2
