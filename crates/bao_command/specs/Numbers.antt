-- the numbers of the faults whose text has one
use Rattle.std.specs.Prelude.{ℕ, Option, None}
use Rattle.bao_files.specs.Faults.{number_of as file_number_of}
use Rattle.bao_decode.specs.DecodeFaults.{decode_number_of}
use Rattle.bao_tasks.specs.GatheredFaults.{gathered_number_of}
use Rattle.bao_tasks.specs.RerunFaults.{rerun_number_of}
use Rattle.bao_command.specs.declared.fault.Fault.{Fault}
use Rattle.bao_command.specs.declared.fault.Fault.TheVariants.{File, Decode, Gather, Replay}

abbrev pub number_of : Fault → Option ℕ
number_of (File fault) = file_number_of fault
number_of (Decode fault) = decode_number_of fault
number_of (Gather fault unlisted) = gathered_number_of fault
number_of (Replay fault) = rerun_number_of fault
number_of fault = None
