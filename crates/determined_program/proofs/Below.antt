-- What a line is of, where nothing is known of any file.
use Rattle.std.proofs.Common.{List, ℕ}
use Rattle.b3tree.specs.declared.mode.Mode.{Mode}
use Rattle.b3tree.specs.Valid.{AreBytes}
use Rattle.bao_command.specs.Tasks.{IsRight, Replays}
use Rattle.bao_files.specs.Disks.{Unknown}
use Rattle.bao_request.specs.declared.tasks.Task.{Task}
use Rattle.bao_request.specs.declared.tasks.Task.TheVariants.{Hash, Encode, CutSlice, Decode, DecodeCopy, Gather, Replay}

-- it is of bytes, but for a schedule
pub right_bytes : (mode : Mode) (task : Task) (bytes : List ℕ) → IsRight (λ _. Unknown) mode task bytes → ¬ Replays task → AreBytes bytes
right_bytes mode (Hash from length file) bytes right other = right
right_bytes mode (Encode encoding file out) bytes right other = right
right_bytes mode (CutSlice root start len outboard file out) bytes right other = right.0.1.1.1
right_bytes mode (Decode root part file out) bytes right other = right.1
right_bytes mode (DecodeCopy root outboard copy out) bytes right other = right.1.1.2
right_bytes mode (Gather task) bytes right other = right.1.0.0.1.2
right_bytes mode (Replay root capacity script files) bytes right other = absurd (other tt)
