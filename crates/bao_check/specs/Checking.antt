-- What a check of an arriving encoding has accepted, and its verdict.
use Rattle.std.specs.Prelude.{◌≡◌, ℕ, ◌^◌, ◌<◌, ◌≤◌, List, [], ◌++◌, length, nat_eq, Bool, false, Option, Some, if◌then◌else◌}
use Rattle.bao_check.specs.declared.checking.Checking.{Checking}
use Rattle.bao_check.specs.declared.fault.CheckFault.{CheckFault}
use Rattle.bao_check.specs.declared.fault.CheckFault.TheVariants.{Short, Mismatch, Trailing, Memory, Reader}
use Rattle.bao_check.specs.Decoded.{chunk_bytes, decoded, waiting_kinds}
use Rattle.bao_check.specs.Waiting.{CheckTask, IsFaultAs, WaitsIn, chunk_waits, next_size}

-- the slice, root and mode that an encoding is checked against
abbrev pub task_of : Checking → CheckTask
task_of check = record { mode = check.mode; root = check.root.0; start = check.start; len = check.len }

-- how many bytes it needs next, if any: first the 8 of the length
abbrev pub wanted : Checking → Option ℕ
wanted check = if nat_eq check.at 0 then Some 8 else next_size check.waiting.items

-- whether these bytes are a chunk
abbrev pub chunk_wanted : Checking → Bool
chunk_wanted check = if nat_eq check.at 0 then false else chunk_waits check.waiting.items

-- The check is of this task, and has accepted these bytes, all of them good.
pub record HasTakenAs (check : Checking) (task : CheckTask) (taken : List ℕ) : Type 0 where
  pub task_is : task_of check ≡ task
  pub at_is : check.at ≡ length taken
  pub waits : 0 < check.at → (more : List ℕ) → WaitsIn task check.choice check.waiting.items (taken ++ more) (length taken)

-- Why a node is refused that would complete these bytes: it is the first fault of every encoding that begins
-- with them, or there would be more bytes than can be counted.
abbrev pub IsNodeFault : CheckTask → List ℕ → CheckFault → Type 0
IsNodeFault task text (Short at) = ⊥
IsNodeFault task text (Mismatch at) = (more : List ℕ) → IsFaultAs task (text ++ more) (Mismatch at)
IsNodeFault task text (Trailing at) = ⊥
IsNodeFault task text Memory = 2 ^ 64 ≤ length text
IsNodeFault task text Reader = ⊥

-- The check has accepted the encoding's first bytes, and these are the bytes of the blob among them.
pub record HasDecodedAs (check : Checking) (task : CheckTask) (taken bytes : List ℕ) : Type 0 where
  pub has_taken : HasTakenAs check task taken
  pub begins : check.at ≡ 0 → bytes ≡ []
  pub decodes : 0 < check.at → (more : List ℕ)
      → decoded (taken ++ more) task.start task.len ≡ bytes ++ chunk_bytes (waiting_kinds check.choice check.waiting.items) more
