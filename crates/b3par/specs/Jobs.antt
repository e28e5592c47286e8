-- The jobs of a pool: the subtrees that one thread hashes or encodes at a time.
use Rattle.std.specs.Prelude.{◌≡◌, ℕ, ◌+◌, ◌-◌, ◌*◌, ◌^◌, ◌≤◌, List, Option, None, [], IfErr, IfOk, IfSome, map, max, min, slice_index_or}
use Rattle.std.specs.Int.{div_ceil}
use Rattle.std.specs.List.{range_with_len}
use Rattle.b3tree.specs.declared.mode.Mode.{Mode}
use Rattle.bao_text.specs.declared.choice.Choice.{Choice}
use Rattle.b3par.specs.declared.fault.ReadFault.TheVariants.{Reader}
use Rattle.b3par.specs.declared.jobs.Job.{Job}
use Rattle.b3par.specs.declared.jobs.Answer.{Answer}
use Rattle.b3par.specs.Encodings.{GainsText}
use Rattle.b3par.specs.Given.{Lacks}

-- how many jobs of at most job_len bytes n bytes are cut into: at least one
abbrev pub job_count : ℕ → ℕ → ℕ
job_count job_len n = max 1 (div_ceil n job_len)

-- the job with this number, if so many bytes are cut into jobs of so many chunks
abbrev pub job_with : ℕ → ℕ → ℕ → Job
job_with chunks len number = record {
  number = number;
  first = chunks * number;
  len = min (1024 * chunks) (len - 1024 * (chunks * number));
}

-- the first so many jobs, in order
abbrev pub jobs_below : ℕ → ℕ → ℕ → List Job
jobs_below chunks len count = map (job_with chunks len) (range_with_len 0 count)

-- the job's bytes are within the bytes that a tree can have
abbrev pub IsJob : Job → Type 0
IsJob job = 1024 * job.first + job.len ≤ 2 ^ 64 - 1

-- The answer has what the choice wants of the job's bytes of the contents; or such a source lacks one of them,
-- or there was no memory.
abbrev pub IsJobAnswer : Option (List ℕ) → Type 0 → Choice → Mode → Answer → Type 0
IsJobAnswer contents faultless choice mode answer =
    IfOk answer.made (λ made. GainsText contents choice mode answer.job.first answer.job.len [] made.text.items made.top)
    × IfErr answer.made (λ fault. fault ≡ Reader → Lacks contents faultless (1024 * answer.job.first + answer.job.len))

-- P holds of each answer in the slots
abbrev pub AllThere : (Answer → Type 0) → List (Option Answer) → Type 0
AllThere P slots = (i : ℕ) → IfSome (slice_index_or slots i None) P
