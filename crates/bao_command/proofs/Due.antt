-- Why a fault is due.
use Rattle.std.proofs.Common.{◌≡◌, ◌⊎◌, ℕ, List, Bor, Option, None, false, IfErr, IsErrAnd, Result, Ok, Err, inl, inr, refl, sym, subst}
use Rattle.bao_decode.specs.declared.decode_fault.DecodeFault.{DecodeFault}
use Rattle.bao_files.specs.Disks.{FileState}
use Rattle.bao_files.specs.declared.fault.FileFault.{FileFault}
use Rattle.bao_tasks.specs.declared.gathered_fault.GatheredFault.{GatheredFault}
use Rattle.bao_tasks.specs.declared.rerun_fault.RerunFault.{RerunFault}
use Rattle.bao_request.specs.declared.tasks.Request.{Request}
use Rattle.bao_request.specs.declared.tasks.Task.{Task}
use Rattle.bao_command.specs.declared.fault.Fault.{Fault}
use Rattle.bao_command.specs.Effects.{IsRelisted}
use Rattle.bao_command.specs.declared.fault.Fault.TheVariants.{Root, OutputRange, TooManyFiles, Decode, Gather, Replay}
use Rattle.bao_command.specs.Status.{rerun_status_of}
use Rattle.bao_command.specs.Tasks.{Decodes, Gathers, HasBadScript, HasManyFiles, HasNoCapacity, HasRoot, IsDue, IsOfFile, IsPastOutput, Replays}

-- one of a file is due whatever is asked for
file_is_due : (at : List ℕ → FileState) (request : Request) (fault : Fault) → IsOfFile fault → IsDue at request fault
file_is_due at request fault of = subst (IsDue at request) (sym of.1) tt

-- it is due for each request of the task
abbrev pub IsDueFor : (List ℕ → FileState) → Task → Fault → Type 0
IsDueFor at task fault = (request : Request) → request.task ≡ task → IsDue at request fault

pub file_due : (at : List ℕ → FileState) (task : Task) (result : Result Unit Fault) → IfErr result IsOfFile → IfErr result (IsDueFor at task)
file_due at task (Ok done) of = tt
file_due at task (Err fault) of = λ request same. file_is_due at request fault of

pub hash_due : (at : List ℕ → FileState) (task : Task) (Past : Type 0) (result : Result Unit Fault) → (Past → IsPastOutput task)
    → IfErr result (λ fault. IsOfFile fault ⊎ ((fault ≡ OutputRange) × Past)) → IfErr result (IsDueFor at task)
hash_due at task Past (Ok done) past due = tt
hash_due at task Past (Err fault) past (inl of) = λ request same. file_is_due at request fault of
hash_due at task Past (Err fault) past (inr due) = λ request same. subst (IsDue at request) (sym due.0) (subst IsPastOutput (sym same) (past due.1))

pub decode_due : (at : List ℕ → FileState) (task : Task) (NoRoot : Type 0) (result : Result Unit Fault) → (NoRoot → ¬ HasRoot task) → Decodes task
    → IfErr result (λ fault. IsOfFile fault ⊎ ((fault ≡ Root) × NoRoot) ⊎ ((cause : DecodeFault) × (fault ≡ Decode cause))) → IfErr result (IsDueFor at task)
decode_due at task NoRoot (Ok done) root decodes due = tt
decode_due at task NoRoot (Err fault) root decodes (inl of) = λ request same. file_is_due at request fault of
decode_due at task NoRoot (Err fault) root decodes (inr (inl due)) = λ request same.
    subst (IsDue at request) (sym due.0) (subst (λ (t : Task). ¬ HasRoot t) (sym same) (root due.1))
decode_due at task NoRoot (Err fault) root decodes (inr (inr due)) = λ request same. subst (IsDue at request) (sym due.1) (subst Decodes (sym same) decodes)

pub gather_due : (at : List ℕ → FileState) (task : Task) (NoRoot Many : Type 0) (result : Result Unit Fault) → (NoRoot → ¬ HasRoot task) → (Many → HasManyFiles task) → Gathers task
    → IfErr result (λ fault. IsOfFile fault ⊎ ((fault ≡ Root) × NoRoot) ⊎ ((fault ≡ TooManyFiles) × Many)
    ⊎ ((cause : GatheredFault) × (unlisted : Option FileFault) × (fault ≡ Gather cause unlisted)))
    → IfErr result (IsDueFor at task)
gather_due at task NoRoot Many (Ok done) root many gathers due = tt
gather_due at task NoRoot Many (Err fault) root many gathers (inl of) = λ request same. file_is_due at request fault of
gather_due at task NoRoot Many (Err fault) root many gathers (inr (inl due)) = λ request same.
    subst (IsDue at request) (sym due.0) (subst (λ (t : Task). ¬ HasRoot t) (sym same) (root due.1))
gather_due at task NoRoot Many (Err fault) root many gathers (inr (inr (inl due))) = λ request same.
    subst (IsDue at request) (sym due.0) (subst HasManyFiles (sym same) (many due.1))
gather_due at task NoRoot Many (Err fault) root many gathers (inr (inr (inr due))) = λ request same.
    subst (IsDue at request) (sym due.2)
    (subst Gathers (sym same) gathers)

pub replay_due : (at : List ℕ → FileState) (task : Task) (NoRoot Many Bad : Type 0) (result : Result Unit Fault) → (NoRoot → ¬ HasRoot task) → (Many → HasManyFiles task) → Replays task
    → (Bad → HasNoCapacity task ⊎ HasBadScript at task)
    → IfErr result (λ fault. IsOfFile fault ⊎ ((fault ≡ Root) × NoRoot) ⊎ ((fault ≡ TooManyFiles) × Many)
    ⊎ ((cause : RerunFault) × (fault ≡ Replay cause) × (rerun_status_of cause ≡ 2 → Bad)))
    → IfErr result (IsDueFor at task)
replay_due at task NoRoot Many Bad (Ok done) root many replays bad due = tt
replay_due at task NoRoot Many Bad (Err fault) root many replays bad (inl of) = λ request same. file_is_due at request fault of
replay_due at task NoRoot Many Bad (Err fault) root many replays bad (inr (inl due)) = λ request same.
    subst (IsDue at request) (sym due.0) (subst (λ (t : Task). ¬ HasRoot t) (sym same) (root due.1))
replay_due at task NoRoot Many Bad (Err fault) root many replays bad (inr (inr (inl due))) = λ request same.
    subst (IsDue at request) (sym due.0) (subst HasManyFiles (sym same) (many due.1))
replay_due at task NoRoot Many Bad (Err fault) root many replays bad (inr (inr (inr due))) = λ request same.
    subst (IsDue at request) (sym due.1)
    (subst (λ (t : Task). Replays t × (rerun_status_of due.0 ≡ 2 → HasNoCapacity t ⊎ HasBadScript at t)) (sym same) (replays, λ two. bad (due.2 two)))

-- no fault of another task is one of gathering
abbrev asked : Task → Request
asked task = record { key = None; key_file = None; context = None; verbose = false; task = task }

pub lists_none : (at after : List ℕ → FileState) (task : Task) (list : Option (Bor (List ℕ))) (result : Result Unit Fault) → ¬ Gathers task → IfErr result (IsDueFor at task)
    → IfErr result (IsRelisted at after list)
lists_none at after task list (Ok done) other due = tt
lists_none at after task list (Err fault) other due = λ cause is apart. absurd (other (subst (IsDue at (asked task)) is (due (asked task) refl)))

-- what is due for the task is so for the request
pub task_due : (at : List ℕ → FileState) (request : Request) (result : Result Unit Fault) → IfErr result (IsDueFor at request.task) → IfErr result (IsDue at request)
task_due at request (Ok done) due = tt
task_due at request (Err fault) due = due request refl

-- and for the mode
pub mode_due : (at : List ℕ → FileState) (request : Request) (result : Result Unit Fault) (fault : Fault) → IsErrAnd result (λ e. e ≡ fault) → IsDue at request fault
    → IfErr result (IsDue at request)
mode_due at request (Ok done) fault is due = tt
mode_due at request (Err e) fault is due = subst (IsDue at request) (sym is) due
