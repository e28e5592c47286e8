-- Files that are checked against the lines of a text.
use Rattle.std.specs.Prelude.{◌≡◌, ◌≢◌, ℕ, ◌<◌, ◌≤◌, ◌&&◌, Bool, true, false, if◌then◌else◌, List, [], ◌++◌, length, map, ◌⊎◌, codes, Option, None, Result, Ok, Err}
use Rattle.std.specs.Borrow.{Bor}
use Rattle.std.specs.List.{list_any}
use Rattle.std.specs.Io.KnownBytes.{Keeps}
use Rattle.b3tree.specs.declared.mode.Mode.{Mode}
use Rattle.b3tree.specs.Hashing.{hash}
use Rattle.bao_files.specs.Disks.{FileState, AreOf, IsStored}
use Rattle.bao_files.specs.declared.fault.FileFault.TheVariants.{Read, Memory}
use Rattle.bao_sums.specs.declared.verdict.Verdict.{Verdict}
use Rattle.bao_sums.specs.declared.verdict.Verdict.TheVariants.{Same, Other, Unread}
use Rattle.bao_sums.specs.declared.verdict.Tally.{Tally}
use Rattle.bao_sums.specs.declared.fault.SumsFault.{SumsFault}
use Rattle.bao_sums.specs.declared.fault.SumsFault.TheVariants.{File, TooLong, NoLine}
use Rattle.bao_sums.specs.Damage.{Damage, IsDamageOf, IsPartOf, damage_lines, outboard_path}
use Rattle.bao_sums.specs.Each.{PrintsEach, LeavesParts}
use Rattle.bao_sums.specs.Sums.{Sum, AreSums, shown}

-- the bytes of the file have this hash, or another; or it can't be read, as in `IsReadingOf`
abbrev pub IsVerdictOf : Type 0 → FileState → Mode → List ℕ → Verdict → Type 0
IsVerdictOf faultless state mode digest Same = (bytes : List ℕ) × AreOf state bytes × (hash mode bytes ≡ digest)
IsVerdictOf faultless state mode digest Other = (bytes : List ℕ) × AreOf state bytes × (hash mode bytes ≢ digest)
IsVerdictOf faultless state mode digest Unread = faultless → ¬ IsStored state

-- the same of the file that a line names
abbrev pub IsVerdictAt : Type 0 → (List ℕ → FileState) → Mode → Sum → Verdict → Type 0
IsVerdictAt faultless at mode sum verdict = IsVerdictOf faultless (at sum.path) mode sum.digest verdict

abbrev pub verdict_text : Verdict → List ℕ
verdict_text Same = codes ": OK\n"
verdict_text Other = codes ": FAILED\n"
verdict_text Unread = codes ": cannot read\n"

-- a quiet check leaves out the files that have their hash
abbrev pub is_left_out : Bool → Verdict → Bool
is_left_out quiet Same = quiet
is_left_out quiet verdict = false

-- what is printed of a line: its path and the verdict
abbrev pub verdict_line : Bool → Sum → Verdict → List ℕ
verdict_line quiet sum verdict = if is_left_out quiet verdict then [] else shown sum.path ++ verdict_text verdict

abbrev pub is_other : Verdict → Bool
is_other Other = true
is_other verdict = false

abbrev pub is_unread : Verdict → Bool
is_unread Unread = true
is_unread verdict = false

-- whether a file has another hash, and whether one can't be read
abbrev pub tally_of : List Verdict → Tally
tally_of verdicts = record { failed = list_any is_other verdicts; unread = list_any is_unread verdicts }

-- What came of a file: the verdict, and where it is damaged, if that is known.
pub record Outcome : Type 0 where
  pub verdict : Verdict
  pub damage : Option Damage

abbrev pub verdicts_of : List Outcome → List Verdict
verdicts_of outcomes = map (λ outcome. outcome.verdict) outcomes

-- what is known of the damage holds; it is looked for where a file has another hash, if ranges are asked for
abbrev pub HasDamage : (Option Damage → Type 0) → Bool → Option Damage → Type 0
HasDamage IsKnown false damage = damage ≡ None
HasDamage IsKnown true damage = IsKnown damage

abbrev pub IsOutcomeAt : Type 0 → (List ℕ → FileState) → Mode → Bool → Sum → Outcome → Type 0
IsOutcomeAt faultless at mode ranges sum outcome =
    IsVerdictAt faultless at mode sum outcome.verdict
    × HasDamage (IsDamageOf faultless (at (outboard_path sum.path)) (at sum.path) mode sum.digest) (ranges && is_other outcome.verdict) outcome.damage

-- the same where a fault may have ended it
abbrev pub IsPartAt : Type 0 → (List ℕ → FileState) → Mode → Bool → Sum → Outcome → Type 0
IsPartAt faultless at mode ranges sum outcome =
    IsVerdictAt faultless at mode sum outcome.verdict
    × HasDamage (IsPartOf faultless (at (outboard_path sum.path)) (at sum.path) mode sum.digest) (ranges && is_other outcome.verdict) outcome.damage

-- what is printed of a line: the verdict, and then where the file is damaged
abbrev pub check_line : Bool → Sum → Outcome → List ℕ
check_line quiet sum outcome = verdict_line quiet sum outcome.verdict ++ damage_lines sum.path outcome.damage

-- the bytes of a file, whose lines say this: at least one does, and the bytes are at most 64 MiB
pub record IsSumsFile (state : FileState) (sums : List Sum) : Type 0 where
  pub text : List ℕ
  pub are : AreOf state text
  pub short : length text ≤ 67108864
  pub says : AreSums text sums
  pub some : 0 < length sums

-- the file has more than 64 MiB
abbrev pub IsTooLong : FileState → Type 0
IsTooLong state = (text : List ℕ) × AreOf state text × (67108864 < length text)

-- Each file that a line names was checked, and what came of it was printed; or a fault left this.
abbrev pub Checks : Type 0 → (List ℕ → FileState) → Mode → Bor (List ℕ) → Bool → Bool → Option (List ℕ) → Option (List ℕ) → Result Tally SumsFault → Type 0
Checks faultless at mode path quiet ranges old new (Ok tally) =
    (sums : List Sum) × IsSumsFile (at path.now) sums × PrintsEach (IsOutcomeAt faultless at mode ranges) (check_line quiet) sums old new (λ outcomes. tally ≡ tally_of (verdicts_of outcomes))
Checks faultless at mode path quiet ranges old new (Err TooLong) = Keeps old new × IsTooLong (at path.now)
Checks faultless at mode path quiet ranges old new (Err NoLine) = Keeps old new × ((text : List ℕ) × AreOf (at path.now) text × AreSums text [])
Checks faultless at mode path quiet ranges old new (Err (File (Read unread))) = Keeps old new × (unread ≡ path) × (faultless → ¬ IsStored (at path.now))
Checks faultless at mode path quiet ranges old new (Err (File Memory)) =
    Keeps old new ⊎ ((sums : List Sum) × IsSumsFile (at path.now) sums × LeavesParts (IsPartAt faultless at mode ranges) (check_line quiet) sums old new Memory)
Checks faultless at mode path quiet ranges old new (Err (File fault)) =
    (sums : List Sum) × IsSumsFile (at path.now) sums × LeavesParts (IsPartAt faultless at mode ranges) (check_line quiet) sums old new fault
