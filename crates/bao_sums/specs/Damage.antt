-- Which groups of 64 chunks a file lacks, by an outboard file beside it.
use Rattle.std.specs.Prelude.{◌≡◌, ℕ, ◌+◌, ◌-◌, ◌*◌, ◌/◌, ◌≤◌, min, Bool, if◌then◌else◌, List, [], ◌∷◌, ◌++◌, length, codes, Option, Some, None, unwrap_or}
use Rattle.std.specs.Fmt.{decimal}
use Rattle.b3tree.specs.declared.mode.Mode.{Mode}
use Rattle.bao_text.specs.Choice.{chunk_count}
use Rattle.bao_text.specs.Cut.{claimed}
use Rattle.bao_decode.specs.Damage.{IsOutlineOf, JudgesSlice}
use Rattle.bao_files.specs.Disks.{FileState, Unknown, Absent, Stored}
use Rattle.bao_sums.specs.Sums.{shown}

-- how many groups a blob of n bytes has
abbrev pub group_count : ℕ → ℕ
group_count n = (chunk_count n + 63) / 64

-- the length of a blob, and whether a file has its groups, one after another
pub record Damage : Type 0 where
  pub total : ℕ
  pub had : List Bool

-- a verdict on a group of the file, where the bytes of both are known
abbrev pub JudgesGroup : Type 0 → FileState → FileState → Mode → List ℕ → ℕ → Bool → Type 0
JudgesGroup faultless outboard file mode root g has =
    (outline bytes : List ℕ) → outboard ≡ Stored outline → file ≡ Stored bytes → JudgesSlice faultless mode root (65536 * g) 65536 outline bytes has

-- these are verdicts on the groups from group g on
abbrev pub AreJudged : (ℕ → Bool → Type 0) → ℕ → List Bool → Type 0
AreJudged Judges g [] = Unit {0}
AreJudged Judges g (has ∷ had) = Judges g has × AreJudged Judges (g + 1) had

-- the outboard file is accepted, as far as it is known what is there, and claims this length
abbrev pub ClaimsTotal : FileState → Mode → List ℕ → ℕ → Type 0
ClaimsTotal Unknown mode root total = Unit {0}
ClaimsTotal Absent mode root total = ⊥
ClaimsTotal (Stored outline) mode root total = IsOutlineOf mode root outline × (total ≡ claimed outline)

-- There is a verdict on each group. Or the outboard file isn't accepted, as far as the bytes of both are known, on a disk without faults.
abbrev pub IsDamageOf : Type 0 → FileState → FileState → Mode → List ℕ → Option Damage → Type 0
IsDamageOf faultless outboard file mode root (Some damage) =
    ClaimsTotal outboard mode root damage.total × (length damage.had ≡ group_count damage.total) × AreJudged (JudgesGroup faultless outboard file mode root) 0 damage.had
IsDamageOf faultless outboard file mode root None = faultless → (outline bytes : List ℕ) → outboard ≡ Stored outline → file ≡ Stored bytes → ¬ IsOutlineOf mode root outline

-- the same of the first groups, where a fault ends it
abbrev pub IsPartOf : Type 0 → FileState → FileState → Mode → List ℕ → Option Damage → Type 0
IsPartOf faultless outboard file mode root (Some damage) =
    ClaimsTotal outboard mode root damage.total × (length damage.had ≤ group_count damage.total) × AreJudged (JudgesGroup faultless outboard file mode root) 0 damage.had
IsPartOf faultless outboard file mode root None = Unit {0}

-- since which group a run of groups lasts that the file lacks, after the verdict on group g
abbrev pub run_after : Option ℕ → ℕ → Bool → Option ℕ
run_after since g has = if has then None else Some (unwrap_or since g)

-- the line of a run, if there is one, that ends before group g
abbrev pub run_line : (ℕ → ℕ → List ℕ) → Option ℕ → ℕ → List ℕ
run_line line None g = []
run_line line (Some first) g = line first g

-- the line that the verdict on group g ends
abbrev pub ended_line : (ℕ → ℕ → List ℕ) → Option ℕ → ℕ → Bool → List ℕ
ended_line line since g has = if has then run_line line since g else []

-- the lines of the runs of groups that the file lacks, by the verdicts on the groups from group g on
abbrev pub run_lines : (ℕ → ℕ → List ℕ) → Option ℕ → ℕ → List Bool → List ℕ
run_lines line since g [] = run_line line since g
run_lines line since g (has ∷ had) = ended_line line since g has ++ run_lines line (run_after since g has) (g + 1) had

-- the line of the groups from group `first` on, up to and without group `end`, of a blob of n bytes: the first byte, and how many
abbrev pub range_line : List ℕ → ℕ → ℕ → ℕ → List ℕ
range_line path n first end =
    shown path ++ (codes ": damaged: " ++ (decimal (65536 * first) ++ (codes " " ++ (decimal (min (65536 * end) n - 65536 * first) ++ codes "\n"))))

-- the path of the outboard file of a file
abbrev pub outboard_path : List ℕ → List ℕ
outboard_path path = path ++ codes ".obao"

abbrev pub damage_lines : List ℕ → Option Damage → List ℕ
damage_lines path None = []
damage_lines path (Some damage) = run_lines (range_line path damage.total) None 0 damage.had
