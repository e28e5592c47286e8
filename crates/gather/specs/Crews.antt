-- What crews did: each one's worker, and all of them together.
use Rattle.std.specs.Prelude.{◌≡◌, ℕ, ◌<◌, ◌^◌, ◌-◌, List, Some, length, min, slice_get, slice_index_or}
use Rattle.std.specs.List.{list_any, sum_by}
use Rattle.gather.specs.declared.crew.Crew.{Crew}
use Rattle.gather.specs.declared.report.Report.{Report}
use Rattle.gather.specs.Claims.{Among}
use Rattle.gather.specs.Seats.{GoneOn, claims_of, fixed_of}
use Rattle.gather.specs.Counts.{Reports, no_counts}
use Rattle.holders.specs.Holders.{AreLater, IsHanded}
use Rattle.holders.specs.declared.piece.Piece.{Piece}
use Rattle.store_shared.specs.declared.assembly.Assembly.{Assembly}
use Rattle.store_shared.specs.Seats.{IsSeatOf}

-- two lists are as long as each other, and their elements at each place stand to each other so
pub record Each {C : Type 0} (R : C → C → Type 0) (old new : List C) : Type 0 where
  pub len : length new ≡ length old
  pub each : (i : ℕ) (d : C) → i < length old → R (slice_index_or old i d) (slice_index_or new i d)

-- the piece is one that a holder of one of these crews may give
pub record IsHandedTo {H : Type 0} (gives : H → ℕ → ℕ → List ℕ → Type 0) (crews : List (Crew H)) (piece : Piece) : Type 0 where
  pub number : ℕ
  pub crew : Crew H
  pub there : slice_get crews number ≡ Some crew
  pub handed : IsHanded gives crew.holders.items piece

-- how many device faults a crew's holders counted together
abbrev pub faults_of : {H : Type 0} → (H → ℕ) → Crew H → ℕ
faults_of count crew = sum_by count crew.holders.items

-- and all crews' holders
abbrev pub all_faults : {H : Type 0} → (H → ℕ) → List (Crew H) → ℕ
all_faults count crews = sum_by (faults_of count) crews

-- A worker of a shared store did what its report gained from what it was: its seat is one of the store's still, the
-- chunks and parents that are counted are those of its own calls, of pieces that its holders may have given, it claims
-- nothing more, and each of its holders stands where it stood.
pub record WorkedFrom {H : Type 0} (assembly : Assembly) (gives : H → ℕ → ℕ → List ℕ → Type 0) (count : H → ℕ) (report : Report) (old new : Crew H) : Type 0 where
  pub of : IsSeatOf assembly new.seat
  pub reports : Reports fixed_of GoneOn old.seat new.seat (IsHanded gives old.holders.items) (IsHanded gives new.holders.items) (faults_of count old) (faults_of count new) report new.report
  pub claimed : Among (claims_of old.seat) (claims_of new.seat)
  pub holders : AreLater gives old.holders.items new.holders.items

-- its report is begun anew
abbrev pub Worked : {H : Type 0} → Assembly → (H → ℕ → ℕ → List ℕ → Type 0) → (H → ℕ) → Crew H → Crew H → Type 0
Worked assembly gives count old new = WorkedFrom assembly gives count no_counts old new

-- or it goes on
abbrev pub WorkedOn : {H : Type 0} → Assembly → (H → ℕ → ℕ → List ℕ → Type 0) → (H → ℕ) → Crew H → Crew H → Type 0
WorkedOn assembly gives count old new = WorkedFrom assembly gives count old.report old new

-- a sum over crews, which stays at 2^64 - 1 once there
abbrev pub summed : {H : Type 0} → (Report → ℕ) → List (Crew H) → ℕ
summed f crews = min (sum_by (λ crew. f crew.report) crews) (2 ^ 64 - 1)

-- the sums of their reports
abbrev pub all_of : {H : Type 0} → List (Crew H) → Report
all_of crews = record {
  committed = summed (λ (report : Report). report.committed) crews;
  parents = summed (λ (report : Report). report.parents) crews;
  asked = summed (λ (report : Report). report.asked) crews;
  refused = summed (λ (report : Report). report.refused) crews;
  failed = summed (λ (report : Report). report.failed) crews;
  memory = summed (λ (report : Report). report.memory) crews;
  too_large = list_any (λ crew. crew.report.too_large) crews;
}
