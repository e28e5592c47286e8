-- Verdicts on groups, as threads come to them.
use Rattle.std.specs.Prelude.{◌≡◌, ℕ, ◌+◌, ◌-◌, ◌*◌, min, Bool, List, length, Option}
use Rattle.b3tree.specs.declared.mode.Mode.{Mode}
use Rattle.bao_decode.specs.Damage.{JudgesSliceOf}
use Rattle.bao_sums.specs.Damage.{AreJudged}

-- a verdict on a group of two sources
abbrev pub JudgesGroupOf : Type 0 → Option (List ℕ) → Option (List ℕ) → Mode → List ℕ → ℕ → Bool → Type 0
JudgesGroupOf faultless outline copy mode root g has = JudgesSliceOf faultless mode root (65536 * g) 65536 outline copy has

-- the first group of a share of 64 of the groups from `first` on, up to and without `end`
abbrev pub share_start : ℕ → ℕ → ℕ → ℕ
share_start first end share = min (first + share * 64) end

-- these are the verdicts on a share
abbrev pub IsShare : (ℕ → Bool → Type 0) → ℕ → ℕ → ℕ → List Bool → Type 0
IsShare Judges first end share had = (length had ≡ share_start first end (share + 1) - share_start first end share) × AreJudged Judges (share_start first end share) had
