-- How many jobs so many bytes have, by how a job compares with a share of 256.
use Rattle.std.proofs.Common.{◌≡◌, ℕ, ◌+◌, ◌*◌, ◌<◌, ◌≤◌, max, arith, ◌∙◌, inl, inr, subst, sym}
use Rattle.std.specs.Int.{IsPowerOfTwo, div_ceil}
use Rattle.std.proofs.lemmas.Bool.{cases_lt}
use Rattle.std.proofs.lemmas.Grind.{div_ceil_times}
use Rattle.std.proofs.lemmas.Nat.{mul-le}
use Rattle.b3par.specs.Jobs.{job_count}

-- no more than 256, where the share is no larger
pub few_jobs : (len share chunks : ℕ) → 0 < chunks → share ≡ div_ceil len 262144 → share ≤ chunks → job_count (1024 * chunks) len ≤ 256
few_jobs len share chunks some is above =
    let jobs : ℕ = div_ceil len (1024 * chunks) in
    let all : len ≤ share * 262144 = subst (λ (n : ℕ). len ≤ n * 262144) (sym is) (div_ceil_times len 262144 (omega arith)).0 in
    let last : jobs * (1024 * chunks) < len + 1024 * chunks = (div_ceil_times len (1024 * chunks) (omega (arith, some))).1 in
    elim (cases_lt 256 jobs) [
      | inl more ↦
          let most : 257 * (1024 * chunks) ≤ jobs * (1024 * chunks) = mul-le 257 (1024 * chunks) jobs (1024 * chunks) (omega (arith, more)) (omega arith) in
          absurd (omega (arith, all, last, most, above))
      | inr few ↦ omega (arith, few)
    ]

-- more than 256, where it is larger
pub many_jobs : (len share chunks : ℕ) → 0 < chunks → share ≡ div_ceil len 262144 → chunks < share → 256 < job_count (1024 * chunks) len
many_jobs len share chunks some is below =
    let jobs : ℕ = div_ceil len (1024 * chunks) in
    let last : share * 262144 < len + 262144 = subst (λ (n : ℕ). n * 262144 < len + 262144) (sym is) (div_ceil_times len 262144 (omega arith)).1 in
    let all : len ≤ jobs * (1024 * chunks) = (div_ceil_times len (1024 * chunks) (omega (arith, some))).0 in
    elim (cases_lt 256 jobs) [
      | inl more ↦ omega (arith, more)
      | inr few ↦
          let most : jobs * (1024 * chunks) ≤ 256 * (1024 * chunks) = mul-le jobs (1024 * chunks) 256 (1024 * chunks) few (omega arith) in
          absurd (omega (arith, all, last, most, below))
    ]

-- a power of two that is raised to 64 is one
pub raised_power : (n : ℕ) → IsPowerOfTwo n → IsPowerOfTwo (max n 64)
raised_power n power = elim (cases_lt n 64) [
  | inl less ↦ (6, omega (arith, less))
  | inr more ↦ let same : max n 64 ≡ n = omega (arith, more) in (power.0, same ∙ power.1)
]
