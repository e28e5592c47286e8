-- A verdict more is counted.
use Rattle.std.proofs.Common.{◌≡◌, ◌∙◌, ℕ, zero, suc, ◌+◌, ◌<◌, ◌≤◌, Bool, true, false, cond, List, [], ◌∷◌, ◌++◌, length, get_or, refl, sym, ap, subst, inl, inr, arith}
use Rattle.std.proofs.lemmas.Bool.{cases_lt}
use Rattle.std.proofs.lemmas.List.{get_or_append_left, get_or_push, length_push}
use Rattle.std.proofs.lemmas.List.Sums.{count_by-le-length, sum_by_push}
use Rattle.std.specs.List.{count_by}
use Rattle.bao_tasks.specs.Worth.{JudgesGroup, Refuses}

-- with one more at their end, verdicts are right where they were, and there
judged_more : (good : ℕ → Type 0) (n : ℕ) (verdicts : List Bool) (b : Bool) → length verdicts ≡ n → ((g : ℕ) → g < n → JudgesGroup (get_or verdicts g false) (good g)) → JudgesGroup b (good n)
    → (g : ℕ) → g < n + 1 → JudgesGroup (get_or (verdicts ++ b ∷ []) g false) (good g)
judged_more good n verdicts b each before last g below = elim (cases_lt g n) [
  | inl earlier ↦
      let same : get_or (verdicts ++ b ∷ []) g false ≡ get_or verdicts g false = get_or_append_left verdicts (b ∷ []) false g (omega (arith, each, earlier)) in
      subst (λ (verdict : Bool). JudgesGroup verdict (good g)) (sym same) (before g earlier)
  | inr late ↦
      let here : n ≡ g = omega (arith, below, late) in
      let same : get_or (verdicts ++ b ∷ []) g false ≡ b = get_or_push verdicts b false g (each ∙ here) in
      subst (λ (verdict : Bool). JudgesGroup verdict (good g)) (sym same) (subst (λ (m : ℕ). JudgesGroup b (good m)) here last)
]

-- of no group none is refused
pub none : (good : ℕ → Type 0) → Refuses good 0 0
none good = record { verdicts = []; each = refl; judged = λ g below. absurd (omega (arith, below)); counted = refl }

-- of one group more, one more is where it isn't good
pub more : (good : ℕ → Type 0) (n k d : ℕ) (b : Bool) → JudgesGroup b (good n) → d ≡ cond b 1 0 → Refuses good n k → Refuses good (n + 1) (k + d)
more good n k d b judged is before = record {
  verdicts = before.verdicts ++ b ∷ [];
  each = length_push before.verdicts b ∙ ap (λ (m : ℕ). m + 1) before.each;
  judged = judged_more good n before.verdicts b before.each before.judged judged;
  counted = (λ i. before.counted i + is i) ∙ sym (sum_by_push (λ (verdict : Bool). cond verdict 1 0) before.verdicts b);
}

-- Where none of the groups after them is good, all of these are refused.
pub rest : (good : ℕ → Type 0) (n k m : ℕ) → ((g : ℕ) → n ≤ g → ¬ good g) → Refuses good n k → Refuses good (n + m) (k + m)
rest good n k zero bad before =
    let groups : n ≡ n + 0 = omega arith in
    let count : k ≡ k + 0 = omega arith in
    subst (λ (j : ℕ). Refuses good (n + 0) j) count (subst (λ (j : ℕ). Refuses good j k) groups before)
rest good n k (suc m) bad before =
    let groups : (n + m) + 1 ≡ n + suc m = omega arith in
    let count : (k + m) + 1 ≡ k + suc m = omega arith in
    let next : Refuses good ((n + m) + 1) ((k + m) + 1) = more good (n + m) (k + m) 1 true (bad (n + m) (omega arith)) refl (rest good n k m bad before) in
    subst (λ (j : ℕ). Refuses good (n + suc m) j) count (subst (λ (j : ℕ). Refuses good j ((k + m) + 1)) groups next)

-- no more are than there are groups
pub few : (good : ℕ → Type 0) (n k : ℕ) → Refuses good n k → k ≤ n
few good n k it =
    let most : count_by (λ (verdict : Bool). verdict) it.verdicts ≤ length it.verdicts = count_by-le-length (λ (verdict : Bool). verdict) it.verdicts in
    omega (arith, most, it.counted, it.each)
