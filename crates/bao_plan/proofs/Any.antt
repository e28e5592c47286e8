-- Whether some number below n passes a test.
use Rattle.std.proofs.Common.{◌≡◌, ℕ, zero, suc, ◌+◌, ◌<◌, Bool, true, false, ◌||◌, refl, sym, ap, ◌∙◌, arith, add-one, inl, inr, ◌%◌, ◌/◌, ◌≤◌, ◌*◌}
use Rattle.std.proofs.lemmas.Bool.{or_cases, or_left, or_right, or_from, cases_eq, cases_Bool}
use Rattle.bao_plan.specs.declared.runs.Run.{Run}
use Rattle.bao_plan.specs.Sets.{IsRunOf, any_below, has_bit, is_some_bit}

pub any_none : (p : ℕ → Bool) → any_below 0 p ≡ false
unfolding any_below
any_none p = refl

pub any_more : (n : ℕ) (p : ℕ → Bool) → any_below (n + 1) p ≡ (any_below n p || p n)
unfolding any_below
any_more n p = rw add-one refl

any_suc : (n : ℕ) (p : ℕ → Bool) → any_below (suc n) p ≡ (any_below n p || p n)
unfolding any_below
any_suc n p = refl

pub any_from : (n i : ℕ) (p : ℕ → Bool) → i < n → p i ≡ true → any_below n p ≡ true
any_from zero i p below here = absurd (omega arith)
any_from (suc n) i p below here = any_suc n p ∙ (elim (cases_eq i n) [
  | inl e ↦ or_right _ _ (ap p (sym e) ∙ here)
  | inr ne ↦ or_left _ _ (any_from n i p (omega arith) here)
])

pub any_not : (n i : ℕ) (p : ℕ → Bool) → any_below n p ≡ false → i < n → p i ≡ false
any_not n i p none below = elim (cases_Bool (p i)) [
  | inl e ↦ absurd (let h : true ≡ false = sym (any_from n i p below e) ∙ none in cc)
  | inr e ↦ e
]

pub any_found : (n : ℕ) (p : ℕ → Bool) → any_below n p ≡ true → (i : ℕ) × (i < n) × (p i ≡ true)
any_found zero p some = absurd (let h : false ≡ true = sym (any_none p) ∙ some in cc)
any_found (suc n) p some = elim (or_cases _ _ (sym (any_suc n p) ∙ some)) [
  | inl front ↦ (let h = any_found n p front in (h.0, omega (arith, h.1), h.2))
  | inr last ↦ (n, omega arith, last)
]

pub any_none_of : (n : ℕ) (p : ℕ → Bool) → ((i : ℕ) → i < n → p i ≡ false) → any_below n p ≡ false
any_none_of zero p none = any_none p
any_none_of (suc n) p none = any_suc n p ∙ or_from _ _ (any_none_of n p (λ i below. none i (omega arith))) (none n (omega arith))

-- the tests may be replaced where they agree
pub any_same : (n : ℕ) (p q : ℕ → Bool) → ((i : ℕ) → i < n → p i ≡ q i) → any_below n p ≡ any_below n q
any_same zero p q same = any_none p ∙ sym (any_none q)
any_same (suc n) p q same = any_suc n p ∙ (ap (λ b. b || p n) (any_same n p q (λ i below. same i (omega arith))) ∙ (ap (λ b. any_below n q || b) (same n (omega arith)) ∙ sym (any_suc n q)))

-- no chunk passes the test, of the groups of a run whose mask is empty
pub no_bit : (group : ℕ) (x : Run) (test : ℕ → Bool) → IsRunOf group x test → is_some_bit x.mask ≡ false → (c : ℕ) → group ≤ c / 64 → c / 64 < x.end → test c ≡ false
no_bit group x test is none c from to = sym (is.bits c from to) ∙ any_not 64 (c % 64) (has_bit x.mask) none (omega arith)

-- and a mask that isn't empty has a chunk that passes it
pub some_bit : (mask g : ℕ) (test : ℕ → Bool) → ((c : ℕ) → c / 64 ≡ g → has_bit mask (c % 64) ≡ test c) → is_some_bit mask ≡ true → (c : ℕ) × (c / 64 ≡ g) × (test c ≡ true)
some_bit mask g test bits some =
    let f = any_found 64 (has_bit mask) some in
    let c : ℕ = 64 * g + f.0 in
    let place : c % 64 ≡ f.0 = omega (arith, f.1) in
    let group : c / 64 ≡ g = omega (arith, f.1) in
    (c, group, sym (bits c group) ∙ (ap (has_bit mask) place ∙ f.2))
