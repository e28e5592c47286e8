-- Inputs are equal or not.
use Rattle.std.proofs.Common.{◌≡◌, ◌≢◌, ◌⊎◌, ℕ, List, [], ◌∷◌, refl, ap, arith, inl, inr, get_or, length, drop}
use Rattle.std.proofs.lemmas.Bool.{cases_eq}
use Rattle.b3word.specs.declared.input.Input.{Input}

same_list : (xs ys : List ℕ) → (xs ≡ ys) ⊎ (xs ≢ ys)
same_list [] [] = inl refl
same_list [] (y ∷ ys) = inr (λ e. let n : 0 ≡ length (y ∷ ys) = ap length e in omega arith)
same_list (x ∷ xs) [] = inr (λ e. let n : length (x ∷ xs) ≡ 0 = ap length e in omega arith)
same_list (x ∷ xs) (y ∷ ys) = elim (cases_eq x y) [
  | inr differ ↦ inr (λ e. differ (ap (λ (zs : List ℕ). get_or zs 0 0) e))
  | inl head ↦
      elim (same_list xs ys) [
        | inr differ ↦ inr (λ e. differ (ap (drop 1) e))
        | inl tail ↦ inl (λ i. head i ∷ tail i)
      ]
]

pub same_input : (x y : Input) → (x ≡ y) ⊎ (x ≢ y)
same_input x y = elim (same_list x.h y.h) [
  | inr differ ↦ inr (λ e. differ (λ i. (e i).h))
  | inl h ↦
      elim (same_list x.m y.m) [
        | inr differ ↦ inr (λ e. differ (λ i. (e i).m))
        | inl m ↦
            elim (cases_eq x.t y.t) [
              | inr differ ↦ inr (λ e. differ (λ i. (e i).t))
              | inl t ↦
                  elim (cases_eq x.b y.b) [
                    | inr differ ↦ inr (λ e. differ (λ i. (e i).b))
                    | inl b ↦
                        elim (cases_eq x.d y.d) [
                          | inr differ ↦ inr (λ e. differ (λ i. (e i).d))
                          | inl d ↦ inl (λ i. record { h = h i; m = m i; t = t i; b = b i; d = d i })
                        ]
                  ]
            ]
      ]
]
