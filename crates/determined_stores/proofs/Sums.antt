-- Sums of crews' reports.
use Rattle.std.proofs.Common.{◌≡◌, ℕ, ◌+◌, ◌-◌, ◌^◌, Bool, ◌||◌, List, [], ◌∷◌, map, min, refl, sym, ap, ◌∙◌}
use Rattle.std.proofs.lemmas.List.Sums.{sum_by-cons}
use Rattle.std.specs.List.{list_any, sum_by}
use Rattle.gather.specs.declared.crew.Crew.{Crew}
use Rattle.gather.specs.Crews.{all_of, summed}
use Rattle.gather.specs.declared.report.Report.{Report}

module _ {H : Type 0} where
  abbrev reports : List (Crew H) → List Report
  reports crews = map (λ crew. crew.report) crews

  by_reports : (f : Report → ℕ) (crews : List (Crew H)) → sum_by (λ (crew : Crew H). f crew.report) crews ≡ sum_by f (reports crews)
  by_reports f [] = refl
  by_reports f (x ∷ xs) =
      sum_by-cons (λ (crew : Crew H). f crew.report) x xs ∙ ap (λ (n : ℕ). f x.report + n) (by_reports f xs) ∙ sym (sum_by-cons f x.report (reports xs))

  any_reports : (p : Report → Bool) (crews : List (Crew H)) → list_any (λ (crew : Crew H). p crew.report) crews ≡ list_any p (reports crews)
  any_reports p [] = refl
  any_reports p (x ∷ xs) = ap (λ (b : Bool). p x.report || b) (any_reports p xs)

  same_sum : (f : Report → ℕ) (xs ys : List (Crew H)) → reports xs ≡ reports ys → summed f xs ≡ summed f ys
  same_sum f xs ys e = ap (λ (n : ℕ). min n (2 ^ 64 - 1)) (by_reports f xs ∙ ap (λ (rs : List Report). sum_by f rs) e ∙ sym (by_reports f ys))

  pub sums_agree : (xs ys : List (Crew H)) → reports xs ≡ reports ys → all_of xs ≡ all_of ys
  sums_agree xs ys e =
      let committed = same_sum (λ (r : Report). r.committed) xs ys e in
      let parents = same_sum (λ (r : Report). r.parents) xs ys e in
      let asked = same_sum (λ (r : Report). r.asked) xs ys e in
      let refused = same_sum (λ (r : Report). r.refused) xs ys e in
      let failed = same_sum (λ (r : Report). r.failed) xs ys e in
      let memory = same_sum (λ (r : Report). r.memory) xs ys e in
      let large : list_any (λ (crew : Crew H). crew.report.too_large) xs ≡ list_any (λ (crew : Crew H). crew.report.too_large) ys =
      any_reports (λ (r : Report). r.too_large) xs ∙ ap (λ (rs : List Report). list_any (λ (r : Report). r.too_large) rs) e ∙ sym (any_reports (λ (r : Report). r.too_large) ys) in
      λ i. record { committed = committed i; parents = parents i; asked = asked i; refused = refused i; failed = failed i; memory = memory i; too_large = large i }

  pub answers_agree : (xs ys : List (Crew H)) (r s : Report) → r ≡ all_of xs → s ≡ all_of ys → reports xs ≡ reports ys → r ≡ s
  answers_agree xs ys r s one other e = one ∙ sums_agree xs ys e ∙ sym other
