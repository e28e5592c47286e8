-- What a file is worth is one.
use Rattle.std.proofs.Common.{◌≡◌, ℕ, ◌<◌, ◌^◌, Bool, true, false, List, Option, None, Some, IfSome, length, count_by, slice_index_or, get_or, Result, Ok, Err, IfOk, refl, sym, ap, ◌∙◌, arith}
use Rattle.std.proofs.lemmas.List.{get_or_default, same_lists}
use Rattle.bao_tasks.specs.declared.worth.Worth.{Worth}
use Rattle.bao_tasks.specs.Worth.{IsSaidOf, IsWorth, JudgesGroup, Refuses}

one_verdict : (x y : Bool) (P : Type 0) → JudgesGroup x P → JudgesGroup y P → x ≡ y
one_verdict true true P a b = refl
one_verdict false false P a b = refl
one_verdict true false P a b = absurd (a b)
one_verdict false true P a b = absurd (b a)

one_count : (good : ℕ → Type 0) (groups m n : ℕ) → Refuses good groups m → Refuses good groups n → m ≡ n
one_count good groups m n a b =
    let size : length a.verdicts ≡ length b.verdicts = a.each ∙ sym b.each in
    let at : (k : ℕ) (d : Bool) → k < length a.verdicts → get_or a.verdicts k d ≡ get_or b.verdicts k d =
    λ k d low. let within : k < groups = omega (arith, low, a.each) in
    get_or_default a.verdicts k d false low
    ∙ one_verdict (slice_index_or a.verdicts k false) (slice_index_or b.verdicts k false) (good k) (a.judged k within) (b.judged k within)
    ∙ get_or_default b.verdicts k false d (omega (arith, low, size)) in
    a.counted ∙ ap (count_by (λ verdict. verdict)) (same_lists a.verdicts b.verdicts size at) ∙ sym b.counted

same_worth : (a b : Worth) → a.groups ≡ b.groups → a.refused ≡ b.refused → a ≡ b
same_worth a b e f = λ i. record { groups = e i; refused = f i }

one_worth : (good : ℕ → Type 0) (groups : ℕ) (a b : Worth) → IsWorth good groups a → IsWorth good groups b → a ≡ b
one_worth good groups a b p q = same_worth a b (p.asked ∙ sym q.asked) (one_count good groups a.refused b.refused p.refuses q.refuses)

-- of sources of which it is said what they are worth
pub worths_said : {E : Type 0} (contents : Option (List ℕ)) (faultless : Type 0) (good : List ℕ → ℕ → Type 0) (groups : List ℕ → ℕ) (r s : Result Worth E)
    → IfOk r (λ worth. IsSaidOf contents faultless (λ text. IsWorth (good text) (groups text) worth))
    → IfOk s (λ worth. IsSaidOf contents faultless (λ text. IsWorth (good text) (groups text) worth))
    → IfSome contents (λ text. length text < 2 ^ 64 → faultless → IfOk r (λ a. IfOk s (λ b. a ≡ b)))
worths_said None faultless good groups r s p q = tt
worths_said (Some t) faultless good groups (Err e) s p q = λ few sound. tt
worths_said (Some t) faultless good groups (Ok x) (Err f) p q = λ few sound. tt
worths_said (Some t) faultless good groups (Ok x) (Ok y) p q = λ few sound. one_worth (good t) (groups t) x y (p few sound) (q few sound)
