-- Answers of two calls that were asked the same.
use Rattle.std.specs.Prelude.{◌≡◌, ◌⊎◌, Result, Ok, Err}

-- case by case: two values, a value and a fault of theirs or of ours, two faults
abbrev pub AgreeBy : {X Y E F : Type 0} → (X → Y → Type 0) → (E → F → Type 0) → (E → Type 0) → (F → Type 0) → Result X E → Result Y F → Type 0
AgreeBy Values Faults Ours Theirs (Ok x) (Ok y) = Values x y
AgreeBy Values Faults Ours Theirs (Ok x) (Err f) = Theirs f
AgreeBy Values Faults Ours Theirs (Err e) (Ok y) = Ours e
AgreeBy Values Faults Ours Theirs (Err e) (Err f) = Faults e f

-- both have one value, or one fault
abbrev pub Agree : {X E : Type 0} → (X → X → Type 0) → Result X E → Result X E → Type 0
Agree Same r s = AgreeBy Same (λ e f. e ≡ f) (λ e. ⊥) (λ f. ⊥) r s

-- so they have, but this fault may come in place of one of the values, as where memory is refused
abbrev pub AgreeOrLack : {X E : Type 0} → E → (X → X → Type 0) → Result X E → Result X E → Type 0
AgreeOrLack fault Same r s = AgreeBy Same (λ e f. e ≡ f) (λ e. e ≡ fault) (λ f. f ≡ fault) r s

-- so they have, or a fault is excused: ours by the one test, theirs by the other
abbrev pub AgreeUnless : {X E : Type 0} → (X → X → Type 0) → (E → Type 0) → (E → Type 0) → Result X E → Result X E → Type 0
AgreeUnless Same Ours Theirs r s = AgreeBy Same (λ e f. (e ≡ f) ⊎ Ours e ⊎ Theirs f) Ours Theirs r s

-- so they have, or this fault came at one of them
abbrev pub AgreeButFor : {X E : Type 0} → E → (X → X → Type 0) → Result X E → Result X E → Type 0
AgreeButFor fault Same r s = AgreeUnless Same (λ e. e ≡ fault) (λ f. f ≡ fault) r s
