-- The blob of a state is one, and so is why there is none.
use Rattle.std.proofs.Common.{◌≡◌, ◌⊎◌, ℕ, ◌+◌, List, length, None, Some, Result, Ok, Err, refl, slice_index, sym, ap, ◌∙◌, inl, inr, arith, zero-add}
use Rattle.b3tree.specs.Hashing.{hash}
use Rattle.gather.specs.declared.fault.FinishFault.{FinishFault}
use Rattle.gather.specs.declared.fault.FinishFault.TheVariants.{Memory, NotTheRoot, Unfinished}
use Rattle.gather.specs.Finished.{Finishes, IsUnfinished, IsWhole}
use Rattle.holders.specs.declared.fixed.Fixed.{Fixed}
use Rattle.store_core.specs.Laws.{IsRead}
use Rattle.store_core.specs.States.{State, byte_at, read_bytes}
use Rattle.store_core.proofs.ReadLaws.{read_means}
use Rattle.determined_texts.specs.Agreeing.{AgreeButFor}

lengths : (s : State) (k l : ℕ) → s.recorded ≡ Some k → s.recorded ≡ Some l → k ≡ l
lengths s k l is also = let same : Some k ≡ Some l = sym is ∙ also in cc

pub whole_once : (s : State) (xs ys : List ℕ) → IsWhole s xs → IsWhole s ys → xs ≡ ys
whole_once s xs ys one other =
    sym one.held ∙ ap (λ (n : ℕ). read_bytes s 0 n) (lengths s (length xs) (length ys) one.recorded other.recorded) ∙ other.held

never_both : (s : State) (xs : List ℕ) → IsWhole s xs → IsUnfinished s → ⊥
never_both s xs whole (inl none) = let no : Some (length xs) ≡ None = sym whole.recorded ∙ none in cc
never_both s xs whole (inr lacks) =
    let long : length xs ≡ lacks.len = lengths s (length xs) lacks.len whole.recorded lacks.recorded in
    let held : IsRead s 0 (length xs) xs = (read_means s 0 (length xs) xs).0 (sym whole.held) in
    let there : byte_at s (0 + lacks.position) ≡ Some (slice_index xs lacks.position) = held.held lacks.position (omega (arith, long, lacks.below)) in
    let here : byte_at s (0 + lacks.position) ≡ None = ap (λ (q : ℕ). byte_at s q) (zero-add lacks.position) ∙ lacks.missing in
    let no : None ≡ Some (slice_index xs lacks.position) = sym here ∙ there in cc

-- one of them finished, the other's fault is out of memory
found_or_lack : {T : Type 0} (bytes_of : T → List ℕ) (fixed : Fixed) (s : State) (x : T) (f : FinishFault) → Finishes bytes_of fixed s (Ok x) → Finishes bytes_of fixed s (Err f) → f ≡ Memory
found_or_lack bytes_of fixed s x Memory one other = refl
found_or_lack bytes_of fixed s x Unfinished one other = absurd (never_both s (bytes_of x) one.blob.whole (other.unfinished refl))
found_or_lack bytes_of fixed s x NotTheRoot one other =
    let theirs = other.other refl in
    let same : bytes_of x ≡ theirs.bytes = whole_once s (bytes_of x) theirs.bytes one.blob.whole theirs.whole in
    absurd (theirs.hashed (sym (ap (λ (xs : List ℕ). hash fixed.mode xs) same) ∙ one.blob.root))

faults_agree : {T : Type 0} (bytes_of : T → List ℕ) (fixed : Fixed) (s : State) (e f : FinishFault) → Finishes bytes_of fixed s (Err e) → Finishes bytes_of fixed s (Err f)
    → (e ≡ f) ⊎ (e ≡ Memory) ⊎ (f ≡ Memory)
faults_agree bytes_of fixed s Memory f one other = inr (inl refl)
faults_agree bytes_of fixed s e Memory one other = inr (inr refl)
faults_agree bytes_of fixed s Unfinished Unfinished one other = inl refl
faults_agree bytes_of fixed s NotTheRoot NotTheRoot one other = inl refl
faults_agree bytes_of fixed s Unfinished NotTheRoot one other = let theirs = other.other refl in absurd (never_both s theirs.bytes theirs.whole (one.unfinished refl))
faults_agree bytes_of fixed s NotTheRoot Unfinished one other = let ours = one.other refl in absurd (never_both s ours.bytes ours.whole (other.unfinished refl))

pub finishes_agree : {T : Type 0} (bytes_of : T → List ℕ) (fixed : Fixed) (s : State) (r r' : Result T FinishFault) → Finishes bytes_of fixed s r → Finishes bytes_of fixed s r'
    → AgreeButFor Memory (λ x y. bytes_of x ≡ bytes_of y) r r'
finishes_agree bytes_of fixed s (Ok x) (Ok y) one other = whole_once s (bytes_of x) (bytes_of y) one.blob.whole other.blob.whole
finishes_agree bytes_of fixed s (Ok x) (Err f) one other = found_or_lack bytes_of fixed s x f one other
finishes_agree bytes_of fixed s (Err e) (Ok y) one other = found_or_lack bytes_of fixed s y e other one
finishes_agree bytes_of fixed s (Err e) (Err f) one other = faults_agree bytes_of fixed s e f one other
