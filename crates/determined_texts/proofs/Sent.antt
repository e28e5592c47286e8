-- What a writer took of an encoding tells the answer, and the answer tells what it took.
use Rattle.std.proofs.Common.{◌≡◌, ◌≢◌, ◌↔◌, ◌⊎◌, inl, inr, ℕ, ◌<◌, ◌≤◌, List, ◌++◌, length, take, Option, None, Some, IfSome, Result, Ok, Err, OnOk, IfOk, IfErr, refl, sym, ap, subst, ◌∙◌, arith, length-append, append-nil}
use Rattle.std.specs.Io.KnownBytes.{Appends}
use Rattle.std.proofs.lemmas.List.{length-take-le, take_all}
use Rattle.b3tree.specs.declared.values.Hash.{Hash}
use Rattle.bao_text.specs.declared.fault.WriteFault.{WriteFault}
use Rattle.bao_text.specs.declared.fault.WriteFault.TheVariants.{Memory, Writer}
use Rattle.bao_text.specs.Faults.{WroteOnly}
use Rattle.determined_texts.proofs.Values.{same_hash}

-- how many of the encoding's n bytes went out
abbrev went : {X : Type 0} → ℕ → Result X WriteFault → ℕ
went n (Ok x) = n
went n (Err Memory) = 0
went n (Err (Writer written)) = written

-- what a writer that held `xs` holds after so many
record Sent (xs : List ℕ) (new : Option (List ℕ)) (text : List ℕ) (count : ℕ) : Type 0 where
  pub holds : new ≡ Some (xs ++ take count text)
  pub within : count ≤ length text

sent : {X : Type 0} (xs : List ℕ) (new : Option (List ℕ)) (text : List ℕ) (r : Result X WriteFault) → OnOk r (Appends (Some xs) new text) → IfErr r (WroteOnly (Some xs) new text)
    → Sent xs new text (went (length text) r)
sent xs None text (Ok x) a b = absurd a
sent xs (Some ys) text (Ok x) a b =
    record { holds = ap (λ s. Some s) (a ∙ ap (λ (s : List ℕ). xs ++ s) (sym (take_all (length text) text (omega arith)))); within = omega arith }
sent xs None text (Err Memory) a b = absurd b
sent xs (Some ys) text (Err Memory) a b = record { holds = ap (λ s. Some s) (b ∙ sym (append-nil xs)); within = omega arith }
sent xs None text (Err (Writer w)) a b = absurd b.1
sent xs (Some ys) text (Err (Writer w)) a b = record { holds = ap (λ s. Some s) b.1; within = omega (arith, b.0) }

-- what it holds tells how many went out
one_count : (xs : List ℕ) (new other : Option (List ℕ)) (text : List ℕ) (m n : ℕ) → Sent xs new text m → Sent xs other text n → new ≡ other → m ≡ n
one_count xs new other text m n a b e =
    let same : Some (xs ++ take m text) ≡ Some (xs ++ take n text) = sym a.holds ∙ e ∙ b.holds in
    let lists : xs ++ take m text ≡ xs ++ take n text = cc in
    omega (arith, ap length lists, length-append xs (take m text), length-append xs (take n text), length-take-le m text a.within, length-take-le n text b.within)

-- the answer tells what the writer holds
pub held_alike : {X : Type 0} (old also new other : Option (List ℕ)) (text : List ℕ) (r s : Result X WriteFault) → old ≡ also → OnOk r (Appends old new text) → IfErr r (WroteOnly old new text)
    → OnOk s (Appends also other text) → IfErr s (WroteOnly also other text) → IfSome old (λ _. r ≡ s → new ≡ other)
held_alike None also new other text r s e a b c d = tt
held_alike (Some xs) also new other text r s e a b c d = λ same.
    let one = sent xs new text r a b in
    let two = sent xs other text s (subst (λ (o : Option (List ℕ)). OnOk s (Appends o other text)) (sym e) c) (subst (λ (o : Option (List ℕ)). IfErr s (WroteOnly o other text)) (sym e) d) in
    one.holds ∙ ap (λ q. Some (xs ++ take (went (length text) q) text)) same ∙ sym two.holds

-- what went out less than all, where the fault is the writer's
short_of : {X : Type 0} (old new : Option (List ℕ)) (text : List ℕ) (w : ℕ) (r : Result X WriteFault) → r ≡ Err (Writer w) → IfErr r (WroteOnly old new text) → w < length text
short_of old new text w (Ok x) e b = cc
short_of old new text w (Err Memory) e b = cc
short_of old new text w (Err (Writer v)) e b = omega (arith, b.0, let same : v ≡ w = cc in same)

-- and what it holds tells the answer, but for want of memory
told : {X : Type 0} (P : X → Type 0) (n : ℕ) (r s : Result X WriteFault) → ((x y : X) → P x → P y → x ≡ y) → IfOk r P → IfOk s P → ((w : ℕ) → r ≡ Err (Writer w) → w < n)
    → ((w : ℕ) → s ≡ Err (Writer w) → w < n) → went n r ≡ went n s → (r ≡ s) ⊎ (r ≡ Err Memory) ⊎ (s ≡ Err Memory)
told P n (Err Memory) s single p q a b e = inr (inl refl)
told P n r (Err Memory) single p q a b e = inr (inr refl)
told P n (Ok x) (Ok y) single p q a b e = inl (ap (λ v. Ok v) (single x y p q))
told P n (Ok x) (Err (Writer w)) single p q a b e = absurd (omega (arith, e, b w refl))
told P n (Err (Writer v)) (Ok y) single p q a b e = absurd (omega (arith, e, a v refl))
told P n (Err (Writer v)) (Err (Writer w)) single p q a b e = inl (ap (λ k. Err (Writer k)) e)

pub answers_alike : {X : Type 0} (P : X → Type 0) (old also new other : Option (List ℕ)) (text : List ℕ) (r s : Result X WriteFault) → ((x y : X) → P x → P y → x ≡ y) → IfOk r P → IfOk s P
    → old ≡ also → OnOk r (Appends old new text) → IfErr r (WroteOnly old new text) → OnOk s (Appends also other text) → IfErr s (WroteOnly also other text)
    → IfSome old (λ _. new ≡ other → (r ≡ s) ⊎ (r ≡ Err Memory) ⊎ (s ≡ Err Memory))
answers_alike P None also new other text r s single p q e a b c d = tt
answers_alike P (Some xs) also new other text r s single p q e a b c d = λ same.
    let one = sent xs new text r a b in
    let two = sent xs other text s (subst (λ (o : Option (List ℕ)). OnOk s (Appends o other text)) (sym e) c) (subst (λ (o : Option (List ℕ)). IfErr s (WroteOnly o other text)) (sym e) d) in
    told P (length text) r s single p q (λ w is. short_of (Some xs) new text w r is b) (λ w is. short_of also other text w s is d)
    (one_count xs new other text (went (length text) r) (went (length text) s) one two same)

any : (r : Result (Unit {0}) WriteFault) → IfOk r (λ _. Unit {0})
any (Ok x) = tt
any (Err f) = tt

never : (r : Result (Unit {0}) WriteFault) → IfErr r (λ f. f ≢ Memory) → r ≡ Err Memory → ⊥
never (Ok x) m e = cc
never (Err f) m e = m (let same : f ≡ Memory = cc in same)

-- both ways, where memory isn't wanted
pub written_alike : (old also new other : Option (List ℕ)) (text : List ℕ) (r s : Result (Unit {0}) WriteFault) → old ≡ also → OnOk r (Appends old new text) → IfErr r (WroteOnly old new text)
    → IfErr r (λ f. f ≢ Memory) → OnOk s (Appends also other text) → IfErr s (WroteOnly also other text) → IfErr s (λ f. f ≢ Memory)
    → IfSome old (λ _. (r ≡ s) ↔ (new ≡ other))
written_alike None also new other text r s e a b m c d n = tt
written_alike (Some xs) also new other text r s e a b m c d n = (
  held_alike (Some xs) also new other text r s e a b c d,
  λ same. elim (answers_alike (λ _. Unit {0}) (Some xs) also new other text r s (λ x y p q. refl) (any r) (any s) e a b c d same) [
    | inl is ↦ is
    | inr memory ↦ elim memory [
      | inl first ↦ absurd (never r m first)
      | inr second ↦ absurd (never s n second)
    ]
  ],
)

pub hashes_alike : (h : List ℕ) (r s : Result Hash WriteFault) → IfOk r (λ x. x.0 ≡ h) → IfOk s (λ y. y.0 ≡ h) → IfOk r (λ x. IfOk s (λ y. x ≡ y))
hashes_alike h (Ok x) (Ok y) p q = same_hash x y (p ∙ sym q)
hashes_alike h (Ok x) (Err f) p q = tt
hashes_alike h (Err e) s p q = tt
