-- What is asked of sources that have the same bytes.
use Rattle.std.proofs.Common.{◌≡◌, ◌≢◌, inl, inr, ℕ, ◌<◌, ◌≤◌, ◌+◌, ◌-◌, Bool, true, false, List, length, drop, min, Option, None, Some, Result, Ok, Err, IfOk, IfErr, IfSome, OnOk, refl, sym, ap, subst, ◌∙◌, arith, length-drop}
use Rattle.std.proofs.lemmas.List.{length-take}
use Rattle.b3tree.specs.Pieces.{piece}
use Rattle.b3par.specs.declared.fault.ReadFault.{ReadFault}
use Rattle.b3par.specs.declared.fault.ReadFault.TheVariants.{Memory, Reader}
use Rattle.b3par.specs.Given.{GivenAt, HasOther, Lacks}
use Rattle.determined_texts.specs.Agreeing.{AgreeUnless}
use Rattle.determined_program.specs.Files.{MayCome}

-- an answer over so many bytes that are these
known : {X : Type 0} (Same : X → X → Type 0) (Is : List ℕ → X → Type 0) (len : ℕ) → ((s : List ℕ) (x : X) → Is s x → length s ≡ len)
    → ((s : List ℕ) (x y : X) → Is s x → Is s y → Same x y) → (bytes : List ℕ) (P Q : Type 0) (r s : Result X ReadFault)
    → IfOk r (λ x. Is bytes x) → IfOk s (λ x. Is bytes x) → IfErr r (λ f. f ≡ Reader → P → length bytes ≢ len)
    → IfErr s (λ f. f ≡ Reader → Q → length bytes ≢ len) → AgreeUnless Same (MayCome P) (MayCome Q) r s
known Same Is len size one bytes P Q (Ok x) (Ok y) a b e f = one bytes x y a b
known Same Is len size one bytes P Q (Ok x) (Err Memory) a b e f = λ never. refl
known Same Is len size one bytes P Q (Ok x) (Err Reader) a b e f = λ never. absurd (f refl never (size bytes x a))
known Same Is len size one bytes P Q (Err Memory) (Ok y) a b e f = λ never. refl
known Same Is len size one bytes P Q (Err Reader) (Ok y) a b e f = λ never. absurd (e refl never (size bytes y b))
known Same Is len size one bytes P Q (Err Memory) (Err h) a b e f = inr (inl (λ never. refl))
known Same Is len size one bytes P Q (Err Reader) (Err Memory) a b e f = inr (inr (λ never. refl))
known Same Is len size one bytes P Q (Err Reader) (Err Reader) a b e f = inl refl

pub sources_agree : {X : Type 0} (Same : X → X → Type 0) (Is : List ℕ → X → Type 0) (len : ℕ) → ((s : List ℕ) (x : X) → Is s x → length s ≡ len)
    → ((s : List ℕ) (x y : X) → Is s x → Is s y → Same x y) → (c d : Option (List ℕ)) (P Q : Type 0) (r s : Result X ReadFault) → c ≡ d
    → IfOk r (λ x. IfSome c (λ bytes. Is bytes x)) → IfOk s (λ x. IfSome d (λ bytes. Is bytes x))
    → IfErr r (λ f. f ≡ Reader → HasOther c P len) → IfErr s (λ f. f ≡ Reader → HasOther d Q len)
    → IfSome c (λ bytes. AgreeUnless Same (MayCome P) (MayCome Q) r s)
sources_agree Same Is len size one None d P Q r s same a b e f = tt
sources_agree Same Is len size one (Some bytes) d P Q r s same a b e f =
    known Same Is len size one bytes P Q r s a (subst (λ o. IfOk s (λ x. IfSome o (λ bytes. Is bytes x))) (sym same) b)
    e (subst (λ o. IfErr s (λ h. h ≡ Reader → HasOther o Q len)) (sym same) f)

-- whether a source ends there, where that is said exactly
pub ends_agree : (c d : Option (List ℕ)) (P Q : Type 0) (len : ℕ) (x y : Bool) → c ≡ d → (x ≡ true → IfSome c (λ s. length s ≤ len)) → (y ≡ true → IfSome d (λ s. length s ≤ len))
    → (P → IfSome c (λ s. length s ≤ len → x ≡ true)) → (Q → IfSome d (λ s. length s ≤ len → y ≡ true)) → IfSome c (λ s. P → Q → x ≡ y)
ends_agree None d P Q len x y same a b p q = tt
ends_agree (Some s) None P Q len x y same a b p q = let no : Some s ≡ None = same in cc
ends_agree (Some s) (Some t) P Q len true true same a b p q = λ one other. refl
ends_agree (Some s) (Some t) P Q len false false same a b p q = λ one other. refl
ends_agree (Some s) (Some t) P Q len true false same a b p q = λ one other. let e : s ≡ t = cc in sym (q other (subst (λ u. length u ≤ len) e (a refl)))
ends_agree (Some s) (Some t) P Q len false true same a b p q = λ one other. let e : s ≡ t = cc in p one (subst (λ u. length u ≤ len) (sym e) (b refl))

-- as many bytes as were asked for are there
all_there : (s a : List ℕ) (at n : ℕ) → length a ≡ n → 0 < n → a ≡ piece s at (length a) → at + n ≤ length s
all_there s a at n size some given =
    let e : length a ≡ min (length a) (length s - at) =
    ap (λ (t : List ℕ). length t) given ∙ length-take (length a) (drop at s) ∙ ap (min (length a)) (length-drop at s) in
    omega (arith, e, size, some)

known_fills : (s : List ℕ) (P Q : Type 0) (at n : ℕ) (a b : List ℕ) (r t : Result (Unit {0}) ReadFault) → length a ≡ n → length b ≡ n → OnOk r (a ≡ piece s at (length a)) → OnOk t (b ≡ piece s at (length b))
    → IfErr r (λ f. f ≡ Reader) → IfErr t (λ f. f ≡ Reader) → IfErr r (λ f. P → length s < at + n) → IfErr t (λ f. Q → length s < at + n) → IfErr r (λ f. 0 < n) → IfErr t (λ f. 0 < n)
    → AgreeUnless (λ x y. a ≡ b) (λ e. ¬ P) (λ e. ¬ Q) r t
known_fills s P Q at n a b (Ok x) (Ok y) k l g h e f lacks lack some more = g ∙ ap (λ (m : ℕ). piece s at m) (k ∙ sym l) ∙ sym h
known_fills s P Q at n a b (Ok x) (Err v) k l g h e f lacks lack some more = λ never. let there = all_there s a at n k more g in omega (arith, there, lack never)
known_fills s P Q at n a b (Err u) (Ok y) k l g h e f lacks lack some more = λ never. let there = all_there s b at n l some h in omega (arith, there, lacks never)
known_fills s P Q at n a b (Err u) (Err v) k l g h e f lacks lack some more = inl (e ∙ sym f)

pub fills_agree : (c d : Option (List ℕ)) (P Q : Type 0) (at n m : ℕ) (a b : List ℕ) (r t : Result (Unit {0}) ReadFault) → c ≡ d → m ≡ n → length a ≡ n → length b ≡ m
    → OnOk r (GivenAt c at a) → OnOk t (GivenAt d at b) → IfErr r (λ f. f ≡ Reader) → IfErr t (λ f. f ≡ Reader) → IfErr r (λ f. Lacks c P (at + n)) → IfErr t (λ f. Lacks d Q (at + m))
    → IfErr r (λ f. 0 < n) → IfErr t (λ f. 0 < m) → IfSome c (λ s. AgreeUnless (λ x y. a ≡ b) (λ e. ¬ P) (λ e. ¬ Q) r t)
fills_agree None d P Q at n m a b r t same size k l g h e f lacks lack some more = tt
fills_agree (Some s) d P Q at n m a b r t same size k l g h e f lacks lack some more =
    known_fills s P Q at n a b r t k (l ∙ size) g (subst (λ (o : Option (List ℕ)). OnOk t (GivenAt o at b)) (sym same) h) e f lacks
    (subst (λ (o : Option (List ℕ)). IfErr t (λ f. Lacks o Q (at + n))) (sym same) (subst (λ (k : ℕ). IfErr t (λ f. Lacks d Q (at + k))) size lack))
    some (subst (λ (k : ℕ). IfErr t (λ f. 0 < k)) size more)
