-- Two verdicts on the same bytes.
use Rattle.std.proofs.Common.{◌≡◌, ◌∙◌, ℕ, Bool, true, false, List, length, Option, None, Some, IfSome, ap, refl, subst, sym}
use Rattle.b3tree.specs.declared.mode.Mode.{Mode}
use Rattle.bao_decode.specs.Damage.{JudgesOutline, JudgesSlice, JudgesSliceOf}

one_verdict : (faultless : Type 0) (mode : Mode) (root : List ℕ) (start len : ℕ) (outline bytes : List ℕ) (one other : Bool) → faultless
    → JudgesSlice faultless mode root start len outline bytes one → JudgesSlice faultless mode root start len outline bytes other → one ≡ other
one_verdict faultless mode root start len outline bytes true true sure a b = refl
one_verdict faultless mode root start len outline bytes false false sure a b = refl
one_verdict faultless mode root start len outline bytes true false sure a b = absurd (b sure a)
one_verdict faultless mode root start len outline bytes false true sure a b = absurd (a sure b)

-- what is said where they are known
known_verdict : (faultless : Type 0) (mode : Mode) (root : List ℕ) (start len : ℕ) (ours theirs : Option (List ℕ)) (outline bytes : List ℕ) (has : Bool)
    → ours ≡ Some outline → theirs ≡ Some bytes → JudgesSliceOf faultless mode root start len ours theirs has → JudgesSlice faultless mode root start len outline bytes has
known_verdict faultless mode root start len ours theirs outline bytes has a b says = subst (λ (T : Type 0). T) (λ i. JudgesSliceOf faultless mode root start len (a i) (b i) has) says

pub verdicts_agree : (faultless : Type 0) (mode : Mode) (root : List ℕ) (start len : ℕ) (ours theirs : Option (List ℕ)) (outline bytes : List ℕ) (one other : Bool)
    → ours ≡ Some outline → theirs ≡ Some bytes → faultless → JudgesSliceOf faultless mode root start len ours theirs one → JudgesSliceOf faultless mode root start len ours theirs other → one ≡ other
verdicts_agree faultless mode root start len ours theirs outline bytes one other a b sure says also =
    one_verdict faultless mode root start len outline bytes one other sure (known_verdict faultless mode root start len ours theirs outline bytes one a b says)
    (known_verdict faultless mode root start len ours theirs outline bytes other a b also)

one_length : (faultless : Type 0) (mode : Mode) (root outline : List ℕ) (one other : Option ℕ) → faultless → JudgesOutline faultless mode root outline one → JudgesOutline faultless mode root outline other
    → one ≡ other
one_length faultless mode root outline (Some m) (Some n) sure a b = ap Some (a.1 ∙ sym b.1)
one_length faultless mode root outline (Some m) None sure a b = absurd (b sure a.0)
one_length faultless mode root outline None (Some n) sure a b = absurd (a sure b.0)
one_length faultless mode root outline None None sure a b = refl

pub lengths_agree : (faultless : Type 0) (mode : Mode) (root : List ℕ) (contents : Option (List ℕ)) (outline : List ℕ) (size : ℕ) (one other : Option ℕ)
    → contents ≡ Some outline → size ≡ length outline → faultless → IfSome contents (λ s. size ≡ length s → JudgesOutline faultless mode root s one)
    → IfSome contents (λ s. size ≡ length s → JudgesOutline faultless mode root s other) → one ≡ other
lengths_agree faultless mode root contents outline size one other is long sure says also =
    one_length faultless mode root outline one other sure
    (subst (λ (known : Option (List ℕ)). IfSome known (λ s. size ≡ length s → JudgesOutline faultless mode root s one)) is says long)
    (subst (λ (known : Option (List ℕ)). IfSome known (λ s. size ≡ length s → JudgesOutline faultless mode root s other)) is also long)
