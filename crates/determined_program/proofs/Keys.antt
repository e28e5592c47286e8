-- The key that bytes give.
use Rattle.std.proofs.Common.{◌≡◌, ◌⊎◌, ℕ, List, [], ◌∷◌, ◌++◌, ◌+◌, length, Option, None, Some, Result, Ok, inl, inr, refl, sym, ap, subst, ◌∙◌, arith, length-append}
use Rattle.std.proofs.lemmas.List.{append_cancel_right}
use Rattle.hex.specs.Hex.{decode_of}
use Rattle.hex.specs.declared.error.FromHexError.{FromHexError}
use Rattle.bao_files.specs.Printed.{IsDigits}
use Rattle.bao_files.specs.Keys.{GivesKey}

-- a text of digits isn't another one and a line end
not_both : (s d e : List ℕ) → IsDigits d → IsDigits e → s ≡ d → s ≡ e ++ 10 ∷ [] → ⊥
not_both s d e one other p q =
    let more : length (e ++ 10 ∷ []) ≡ length e + 1 = length-append e (10 ∷ []) in
    omega (arith, one.0, other.0, more, ap (λ (x : List ℕ). length x) p, ap (λ (x : List ℕ). length x) q)

one_text : (s d e : List ℕ) → IsDigits d → IsDigits e → (s ≡ d) ⊎ (s ≡ d ++ 10 ∷ []) → (s ≡ e) ⊎ (s ≡ e ++ 10 ∷ []) → d ≡ e
one_text s d e one other (inl p) (inl q) = sym p ∙ q
one_text s d e one other (inr p) (inr q) = append_cancel_right d e (10 ∷ []) (sym p ∙ q)
one_text s d e one other (inl p) (inr q) = absurd (not_both s d e one other p q)
one_text s d e one other (inr p) (inl q) = absurd (not_both s e d other one q p)

one_value : (r : Result (List ℕ) FromHexError) (a b : List ℕ) → r ≡ Ok a → r ≡ Ok b → a ≡ b
one_value r a b p q = cc

pub one_key : (s : List ℕ) (x y : Option (List ℕ)) → GivesKey s x → GivesKey s y → x ≡ y
one_key s None None p q = refl
one_key s None (Some b) p q = absurd (p q.0 q.1)
one_key s (Some a) None p q = absurd (q p.0 p.1)
one_key s (Some a) (Some b) p q =
    let digits : p.0 ≡ q.0 = one_text s p.0 q.0 p.1.0 q.1.0 p.1.1 q.1.1 in
    ap (λ (key : List ℕ). Some key) (one_value (decode_of q.0) a b (subst (λ (d : List ℕ). decode_of d ≡ Ok a) digits p.2) q.2)
