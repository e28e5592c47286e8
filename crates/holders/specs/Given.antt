-- What follows a vector's bytes, once it is copied from where a holder's bytes lie.
use Rattle.std.specs.Prelude.{◌≡◌, ◌⊎◌, ℕ, List, ◌++◌, length, take, drop, Option, None, Some}
use Rattle.std.proofs.Common.{refl, sym, ap, ◌∙◌, inl, drop_at, take-append-drop}
use Rattle.holders.specs.Holders.{Appends}
use Rattle.holders.specs.Places.{AreKnown, IsLost, OfBytes}

-- in memory
pub given_here : (text : List ℕ) (way : List ℕ → List ℕ) (old new : List ℕ) → take (length old) new ≡ old
    → ((bytes : List ℕ) → bytes ≡ text → new ≡ old ++ way bytes) → Appends (λ given. given ≡ way text) old new × (new ≡ old ++ way text)
given_here text way old new kept copied = (record { text = way text; is = copied text refl; given = refl }, copied text refl)

-- what is said of bytes that are known
known : (contents : Option (List ℕ)) (P : List ℕ → Type 0) → ((bytes : List ℕ) → AreKnown contents bytes → P bytes) → OfBytes contents P
known None P said = tt
known (Some bytes) P said = λ fits. said bytes (refl, fits)

appends : (contents : Option (List ℕ)) (faultless : Type 0) (way : List ℕ → List ℕ) (old new : List ℕ) → take (length old) new ≡ old
    → OfBytes contents (λ bytes. new ≡ old ++ way bytes) → Appends (λ text. OfBytes contents (λ bytes. (text ≡ way bytes) ⊎ IsLost faultless text)) old new
appends None faultless way old new kept is = record {
  text = drop (length old) new;
  is = sym (take-append-drop (length old) new) ∙ ap (λ (xs : List ℕ). xs ++ drop (length old) new) kept;
  given = tt;
}
appends (Some bytes) faultless way old new kept is = record {
  text = drop (length old) new;
  is = sym (take-append-drop (length old) new) ∙ ap (λ (xs : List ℕ). xs ++ drop (length old) new) kept;
  given = λ fits. inl (ap (drop (length old)) (is fits) ∙ drop_at old (way bytes) (length old) refl);
}

-- in a source
pub given_there : (contents : Option (List ℕ)) (faultless sure : Type 0) (way : List ℕ → List ℕ) (old new : List ℕ) → take (length old) new ≡ old
    → ((bytes : List ℕ) → AreKnown contents bytes → new ≡ old ++ way bytes)
    → Appends (λ text. OfBytes contents (λ bytes. (text ≡ way bytes) ⊎ IsLost faultless text)) old new × (sure → OfBytes contents (λ bytes. new ≡ old ++ way bytes))
given_there contents faultless sure way old new kept copied =
    let is : OfBytes contents (λ bytes. new ≡ old ++ way bytes) = known contents (λ bytes. new ≡ old ++ way bytes) copied in
    (appends contents faultless way old new kept is, λ it. is)
