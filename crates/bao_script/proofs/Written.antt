-- Words that write numbers, by their places.
use Rattle.std.proofs.Common.{◌≡◌, ℕ, List, [], ◌∷◌, Bor, Some, length, get_or, map, refl, sym, arith}
use Rattle.bao_script.specs.Forms.{AreWritten}
use Rattle.bao_script.specs.Words.{written_number}

abbrev pub texts : List (Bor (List ℕ)) → List (List ℕ)
texts words = map (λ word. word.now) words

-- the word at a place writes the number
abbrev pub WritesAt : List (Bor (List ℕ)) → Bor (List ℕ) → ℕ → ℕ → ℕ → Type 0
WritesAt words d place bits n = Some n ≡ written_number bits (get_or words place d).now

pub two_written : (words : List (Bor (List ℕ))) (d : Bor (List ℕ)) (k l : ℕ) {m n : ℕ} → length words ≡ 2 → WritesAt words d 0 k m → WritesAt words d 1 l n
    → AreWritten ((k, m) ∷ (l, n) ∷ []) (texts words)
two_written [] d k l two h i = absurd (omega arith)
two_written (x ∷ []) d k l two h i = absurd (omega arith)
two_written (x ∷ y ∷ []) d k l two h i = (x.now, y.now ∷ [], refl, sym h, (y.now, [], refl, sym i, refl))
two_written (x ∷ y ∷ z ∷ more) d k l two h i = absurd (omega arith)

pub three_written : (words : List (Bor (List ℕ))) (d : Bor (List ℕ)) (i j k : ℕ) {l m n : ℕ} → length words ≡ 3
    → WritesAt words d 0 i l → WritesAt words d 1 j m → WritesAt words d 2 k n
    → AreWritten ((i, l) ∷ (j, m) ∷ (k, n) ∷ []) (texts words)
three_written [] d i j k three h p q = absurd (omega arith)
three_written (x ∷ []) d i j k three h p q = absurd (omega arith)
three_written (x ∷ y ∷ []) d i j k three h p q = absurd (omega arith)
three_written (x ∷ y ∷ z ∷ []) d i j k three h p q =
    (x.now, y.now ∷ z.now ∷ [], refl, sym h, (y.now, z.now ∷ [], refl, sym p, (z.now, [], refl, sym q, refl)))
three_written (w ∷ x ∷ y ∷ z ∷ more) d i j k three h p q = absurd (omega arith)

pub four_written : (words : List (Bor (List ℕ))) (d : Bor (List ℕ)) (h i j k : ℕ) {l m n o : ℕ} → length words ≡ 4
    → WritesAt words d 0 h l → WritesAt words d 1 i m → WritesAt words d 2 j n → WritesAt words d 3 k o
    → AreWritten ((h, l) ∷ (i, m) ∷ (j, n) ∷ (k, o) ∷ []) (texts words)
four_written [] d h i j k four p q r s = absurd (omega arith)
four_written (w ∷ []) d h i j k four p q r s = absurd (omega arith)
four_written (w ∷ x ∷ []) d h i j k four p q r s = absurd (omega arith)
four_written (w ∷ x ∷ y ∷ []) d h i j k four p q r s = absurd (omega arith)
four_written (w ∷ x ∷ y ∷ z ∷ []) d h i j k four p q r s =
    (w.now, x.now ∷ y.now ∷ z.now ∷ [], refl, sym p, (x.now, y.now ∷ z.now ∷ [], refl, sym q, (y.now, z.now ∷ [], refl, sym r, (z.now, [], refl, sym s, refl))))
four_written (v ∷ w ∷ x ∷ y ∷ z ∷ more) d h i j k four p q r s = absurd (omega arith)
