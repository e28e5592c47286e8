-- What is read: the bytes of positions held, up to the first that isn't.
use Rattle.std.proofs.lemmas.Bool.Decides.{nat_tests}
use Rattle.std.proofs.Common.{◌≡◌, ℕ, zero, suc, ◌+◌, List, [], ◌∷◌, length, Option, None, Some, slice_index, refl, sym, ap, subst, ◌∙◌, arith}
use Rattle.store_core.specs.Laws.{IsRead, ReadMeans}
use Rattle.store_core.specs.States.{State, byte_and, byte_at, read_bytes}

-- the byte at a position that is spelled in two ways
byte_at-same : (s : State) (p q : ℕ) (o : Option ℕ) → p ≡ q → byte_at s p ≡ o → byte_at s q ≡ o
byte_at-same s p q o e h = subst (λ (n : ℕ). byte_at s n ≡ o) e h

-- the byte at the first position, and what is read after it
read_first : (s : State) (at len : ℕ) (rest : List ℕ) (o : Option ℕ) → byte_at s at ≡ o → IsRead s (at + 1) len rest → IsRead s at (suc len) (byte_and o rest)
read_first s at len rest o e next = grind (arith, nat_tests, byte_at-same)

pub read_is : (s : State) (at len : ℕ) → IsRead s at len (read_bytes s at len)
read_is s at zero = record { within = omega arith; held = λ i below. absurd (omega arith); missing = λ below. absurd (omega arith) }
read_is s at (suc len) = read_first s at len (read_bytes s (at + 1) len) (byte_at s at) refl (read_is s (at + 1) len)

-- and what is so is what is read
pub is_read : (s : State) (at len : ℕ) (bytes : List ℕ) → IsRead s at len bytes → bytes ≡ read_bytes s at len
is_read s at zero [] h = refl
is_read s at zero (x ∷ bytes) h = absurd (omega (arith, h.within))
is_read s at (suc len) [] h = grind (arith, nat_tests, byte_at-same)
is_read s at (suc len) (x ∷ bytes) h =
    let first : byte_at s at ≡ Some x = byte_at-same s (at + 0) at (Some x) (omega arith) (h.held 0 (omega arith)) in
    let next : IsRead s (at + 1) len bytes = record {
      within = omega (arith, h.within);
      held = λ i below. byte_at-same s (at + suc i) (at + 1 + i) (Some (slice_index bytes i)) (omega arith) (h.held (suc i) (omega arith));
      missing = λ below. byte_at-same s (at + suc (length bytes)) (at + 1 + length bytes) None (omega arith) (h.missing (omega arith));
    } in
    ap (λ (xs : List ℕ). x ∷ xs) (is_read s (at + 1) len bytes next) ∙ sym (ap (λ (o : Option ℕ). byte_and o (read_bytes s (at + 1) len)) first)

pub read_means : ReadMeans
read_means s at len bytes = (λ same. subst (λ (xs : List ℕ). IsRead s at len xs) (sym same) (read_is s at len), λ h. is_read s at len bytes h)
