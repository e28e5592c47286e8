-- A file that has too many bytes.
use Rattle.std.proofs.Common.{◌≡◌, ℕ, ◌+◌, ◌<◌, ◌∙◌, zero, suc, ap, Result, Ok, Err, IsErrAnd, List, length, replicate, Option, Some, IfSome, refl, subst, sym, arith}
use Rattle.std.proofs.lemmas.List.{length-replicate}
use Rattle.b3tree.specs.Valid.{AreBytes}
use Rattle.bao_files.specs.Disks.{FileState, Unknown, Absent, Stored, Opens}
use Rattle.bao_files.specs.Extents.{extent_of}
use Rattle.bao_files.specs.declared.extent.Extent.{Extent}
use Rattle.bao_sums.specs.Checked.{IsTooLong}
use Rattle.std.specs.Prelude.{slice_index}

zeros : (n k : ℕ) → slice_index (replicate n 0) k < 256
zeros zero k = omega arith
zeros (suc n) zero = omega arith
zeros (suc n) (suc k) = zeros n k

-- there are so many bytes, and more
many : (n : ℕ) → (bytes : List ℕ) × AreBytes bytes × (n < length bytes)
many n = let len = length-replicate {A = ℕ} (n + 1) 0 in (replicate (n + 1) 0, record { at = zeros (n + 1) }, omega (arith, len))

abbrev err_or : {X E : Type 0} → E → Result X E → E
err_or d (Ok x) = d
err_or d (Err e) = e

-- what is passed on is the fault
pub same_fault : {X E : Type 0} (result : Result X E) (fault other : E) → IsErrAnd result (λ e. e ≡ fault) → result ≡ Err other → fault ≡ other
same_fault (Ok x) fault other is told = cc told
same_fault (Err e) fault other is told = sym is ∙ ap (err_or e) told

pub too_long : (state : FileState) (contents remaining : Option (List ℕ)) (extent : Option Extent) (len : Option ℕ) → Opens state contents remaining
    → IfSome contents (λ s. extent ≡ Some (extent_of s)) → ((s : List ℕ) → extent ≡ Some (extent_of s) → len ≡ Some (length s))
    → IfSome contents (λ s. remaining ≡ Some s → IfSome len (λ n. n ≡ length s) → 67108864 < length s) → IsTooLong state
too_long Unknown contents remaining extent len opens said of long = many 67108864
too_long Absent contents remaining extent len opens said of long = absurd opens
too_long (Stored s) contents remaining extent len opens said of long =
    let there : extent ≡ Some (extent_of s) = subst (λ (known : Option (List ℕ)). IfSome known (λ t. extent ≡ Some (extent_of t))) opens.0 said in
    let said_len : IfSome len (λ n. n ≡ length s) = subst (λ (l : Option ℕ). IfSome l (λ n. n ≡ length s)) (sym (of s there)) refl in
    (s, refl, subst (λ (known : Option (List ℕ)). IfSome known (λ t. remaining ≡ Some t → IfSome len (λ n. n ≡ length t) → 67108864 < length t)) opens.0 long opens.1 said_len)
