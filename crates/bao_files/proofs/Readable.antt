-- Why a known file isn't encoded.
use Rattle.std.specs.Borrow.{Bor}
use Rattle.std.proofs.Common.{◌≡◌, ℕ, List, length, Option, Some, Result, Ok, Err, IfErr, IsErrAnd, inl, inr, sym, subst}
use Rattle.b3tree.specs.declared.mode.Mode.{Mode}
use Rattle.b3tree.specs.Valid.{AreBytes}
use Rattle.b3par.specs.Given.{HasOther}
use Rattle.bao_files.specs.Encoded.{Encodes, IsAfterReading, IsReadOnce}
use Rattle.bao_files.specs.declared.fault.FileFault.{FileFault}
use Rattle.bao_files.specs.declared.fault.FileFault.TheVariants.{Read}
use Rattle.bao_text.specs.declared.kinds.Encoding.{Encoding as Kind}

-- a fault that isn't one of reading is of memory or of writing
after : (mode : Mode) (kind : Kind) (bytes : List ℕ) (file path : Bor (List ℕ)) (old new : Option (List ℕ)) (fault : FileFault) → (fault ≡ Read file → ⊥)
    → Encodes mode kind bytes file path old new (Err fault) → IsAfterReading path fault
after mode kind bytes file path old new fault read (inl h) = elim h.0 [
  | inl memory ↦ inl memory
  | inr rest ↦ elim rest [ inl encoding ↦ inr (inl encoding) | inr is ↦ absurd (read is) ]
]
after mode kind bytes file path old new fault read (inr (inl h)) = inr (inr h.0)
after mode kind bytes file path old new fault read (inr (inr h)) = absurd (read h.0)

-- so it is of a known file that no read of fails
pub known_after : (mode : Mode) (kind : Kind) (contents : Option (List ℕ)) (faultless : Type 0) (size : ℕ) (file path : Bor (List ℕ)) (old new : Option (List ℕ)) (fault : FileFault)
    (bytes : List ℕ) → contents ≡ Some bytes → faultless → size ≡ length bytes → IsReadOnce kind (length bytes)
    → ((some : List ℕ) × AreBytes some × Encodes mode kind some file path old new (Err fault)) → (fault ≡ Read file → IsReadOnce kind size → HasOther contents faultless size) → IsAfterReading path fault
known_after mode kind contents faultless size file path old new fault bytes there sure is once encodes read =
    let unread : fault ≡ Read file → ⊥ = λ failed.
    (subst (λ (c : Option (List ℕ)). HasOther c faultless size) there (read failed (subst (IsReadOnce kind) (sym is) once))) sure (sym is) in
    after mode kind encodes.0 file path old new fault unread encodes.2

-- what holds of the fault that is passed on holds of the answer
pub passed_on : {X : Type 0} (result : Result X FileFault) (fault : FileFault) (P : FileFault → Type 0) → IsErrAnd result (λ e. e ≡ fault) → P fault → IfErr result P
passed_on (Ok x) fault P is p = tt
passed_on (Err e) fault P is p = subst P (sym is) p
