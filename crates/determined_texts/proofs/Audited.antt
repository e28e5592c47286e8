-- Audits of two pieces that are the same.
use Rattle.std.proofs.Common.{◌≡◌, ◌≢◌, ◌↔◌, ℕ, List, Result, Ok, Err, IsErr, IfOk, refl, sym, ap, subst, ◌∙◌}
use Rattle.b3tree.specs.Hashing.{hash}
use Rattle.bao_text.specs.Cut.{claimed}
use Rattle.bao_check.specs.declared.checked.Checked.{Checked}
use Rattle.bao_check.specs.Checked.{piece_claimed, piece_mode, piece_root}
use Rattle.bao_check.specs.Parents.{parent_of}
use Rattle.bao_bind.specs.declared.verdict.AuditFault.{AuditFault}
use Rattle.bao_bind.specs.declared.verdict.ParentVerdict.{ParentVerdict}
use Rattle.bao_bind.specs.declared.verdict.ParentVerdict.TheVariants as parents
use Rattle.bao_bind.specs.declared.verdict.Verdict.{Verdict}
use Rattle.bao_bind.specs.declared.verdict.Verdict.TheVariants.{Agrees, Collision}
use Rattle.bao_bind.specs.Verdict.{AgreesWith, HasParentsOf, Says, SaysOfParents}
use Rattle.determined_texts.specs.Texts.{SamePiece}
use Rattle.determined_texts.proofs.Same.{same_chunk, same_last, same_parent}

same_other : (blob : List ℕ) (a b : Checked) → SamePiece a b → (hash (piece_mode a) blob ≢ piece_root a) ≡ (hash (piece_mode b) blob ≢ piece_root b)
same_other blob a b same = λ i. hash (same.mode_is i) blob ≢ same.root_is i

agrees_too : (blob : List ℕ) (a b : Checked) → SamePiece a b → AgreesWith blob a → AgreesWith blob b
agrees_too blob a b same h = record {
  chunks = λ number bytes is. h.chunks number bytes (same_chunk a b same number ∙ is);
  tail = λ last. ap claimed (sym same.text_is) ∙ h.tail (subst (λ (T : Type 0). T) (sym (same_last a b same)) last);
}

reversed : (a b : Checked) → SamePiece a b → SamePiece b a
reversed a b same = record { mode_is = sym same.mode_is; root_is = sym same.root_is; start_is = sym same.start_is; len_is = sym same.len_is; text_is = sym same.text_is }

passed_on : (blob : List ℕ) (a b : Checked) (r s : Result Verdict AuditFault) → SamePiece a b → (IsErr s → IsErr r) → IfOk r (Says blob a) → IfOk s (Says blob b) → r ≡ Ok Agrees → s ≡ Ok Agrees
passed_on blob a b (Ok Agrees) (Ok Agrees) same back p q e = refl
passed_on blob a b (Ok Agrees) (Ok (Collision x y)) same back p q e = absurd (q.0 (agrees_too blob a b same p))
passed_on blob a b (Ok Agrees) (Err f) same back p q e = let no = back refl in cc
passed_on blob a b (Ok (Collision x y)) s same back p q e = cc
passed_on blob a b (Err f) s same back p q e = cc

parents_too : (blob : List ℕ) (a b : Checked) → SamePiece a b → HasParentsOf blob a → HasParentsOf blob b
parents_too blob a b same h = λ m bytes is. ap (λ mode. parent_of mode blob m) (sym same.mode_is) ∙ h m bytes (same_parent a b same m ∙ is)

same_claim : (a b : Checked) → SamePiece a b → piece_claimed a ≡ piece_claimed b
same_claim a b same = ap claimed same.text_is

agree_on : (blob : List ℕ) (a b : Checked) (r s : Result ParentVerdict AuditFault) → SamePiece a b → (IsErr s → IsErr r) → IfOk r (SaysOfParents blob a) → IfOk s (SaysOfParents blob b)
    → r ≡ Ok parents.Agrees → s ≡ Ok parents.Agrees
agree_on blob a b (Ok parents.Agrees) (Ok parents.Agrees) same back p q e = refl
agree_on blob a b (Ok parents.Agrees) (Ok parents.OtherLength) same back p q e = absurd (q (sym (same_claim a b same) ∙ p.0))
agree_on blob a b (Ok parents.Agrees) (Ok (parents.Collision x y)) same back p q e = absurd (q.1 (parents_too blob a b same p.1))
agree_on blob a b (Ok parents.Agrees) (Err f) same back p q e = let no = back refl in cc
agree_on blob a b (Ok parents.OtherLength) s same back p q e = cc
agree_on blob a b (Ok (parents.Collision x y)) s same back p q e = cc
agree_on blob a b (Err f) s same back p q e = cc

other_on : (blob : List ℕ) (a b : Checked) (r s : Result ParentVerdict AuditFault) → SamePiece a b → (IsErr s → IsErr r) → IfOk r (SaysOfParents blob a) → IfOk s (SaysOfParents blob b)
    → r ≡ Ok parents.OtherLength → s ≡ Ok parents.OtherLength
other_on blob a b (Ok parents.OtherLength) (Ok parents.OtherLength) same back p q e = refl
other_on blob a b (Ok parents.OtherLength) (Ok parents.Agrees) same back p q e = absurd (p (same_claim a b same ∙ q.0))
other_on blob a b (Ok parents.OtherLength) (Ok (parents.Collision x y)) same back p q e = absurd (p (same_claim a b same ∙ q.0))
other_on blob a b (Ok parents.OtherLength) (Err f) same back p q e = let no = back refl in cc
other_on blob a b (Ok parents.Agrees) s same back p q e = cc
other_on blob a b (Ok (parents.Collision x y)) s same back p q e = cc
other_on blob a b (Err f) s same back p q e = cc

-- an audit refuses a blob whose hash is another one
abbrev pub IsOfRoot : {X : Type 0} → List ℕ → Checked → Result X AuditFault → Type 0
IsOfRoot blob a r = IsErr r ↔ (hash (piece_mode a) blob ≢ piece_root a)

-- two audits refuse the same
pub one_root : {X : Type 0} (blob : List ℕ) (a b : Checked) (r s : Result X AuditFault) → SamePiece a b → IsOfRoot blob a r → IsOfRoot blob b s → IsErr r ↔ IsErr s
one_root blob a b r s same p q = (
  λ e. q.1 (subst (λ (T : Type 0). T) (same_other blob a b same) (p.0 e)),
  λ e. p.1 (subst (λ (T : Type 0). T) (sym (same_other blob a b same)) (q.0 e)),
)

pub one_agreement : (blob : List ℕ) (a b : Checked) (r s : Result ParentVerdict AuditFault) → SamePiece a b → IsOfRoot blob a r → IsOfRoot blob b s → IfOk r (SaysOfParents blob a) → IfOk s (SaysOfParents blob b)
    → (r ≡ Ok parents.Agrees) ↔ (s ≡ Ok parents.Agrees)
one_agreement blob a b r s same p q x y =
    let errs = one_root blob a b r s same p q in (agree_on blob a b r s same errs.1 x y, agree_on blob b a s r (reversed a b same) errs.0 y x)

pub one_length : (blob : List ℕ) (a b : Checked) (r s : Result ParentVerdict AuditFault) → SamePiece a b → IsOfRoot blob a r → IsOfRoot blob b s → IfOk r (SaysOfParents blob a) → IfOk s (SaysOfParents blob b)
    → (r ≡ Ok parents.OtherLength) ↔ (s ≡ Ok parents.OtherLength)
one_length blob a b r s same p q x y =
    let errs = one_root blob a b r s same p q in (other_on blob a b r s same errs.1 x y, other_on blob b a s r (reversed a b same) errs.0 y x)

pub one_verdict : (blob : List ℕ) (a b : Checked) (r s : Result Verdict AuditFault) → SamePiece a b → IsOfRoot blob a r → IsOfRoot blob b s → IfOk r (Says blob a) → IfOk s (Says blob b)
    → (r ≡ Ok Agrees) ↔ (s ≡ Ok Agrees)
one_verdict blob a b r s same p q x y =
    let errs = one_root blob a b r s same p q in (passed_on blob a b r s same errs.1 x y, passed_on blob b a s r (reversed a b same) errs.0 y x)
