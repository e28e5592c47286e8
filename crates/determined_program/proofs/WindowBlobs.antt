-- Blobs that were written for one root are one, or a collision.
use Rattle.std.proofs.Common.{◌≡◌, ◌⊎◌, inl, inr, ℕ, ◌^◌, ◌<◌, ◌≤◌, List, [], ◌∷◌, ◌++◌, append-nil, length, Option, None, Some, IfOk, IfSome, IsErrOf, Result, Ok, Err, refl, sym, ap, subst, ◌∙◌, arith}
use Rattle.std.specs.Io.KnownBytes.{Appends, Keeps}
use Rattle.b3tree.specs.declared.mode.Mode.{Mode}
use Rattle.b3tree.specs.declared.values.Hash.{Hash}
use Rattle.b3tree.specs.Hashing.{hash}
use Rattle.bao_text.specs.Choice.{chunk_count}
use Rattle.bao_windows.proofs.Ends.{end_or_none, one_end}
use Rattle.bao_windows.specs.Available.{AreSound, HasNoEnd, IsFirstEnd}
use Rattle.bao_windows.specs.Copies.{HaveCopies, IsOwn}
use Rattle.bao_windows.specs.declared.fault.WindowsFault.{WindowsFault}
use Rattle.bao_windows.specs.declared.wanted.Wanted.{Wanted}
use Rattle.bao_windows.specs.Windows.{AllAt, IsFrom, IsLengthOfEach, IsOfAccepted, fixed_for}
use Rattle.bao_windows.specs.Written.{IsBegun, IsWrittenOut, WroteBlob}
use Rattle.determined_program.proofs.Blobs.{same_or_apart}
use Rattle.determined_program.specs.Windows.{HaveBlob, IsClaimed, IsHad, IsOneAnswer, SameBlob, SameLength}
use Rattle.holders.specs.Available.{HaveSlices}
use Rattle.holders.specs.declared.form.Form.{Form}
use Rattle.holders.specs.declared.form.Form.TheVariants.{Slices, Bare}
use Rattle.holders.specs.Forms.{AreSlices, IsLengthOf}
use Rattle.holders.specs.Lists.{source_gives}
use Rattle.bao_windows.specs.declared.fault.GatherFault.{GatherFault}
use Rattle.bao_windows.specs.declared.fault.GatherFault.TheVariants.{Unfinished}
use Rattle.holders.specs.Blobs.{HasCollision}
use Rattle.holders.specs.declared.fixed.Fixed.{Fixed}
use Rattle.holders.specs.declared.piece.Piece.{Piece}
use Rattle.holders.specs.Blobs.{IsBlob}
use Rattle.holders.specs.Pieces.{IsAcceptedPiece}

-- a length that is certified of sources whose bytes are known is one, and always is
pub one_length : {S : Type 0} (contents : S → Option (List ℕ)) (faultless : S → Type 0) (wanted : Wanted) (sources : List S) → AreSound contents faultless sources → (a b : Result ℕ GatherFault)
    → IfOk a (IsFirstEnd contents faultless wanted sources) → IfOk b (IsFirstEnd contents faultless wanted sources) → (IsErrOf a Unfinished → HasNoEnd contents faultless wanted sources)
    → (IsErrOf b Unfinished → HasNoEnd contents faultless wanted sources) → SameLength a b
one_length contents faultless wanted sources sound (Ok m) (Ok n) p q never none = one_end contents faultless wanted sources sound m n p q
one_length contents faultless wanted sources sound (Ok m) (Err fault) p q never none = λ is. end_or_none contents faultless wanted sources sound m p (none (ap Err is))
one_length contents faultless wanted sources sound (Err fault) (Ok n) p q never none = λ is. end_or_none contents faultless wanted sources sound n q (never (ap Err is))
one_length contents faultless wanted sources sound (Err fault) (Err other) p q never none = tt

-- writers that held the same, and gained the same
grown : (xs : List ℕ) (a b : Option (List ℕ)) (text : List ℕ) → Appends (Some xs) a text → Appends (Some xs) b text → a ≡ b
grown xs None b text p q = absurd p
grown xs (Some ys) None text p q = absurd q
grown xs (Some ys) (Some zs) text p q = ap (λ (s : List ℕ). Some s) (p ∙ sym q)

-- what was written of two blobs
wrote : (handed more : Piece → Type 0) (one other : Wanted) (capacity limit : ℕ) (xs : List ℕ) (a b : Option (List ℕ)) (m n : ℕ) → one.root ≡ other.root → one.mode ≡ other.mode
    → WroteBlob handed one capacity (Some xs) a m → WroteBlob more other limit (Some xs) b n → SameBlob one.mode one.root.0 (Some xs) a b m n
wrote handed more one other capacity limit xs a b m n root mode p q =
    let hashed : hash one.mode q.0 ≡ one.root.0 =
    subst (λ (w : Mode). hash w q.0 ≡ one.root.0) (sym mode) (subst (λ (r : Hash). hash other.mode q.0 ≡ r.0) (sym root) q.1) in
    elim (same_or_apart p.0 q.0) [
      | inl same ↦ inl (
        p.3 ∙ ap (λ (s : List ℕ). length s) same ∙ sym q.3,
        grown xs a b p.0 p.5 (subst (λ (s : List ℕ). Appends (Some xs) b s) (sym same) q.5),
      )
      | inr apart ↦ inr (record {
        ours = p.0;
        theirs = q.0;
        apart = apart;
        our_bytes = p.6;
        their_bytes = q.6;
        our_hash = p.1;
        their_hash = hashed;
        our_count = p.3;
        their_count = q.3;
        our_text = p.5;
        their_text = q.5;
      })
    ]

both_wrote : (handed more : Piece → Type 0) (one other : Wanted) (capacity limit : ℕ) (xs : List ℕ) (a b : Option (List ℕ)) (r s : Result ℕ WindowsFault) → one.root ≡ other.root → one.mode ≡ other.mode
    → IfOk r (WroteBlob handed one capacity (Some xs) a) → IfOk s (WroteBlob more other limit (Some xs) b)
    → IfOk r (λ m. IfOk s (λ n. SameBlob one.mode one.root.0 (Some xs) a b m n))
both_wrote handed more one other capacity limit xs a b (Ok m) (Ok n) root mode p q = wrote handed more one other capacity limit xs a b m n root mode p q
both_wrote handed more one other capacity limit xs a b (Ok m) (Err f) root mode p q = tt
both_wrote handed more one other capacity limit xs a b (Err e) s root mode p q = tt

pub blobs_agree : (handed more : Piece → Type 0) (one other : Wanted) (capacity limit : ℕ) (old also a b : Option (List ℕ)) (r s : Result ℕ WindowsFault) → one.root ≡ other.root → one.mode ≡ other.mode → old ≡ also
    → IfOk r (WroteBlob handed one capacity old a) → IfOk s (WroteBlob more other limit also b)
    → IfSome old (λ _. IfOk r (λ m. IfOk s (λ n. SameBlob one.mode one.root.0 old a b m n)))
blobs_agree handed more one other capacity limit None also a b r s root mode same p q = tt
blobs_agree handed more one other capacity limit (Some xs) also a b r s root mode same p q =
    both_wrote handed more one other capacity limit xs a b r s root mode p (subst (λ (o : Option (List ℕ)). IfOk s (WroteBlob more other limit o b)) (sym same) q)

-- what comes of sources that have a blob between them, whichever form they have it in
by_form : {S : Type 0} (form : Form) (wanted : Wanted) (contents : S → Option (List ℕ)) (faultless : S → Type 0) (sources : List S) (blob : List ℕ) (X : Type 0)
    → HaveBlob form wanted contents faultless sources blob → (AreSlices form → HaveSlices wanted.grain (source_gives contents faultless) wanted.mode blob sources → X)
    → (IsOwn wanted form blob → HaveCopies wanted.grain contents faultless blob sources → X) → X
by_form Slices wanted contents faultless sources blob X had slices copies = slices tt had
by_form (Bare outline) wanted contents faultless sources blob X had slices copies = copies had.0 had.1

pub had_out : {S : Type 0} (wanted : Wanted) (contents : S → Option (List ℕ)) (faultless : S → Type 0) (sources : List S) (capacity : ℕ) (blob : List ℕ) (old new : Option (List ℕ)) (result : Result ℕ WindowsFault)
    → IsHad wanted contents faultless sources capacity blob
    → (AreSlices wanted.form → IsBlob (fixed_for wanted) blob → length blob < 2 ^ 64 → chunk_count (length blob) ≤ capacity
    → HaveSlices wanted.grain (source_gives contents faultless) wanted.mode blob sources
    → IsWrittenOut blob old new result ⊎ HasCollision (IsFrom wanted contents faultless sources) (fixed_for wanted) blob)
    → (IsOwn wanted wanted.form blob → IsBlob (fixed_for wanted) blob → length blob < 2 ^ 64 → chunk_count (length blob) ≤ capacity → HaveCopies wanted.grain contents faultless blob sources
    → IsWrittenOut blob old new result ⊎ HasCollision (IsFrom wanted contents faultless sources) (fixed_for wanted) blob)
    → IsWrittenOut blob old new result ⊎ HasCollision (IsFrom wanted contents faultless sources) (fixed_for wanted) blob
had_out wanted contents faultless sources capacity blob old new result it covered beside =
    by_form wanted.form wanted contents faultless sources blob (IsWrittenOut blob old new result ⊎ HasCollision (IsFrom wanted contents faultless sources) (fixed_for wanted) blob) it.had
    (λ are have. covered are it.is it.short it.few have) (λ own have. beside own it.is it.short it.few have)

-- two answers of which each wrote the blob, or has an excuse
both_out : (blob xs : List ℕ) (a b : Option (List ℕ)) (r s : Result ℕ WindowsFault) → IsWrittenOut blob (Some xs) a r → IsWrittenOut blob (Some xs) b s → IsOneAnswer a b r s
both_out blob xs a b (Ok m) (Ok n) p q = ((p.0 ∙ sym q.0, grown xs a b blob p.1 q.1), tt, tt)
both_out blob xs a b (Ok m) (Err f) p q = (tt, tt, q)
both_out blob xs a b (Err e) (Ok n) p q = (tt, p, tt)
both_out blob xs a b (Err e) (Err f) p q = (tt, p, q)

pub had_agree : (handed more : Piece → Type 0) (one other : Wanted) (blob : List ℕ) (old also a b : Option (List ℕ)) (r s : Result ℕ WindowsFault) → old ≡ also
    → IsWrittenOut blob old a r ⊎ HasCollision handed (fixed_for one) blob → IsWrittenOut blob also b s ⊎ HasCollision more (fixed_for other) blob
    → IfSome old (λ _. IsOneAnswer a b r s ⊎ HasCollision handed (fixed_for one) blob ⊎ HasCollision more (fixed_for other) blob)
had_agree handed more one other blob None also a b r s same p q = tt
had_agree handed more one other blob (Some xs) also a b r s same p q = elim p [
  | inr pair ↦ inr (inl pair)
  | inl ours ↦ elim q [
    | inr pair ↦ inr (inr pair)
    | inl theirs ↦ inl (both_out blob xs a b r s ours (subst (λ (o : Option (List ℕ)). IsWrittenOut blob o b s) (sym same) theirs))
  ]
]

-- a blob with the root in the mode has the same in what is the same
of_other : (one other : Wanted) (blob : List ℕ) → one.root ≡ other.root → one.mode ≡ other.mode → IsBlob (fixed_for one) blob → IsBlob (fixed_for other) blob
of_other one other blob root mode is = record {
  bytes = is.bytes;
  root = subst (λ (w : Mode). hash w blob ≡ other.root.0) mode (subst (λ (r : Hash). hash one.mode blob ≡ r.0) root is.root);
}

-- lengths that are certified
pub lengths_agree : (one other : Wanted) (handed more : Piece → Type 0) (r s : Result ℕ GatherFault) → one.root ≡ other.root → one.mode ≡ other.mode
    → IfOk r (λ l. IsLengthOfEach handed (fixed_for one) l) → IfOk s (λ l. IsLengthOfEach more (fixed_for other) l)
    → IfOk r (λ m. IfOk s (λ n. (blob : List ℕ) → IsBlob (fixed_for one) blob → (m ≡ n) ⊎ HasCollision handed (fixed_for one) blob ⊎ HasCollision more (fixed_for other) blob))
lengths_agree one other handed more (Ok m) (Ok n) root mode p q = λ blob is. elim (p blob is) [
  | inl ours ↦ elim (q blob (of_other one other blob root mode is)) [
    | inl theirs ↦ inl (ours ∙ sym theirs)
    | inr pair ↦ inr (inr pair)
  ]
  | inr pair ↦ inr (inl pair)
]
lengths_agree one other handed more (Ok m) (Err f) root mode p q = tt
lengths_agree one other handed more (Err e) s root mode p q = tt

-- the length that an outboard encoding claims
is_claimed : (form : Form) (l m : ℕ) → IsClaimed form l → IsLengthOf form m → m ≡ l
is_claimed Slices l m never is = absurd never
is_claimed (Bare outline) l m claims is = sym is ∙ claims

pub claimed_agree : (form other : Form) (l : ℕ) (r s : Result ℕ GatherFault) → IsClaimed form l → IsClaimed other l → IfOk r (λ m. IsLengthOf form m) → IfOk s (λ n. IsLengthOf other n)
    → IfOk r (λ m. IfOk s (λ n. m ≡ n))
claimed_agree form other l (Ok m) (Ok n) ours theirs p q = is_claimed form l m ours p ∙ sym (is_claimed other l n theirs q)
claimed_agree form other l (Ok m) (Err f) ours theirs p q = tt
claimed_agree form other l (Err e) s ours theirs p q = tt

-- where no slice is accepted under the root, nothing was written
keeps_none : (old new : Option (List ℕ)) (bytes : List ℕ) → bytes ≡ [] → Appends old new bytes → Keeps old new
keeps_none None new bytes none appends = tt
keeps_none (Some xs) None bytes none appends = appends
keeps_none (Some xs) (Some ys) bytes none appends = appends ∙ ap (λ (s : List ℕ). xs ++ s) none ∙ append-nil xs

no_bytes : (handed : Piece → Type 0) (fixed : Fixed) (at : ℕ) (bytes : List ℕ) → ((piece : Piece) → handed piece → IsAcceptedPiece fixed piece → ⊥)
    → AllAt (IsOfAccepted handed fixed) at bytes → bytes ≡ []
no_bytes handed fixed at [] none slices = refl
no_bytes handed fixed at (b ∷ bytes) none slices = let slice = slices 0 (omega arith) in absurd (none slice.piece slice.from slice.accepted)

pub nothing_written : (handed : Piece → Type 0) (fixed : Fixed) (at : ℕ) (old new : Option (List ℕ)) → ((piece : Piece) → handed piece → IsAcceptedPiece fixed piece → ⊥)
    → IsBegun handed fixed at old new → Keeps old new
nothing_written handed fixed at old new none begun = keeps_none old new begun.0 (no_bytes handed fixed at begun.0 none begun.1.slices) begun.2
