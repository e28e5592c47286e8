-- Two disks of which the same is known.
use Rattle.std.proofs.Common.{◌≡◌, ◌⊎◌, ◌∙◌, ℕ, List, Option, Some, Result, Ok, Err, IfErr, IfOk, OnOk, OnErr, ap, inl, inr, subst, sym}
use Rattle.std.specs.Borrow.{Bor}
use Rattle.b3tree.specs.declared.values.Hash.{Hash}
use Rattle.bao_files.specs.Disks.{FileState, Unknown, Absent, Stored, AreOf, IsKnown, KeepsFiles, Puts}
use Rattle.bao_files.specs.Printed.{OnOutput, Prints}
use Rattle.bao_files.specs.declared.fault.FileFault.{FileFault}
use Rattle.bao_files.specs.declared.fault.FileFault.TheVariants.{Encoding, Memory, Output, Read, Write}
use Rattle.determined_program.proofs.Blobs.{same_or_apart}
use Rattle.determined_texts.proofs.Values.{same_hash}
use Rattle.determined_texts.specs.Agreeing.{AgreeButFor, AgreeUnless}
use Rattle.determined_program.specs.Files.{SameWhereKnown}

-- known bytes are one text
pub one_text : (state : FileState) (a b : List ℕ) → IsKnown state → AreOf state a → AreOf state b → a ≡ b
one_text Unknown a b known ours theirs = absurd known
one_text Absent a b known ours theirs = absurd ours
one_text (Stored s) a b known ours theirs = ours ∙ sym theirs

-- the line of the known bytes was printed, where one of the file's was
pub prints_of : (line : List ℕ → List ℕ) (s bytes : List ℕ) (old new : Option (List ℕ)) (r : Result Unit FileFault) → OnOutput r (bytes ≡ s)
    → Prints (line bytes) old new r → Prints (line s) old new r
prints_of line s bytes old new (Ok done) same prints = subst (λ (t : List ℕ). Prints (line t) old new (Ok done)) same prints
prints_of line s bytes old new (Err (Read path)) same prints = prints
prints_of line s bytes old new (Err (Write path)) same prints = prints
prints_of line s bytes old new (Err Output) same prints = subst (λ (t : List ℕ). Prints (line t) old new (Err Output)) same prints
prints_of line s bytes old new (Err Encoding) same prints = prints
prints_of line s bytes old new (Err Memory) same prints = prints

pub printed_of : (line : List ℕ → List ℕ) (state : FileState) (s : List ℕ) (old new : Option (List ℕ)) (r : Result Unit FileFault) → state ≡ Stored s
    → ((bytes : List ℕ) × OnOutput r (AreOf state bytes) × Prints (line bytes) old new r) → Prints (line s) old new r
printed_of line state s old new r is printed =
    prints_of line s printed.0 old new r (subst (λ (t : FileState). OnOutput r (AreOf t printed.0)) is printed.1) printed.2

module _ (a b one other : List ℕ → FileState) (same : (at : List ℕ) → a at ≡ b at) where
  -- both put the same text
  put_here : (path text : List ℕ) → Puts a one path (Some text) → Puts b other path (Some text) → IsKnown (a path) → one path ≡ other path
  put_here path text ours theirs known = ours.put known ∙ sym (theirs.put (subst IsKnown (same path) known))

  pub puts_same : (path text : List ℕ) → Puts a one path (Some text) → Puts b other path (Some text) → SameWhereKnown a one other
  puts_same path text ours theirs at known = elim (same_or_apart at path) [
    | inl here ↦ subst (λ (p : List ℕ). one p ≡ other p) (sym here) (put_here path text ours theirs (subst (λ (p : List ℕ). IsKnown (a p)) here known))
    | inr apart ↦ ours.kept at apart ∙ same at ∙ sym (theirs.kept at apart)
  ]

  -- both keep what there was
  pub keeps_same : KeepsFiles a one → KeepsFiles b other → SameWhereKnown a one other
  keeps_same ours theirs at known = ours at ∙ same at ∙ sym (theirs at)

module _ (a b one other : List ℕ → FileState) (same : (at : List ℕ) → a at ≡ b at) where
  -- both have done it to the bytes of one file, if these are known
  of_one_file : (file xs ys : List ℕ) → IsKnown (a file) → AreOf (a file) xs → AreOf (b file) ys → ys ≡ xs
  of_one_file file xs ys known ours theirs = sym (one_text (a file) xs ys known ours (subst (λ (s : FileState). AreOf s ys) (sym (same file)) theirs))

  pub both_put : {X Y E F : Type 0} (file path : List ℕ) (text : List ℕ → List ℕ) (r : Result X E) (s : Result Y F) → IsKnown (a file)
      → IfOk r (λ x. (bytes : List ℕ) × AreOf (a file) bytes × Puts a one path (Some (text bytes)))
      → IfOk s (λ y. (bytes : List ℕ) × AreOf (b file) bytes × Puts b other path (Some (text bytes)))
      → OnOk r (OnOk s (SameWhereKnown a one other))
  both_put file path text (Ok x) (Ok y) known p q =
      puts_same a b one other same path (text p.0) p.2
      (subst (λ (bytes : List ℕ). Puts b other path (Some (text bytes))) (of_one_file file p.0 q.0 known p.1 q.1) q.2)
  both_put file path text (Ok x) (Err f) known p q = tt
  both_put file path text (Err e) s known p q = tt

  pub both_give : {X Y V E F : Type 0} (file : List ℕ) (value : List ℕ → V) (of_ours : X → V) (of_theirs : Y → V) (r : Result X E) (s : Result Y F) → IsKnown (a file)
      → IfOk r (λ x. (bytes : List ℕ) × AreOf (a file) bytes × (of_ours x ≡ value bytes))
      → IfOk s (λ y. (bytes : List ℕ) × AreOf (b file) bytes × (of_theirs y ≡ value bytes))
      → IfOk r (λ x. IfOk s (λ y. of_ours x ≡ of_theirs y))
  both_give file value of_ours of_theirs (Ok x) (Ok y) known p q = p.2 ∙ sym (q.2 ∙ ap value (of_one_file file p.0 q.0 known p.1 q.1))
  both_give file value of_ours of_theirs (Ok x) (Err f) known p q = tt
  both_give file value of_ours of_theirs (Err e) s known p q = tt

  pub both_kept : {X Y E F : Type 0} (r : Result X E) (s : Result Y F) → OnErr r (KeepsFiles a one) → OnErr s (KeepsFiles b other) → OnErr r (OnErr s (SameWhereKnown a one other))
  both_kept (Ok x) s p q = tt
  both_kept (Err e) (Ok y) p q = tt
  both_kept (Err e) (Err f) p q = keeps_same a b one other same p q

-- what is so of a result with more is so without it
pub if_ok : {X E : Type 0} {P Q : X → Type 0} (r : Result X E) → ((x : X) → P x → Q x) → IfOk r P → IfOk r Q
if_ok (Ok x) follows p = follows x p
if_ok (Err e) follows p = tt

pub same_hashes : {E F : Type 0} (r : Result Hash E) (s : Result Hash F) → IfOk r (λ x. IfOk s (λ y. x.0 ≡ y.0)) → IfOk r (λ x. IfOk s (λ y. x ≡ y))
same_hashes (Ok x) (Ok y) same = same_hash x y same
same_hashes (Ok x) (Err f) same = tt
same_hashes (Err e) s same = tt

-- both have one answer, but for faults that may come at any time
pub answers_or_fault : {X E : Type 0} (P : E → Type 0) (r s : Result X E) → IfOk r (λ x. IfOk s (λ y. x ≡ y)) → IfErr r P → IfErr s P → AgreeUnless (λ x y. x ≡ y) P P r s
answers_or_fault P (Ok x) (Ok y) same p q = same
answers_or_fault P (Ok x) (Err f) same p q = q
answers_or_fault P (Err e) (Ok y) same p q = p
answers_or_fault P (Err e) (Err f) same p q = inr (inl p)

-- a file that isn't there can't be read
pub none_at : (state : FileState) (text : List ℕ) → state ≡ Absent → AreOf state text → ⊥
none_at state text is are = subst (λ (s : FileState). AreOf s text) is are

pub unread_agree : {X : Type 0} (path : Bor (List ℕ)) (r s : Result X FileFault) → IfOk r (λ _. ⊥) → IfErr r (λ fault. (fault ≡ Memory) ⊎ (fault ≡ Read path)) → IfOk s (λ _. ⊥)
    → IfErr s (λ fault. (fault ≡ Memory) ⊎ (fault ≡ Read path)) → AgreeButFor Memory (λ _ _. ⊥) r s
unread_agree path (Ok x) s p p' q q' = absurd p
unread_agree path (Err e) (Ok y) p p' q q' = absurd q
unread_agree path (Err e) (Err f) p (inl memory) q q' = inr (inl memory)
unread_agree path (Err e) (Err f) p (inr read) q (inl memory) = inr (inr memory)
unread_agree path (Err e) (Err f) p (inr read) q (inr also) = inl (read ∙ sym also)
