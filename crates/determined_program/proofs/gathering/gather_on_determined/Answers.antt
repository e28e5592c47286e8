use Rattle.std.specs.Borrow.{Bor}
use Rattle.std.proofs.Common.{◌≡◌, ◌⊎◌, ℕ, List, IfOk, MatchResult, OnErr, Result, Ok, Err, Some, slice_get, ap, subst, sym, ◌∙◌, inl, inr}
use Rattle.std.proofs.lemmas.Option.{none-some, same_Some}
use Rattle.holders.specs.declared.fixed.Fixed.{Fixed}
use Rattle.bao_files.specs.Disks.{FileState, IsKnown, KeepsFiles}
use Rattle.holders.specs.Blobs.{HasCollision}
use Rattle.holders.specs.Blobs.{IsBlob}
use Rattle.bao_tasks.specs.FromFiles.{AreEnough, IsFromFile, IsInFile, IsPutAt, IsRightAt, fixed_of}
use Rattle.bao_files.specs.declared.fault.FileFault.TheVariants.{Memory, Read}
use Rattle.bao_tasks.specs.declared.gathered_fault.GatheredFault.{GatheredFault}
use Rattle.bao_tasks.specs.declared.gathered_fault.GatheredFault.TheVariants.{File}
use Rattle.bao_tasks.specs.GatheredFaults.{IsFirstUnread}
use Rattle.determined_program.specs.Blobs.{AreSameFaults}
use Rattle.determined_program.proofs.PutBlobs.{HasPut, enough_agree, fixed_as_also, puts_agree, rights_agree}
use Rattle.determined_program.proofs.gathering.gather_on_determined.Goals as goal

pub returns-clause-put : goal.returns-clause-put
returns-clause-put g c =
    let how = c.args.how.now in
    let also = c.args.other_how.now in
    let alike = c.requires.alike in
    let ours : List ℕ → FileState = g.D.Disk.at c.args.ours.now in
    let one : List ℕ → FileState = g.D.Disk.at c.gather_on.new.disk in
    let other : List ℕ → FileState = g.E.Disk.at c.gather_on-2.new.disk in
    let same : ours ≡ g.E.Disk.at c.args.theirs.now = λ i at. c.requires.same at i in
    let path : List ℕ = c.args.path.now in
    let s = c.gather_on-2.result in
    puts_agree how.wanted.mode how.wanted.root.0 ours one other path how also c.gather_on.result s alike.encode c.gather_on.ensures.done
    (subst (λ (T : Type 0). T) (λ i. IfOk s (HasPut (sym alike.mode i) (sym alike.root i).0 path also (sym same i) other)) c.gather_on-2.ensures.done)
    c.gather_on.ensures.kept (subst (λ (at : List ℕ → FileState). OnErr s (KeepsFiles at other)) (sym same) c.gather_on-2.ensures.kept)

same_first : (files : List (Bor (List ℕ))) (e f : GatheredFault) → IsFirstUnread files e → IsFirstUnread files f → (e ≡ File Memory) ⊎ (f ≡ File Memory) ⊎ (e ≡ f)
same_first files e f (inl none) other = inl none
same_first files e f (inr one) (inl none) = inr (inl none)
same_first files e f (inr (inl one)) (inr (inl other)) =
    let same : one.0 ≡ other.0 = same_Some one.0 other.0 (sym one.1 ∙ other.1) in inr (inr (one.2 ∙ ap (λ (path : Bor (List ℕ)). File (Read path)) same ∙ sym other.2))
same_first files e f (inr (inl one)) (inr (inr other)) = absurd (none-some one.0 (subst (λ (xs : List (Bor (List ℕ))). slice_get xs 0 ≡ Some one.0) other.0 one.1))
same_first files e f (inr (inr one)) (inr (inl other)) = absurd (none-some other.0 (subst (λ (xs : List (Bor (List ℕ))). slice_get xs 0 ≡ Some other.0) one.0 other.1))
same_first files e f (inr (inr one)) (inr (inr other)) = inr (inr (one.1 ∙ sym other.1))

same_faults : (files : List (Bor (List ℕ))) (r s : Result ℕ GatheredFault) → MatchResult r (λ _. ⊥) (IsFirstUnread files) → MatchResult s (λ _. ⊥) (IsFirstUnread files) → AreSameFaults r s
same_faults files (Ok m) s one other = absurd one
same_faults files (Err e) (Ok n) one other = absurd other
same_faults files (Err e) (Err f) one other = same_first files e f one other

pub returns-clause-absent : goal.returns-clause-absent
returns-clause-absent g c = λ none.
    same_faults c.args.files.now c.gather_on.result c.gather_on-2.result (c.gather_on.ensures.absent none)
    (c.gather_on-2.ensures.absent (λ i path there. sym (c.requires.same path.now) ∙ none i path there))

pub returns-clause-right : goal.returns-clause-right
returns-clause-right g c = λ surely also_surely known blob is.
    let how = c.args.how.now in
    let also = c.args.other_how.now in
    let alike = c.requires.alike in
    let ours : List ℕ → FileState = g.D.Disk.at c.args.ours.now in
    let theirs : List ℕ → FileState = g.E.Disk.at c.args.theirs.now in
    let one : List ℕ → FileState = g.D.Disk.at c.gather_on.new.disk in
    let other : List ℕ → FileState = g.E.Disk.at c.gather_on-2.new.disk in
    let same : ours ≡ theirs = λ i at. c.requires.same at i in
    let path : List ℕ = c.args.path.now in
    let fixed : fixed_of how ≡ fixed_of also = fixed_as_also how also alike in
    let s = c.gather_on-2.result in
    let theirs_right = c.gather_on-2.ensures.right also_surely (subst IsKnown (c.requires.same path) known) blob
    (subst (λ (f : Fixed). IsBlob f blob) fixed is) in
    rights_agree how.wanted.mode how.wanted.root.0 ours one other path how also blob (HasCollision (IsFromFile how.wanted.form (fixed_of how) how.long ours c.args.files.now) (fixed_of how) blob)
    c.gather_on.result s alike.encode (c.gather_on.ensures.right surely known blob is)
    (subst (λ (T : Type 0). T)
    (λ i. IsRightAt (sym same i) other path also (sym alike.mode i) blob s
    ⊎ HasCollision (IsFromFile (sym c.requires.form i) (sym fixed i) (sym alike.long i) (sym same i) c.args.files.now) (sym fixed i) blob) theirs_right)

pub returns-clause-enough : goal.returns-clause-enough
returns-clause-enough g c = λ surely also_surely known blob is also_is.
    let how = c.args.how.now in
    let also = c.args.other_how.now in
    let alike = c.requires.alike in
    let ours : List ℕ → FileState = g.D.Disk.at c.args.ours.now in
    let theirs : List ℕ → FileState = g.E.Disk.at c.args.theirs.now in
    let one : List ℕ → FileState = g.D.Disk.at c.gather_on.new.disk in
    let other : List ℕ → FileState = g.E.Disk.at c.gather_on-2.new.disk in
    let same : ours ≡ theirs = λ i at. c.requires.same at i in
    let path : List ℕ = c.args.path.now in
    let fixed : fixed_of how ≡ fixed_of also = fixed_as_also how also alike in
    let s = c.gather_on-2.result in
    let theirs_put = c.gather_on-2.ensures.available also_surely (subst IsKnown (c.requires.same path) known) blob
    (subst (λ (T : Type 0). T) (λ i. AreEnough (c.requires.form i) (fixed i) also blob (IsInFile (same i) c.args.files.now)) also_is) in
    enough_agree how.wanted.mode how.wanted.root.0 ours one other path how also blob (HasCollision (IsFromFile how.wanted.form (fixed_of how) how.long ours c.args.files.now) (fixed_of how) blob)
    c.gather_on.result s alike.encode (c.gather_on.ensures.available surely known blob is)
    (subst (λ (T : Type 0). T)
    (λ i. IsPutAt (sym same i) other path also (sym alike.mode i) blob s
    ⊎ HasCollision (IsFromFile (sym c.requires.form i) (sym fixed i) (sym alike.long i) (sym same i) c.args.files.now) (sym fixed i) blob) theirs_put)
