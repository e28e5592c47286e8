use Rattle.std.proofs.Common.{◌≡◌, ◌⊎◌, ℕ, List, length, IfErr, IfOk, OnErr, OnOk, Result, Ok, Err, ap, subst, sym, ◌∙◌}
use Rattle.b3tree.specs.declared.mode.Mode.{Mode}
use Rattle.holders.specs.declared.fixed.Fixed.{Fixed}
use Rattle.bao_text.specs.Texts.{outboard_text}
use Rattle.bao_files.specs.Disks.{FileState, IsKnown, KeepsFiles, Stored}
use Rattle.holders.specs.Blobs.{IsBlob}
use Rattle.bao_tasks.specs.FromFiles.{CollidesBeside, CollidesBesideOutline, HaveBytes, IsInFile, IsPutAt, IsRightAt, fixed_of}
use Rattle.bao_tasks.specs.Gathered.{HasOutlineIn, IsFaultOfOutline}
use Rattle.determined_program.proofs.PutBlobs.{HasPut, enough_agree, fixed_as_also, outboards_agree, puts_agree, rights_agree, room_as}
use Rattle.determined_program.proofs.gathering.gather_beside_on_determined.Goals as goal

where_done : {X E : Type 0} (P : Type 0) (r : Result X E) → OnOk r P → IfOk r (λ _. P)
where_done P (Ok x) p = p
where_done P (Err e) p = tt

pub returns-clause-put : goal.returns-clause-put
returns-clause-put g c =
    let how = c.args.how.now in
    let also = c.args.other_how.now in
    let alike = c.requires.alike in
    let ours : List ℕ → FileState = g.D.Disk.at c.args.ours.now in
    let one : List ℕ → FileState = g.D.Disk.at c.gather_beside_on.new.disk in
    let other : List ℕ → FileState = g.E.Disk.at c.gather_beside_on-2.new.disk in
    let same : ours ≡ g.E.Disk.at c.args.theirs.now = λ i at. c.requires.same at i in
    let path : List ℕ = c.args.path.now in
    let s = c.gather_beside_on-2.result in
    puts_agree how.wanted.mode how.wanted.root.0 ours one other path how also c.gather_beside_on.result s alike.encode c.gather_beside_on.ensures.done
    (subst (λ (T : Type 0). T) (λ i. IfOk s (HasPut (sym alike.mode i) (sym alike.root i).0 path also (sym same i) other)) c.gather_beside_on-2.ensures.done)
    c.gather_beside_on.ensures.kept (subst (λ (at : List ℕ → FileState). OnErr s (KeepsFiles at other)) (sym same) c.gather_beside_on-2.ensures.kept)

pub returns-clause-outboard : goal.returns-clause-outboard
returns-clause-outboard g c = λ text there.
    let mode : Mode = c.args.how.now.wanted.mode in
    let root : List ℕ = c.args.how.now.wanted.root.0 in
    let alike = c.requires.alike in
    let state : FileState = g.D.Disk.at c.args.ours.now c.args.outboard.now in
    let same : g.E.Disk.at c.args.theirs.now c.args.outboard.now ≡ state = sym (c.requires.same c.args.outboard.now) in
    let r = c.gather_beside_on.result in
    let s = c.gather_beside_on-2.result in
    outboards_agree state mode root text there r s (where_done (HasOutlineIn state mode root) r c.gather_beside_on.ensures.outline)
    (where_done (HasOutlineIn state mode root) s (subst (λ (T : Type 0). T) (λ i. OnOk s (HasOutlineIn (same i) (sym alike.mode i) (sym alike.root i).0)) c.gather_beside_on-2.ensures.outline))
    c.gather_beside_on.ensures.outboard (subst (λ (T : Type 0). T) (λ i. IfErr s (IsFaultOfOutline (same i) (sym alike.mode i) (sym alike.root i).0)) c.gather_beside_on-2.ensures.outboard)

pub returns-clause-right : goal.returns-clause-right
returns-clause-right g c = λ surely also_surely known blob is.
    let how = c.args.how.now in
    let also = c.args.other_how.now in
    let alike = c.requires.alike in
    let ours : List ℕ → FileState = g.D.Disk.at c.args.ours.now in
    let theirs : List ℕ → FileState = g.E.Disk.at c.args.theirs.now in
    let one : List ℕ → FileState = g.D.Disk.at c.gather_beside_on.new.disk in
    let other : List ℕ → FileState = g.E.Disk.at c.gather_beside_on-2.new.disk in
    let same : ours ≡ theirs = λ i at. c.requires.same at i in
    let path : List ℕ = c.args.path.now in
    let fixed : fixed_of how ≡ fixed_of also = fixed_as_also how also alike in
    let s = c.gather_beside_on-2.result in
    let theirs_right = c.gather_beside_on-2.ensures.right also_surely (subst IsKnown (c.requires.same path) known) blob
    (subst (λ (f : Fixed). IsBlob f blob) fixed is) in
    rights_agree how.wanted.mode how.wanted.root.0 ours one other path how also blob (CollidesBesideOutline (fixed_of how) how.long ours c.args.outboard.now c.args.files.now blob)
    c.gather_beside_on.result s alike.encode (c.gather_beside_on.ensures.right surely known blob is)
    (subst (λ (T : Type 0). T)
    (λ i. IsRightAt (sym same i) other path also (sym alike.mode i) blob s
    ⊎ CollidesBesideOutline (sym fixed i) (sym alike.long i) (sym same i) c.args.outboard.now c.args.files.now blob) theirs_right)

pub returns-clause-enough : goal.returns-clause-enough
returns-clause-enough g c = λ surely also_surely known blob is room some few own copies also_copies.
    let how = c.args.how.now in
    let also = c.args.other_how.now in
    let alike = c.requires.alike in
    let ours : List ℕ → FileState = g.D.Disk.at c.args.ours.now in
    let theirs : List ℕ → FileState = g.E.Disk.at c.args.theirs.now in
    let one : List ℕ → FileState = g.D.Disk.at c.gather_beside_on.new.disk in
    let other : List ℕ → FileState = g.E.Disk.at c.gather_beside_on-2.new.disk in
    let same : ours ≡ theirs = λ i at. c.requires.same at i in
    let path : List ℕ = c.args.path.now in
    let fixed : fixed_of how ≡ fixed_of also = fixed_as_also how also alike in
    let s = c.gather_beside_on-2.result in
    let theirs_put = c.gather_beside_on-2.ensures.available also_surely (subst IsKnown (c.requires.same path) known) blob
    (subst (λ (f : Fixed). IsBlob f blob) fixed is)
    (room_as how also (length blob) alike room) some few (sym (c.requires.same c.args.outboard.now) ∙ own ∙ ap (λ (m : Mode). Stored (outboard_text m blob)) alike.mode)
    (subst (λ (at : List ℕ → FileState). IsInFile at c.args.files.now blob ⊎ HaveBytes (IsInFile at c.args.files.now) also.wanted.grain blob) same also_copies) in
    enough_agree how.wanted.mode how.wanted.root.0 ours one other path how also blob (CollidesBeside (fixed_of how) how.long ours c.args.files.now blob)
    c.gather_beside_on.result s alike.encode (c.gather_beside_on.ensures.available surely known blob is room some few own copies)
    (subst (λ (T : Type 0). T)
    (λ i. IsPutAt (sym same i) other path also (sym alike.mode i) blob s
    ⊎ CollidesBeside (sym fixed i) (sym alike.long i) (sym same i) c.args.files.now blob) theirs_put)
