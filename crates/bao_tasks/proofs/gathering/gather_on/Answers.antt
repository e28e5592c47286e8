use Rattle.std.specs.Borrow.{Bor}
use Rattle.std.proofs.Common.{◌≡◌, ◌≢◌, ◌⊎◌, List, ℕ, Option, Result, Err, ap, subst, sym, ◌∙◌, inl, inr}
use Rattle.bao_files.specs.declared.fault.FileFault.{FileFault}
use Rattle.bao_files.specs.declared.fault.FileFault.TheVariants.{Memory, Read, Write}
use Rattle.bao_files.specs.Disks.{Puts}
use Rattle.std.proofs.lemmas.Result.{err_from_is_err_and}
use Rattle.bao_windows.specs.declared.fault.GatherFault.TheVariants.{NotTheRoot, TooLarge, Unfinished}
use Rattle.bao_tasks.specs.declared.gathered_fault.GatheredFault.{GatheredFault}
use Rattle.bao_tasks.specs.declared.gathered_fault.GatheredFault.TheVariants.{File, Gather}
use Rattle.bao_tasks.specs.FromFiles.{IsExcusedGathering}
use Rattle.bao_tasks.specs.GatheredFaults.{IsFirstUnread}
use Rattle.bao_tasks.proofs.FromFiles.{put_failed}
use Rattle.bao_tasks.proofs.gathering.gather_on.Goals as goal

err_same : (r : Result ℕ GatheredFault) (e f : GatheredFault) → r ≡ Err e → r ≡ Err f → e ≡ f
err_same r e f one other = cc

-- a draft that wasn't put in its place isn't a file that can't be read
not_finished : (fault : GatheredFault) (unwritten : FileFault) (path read : Bor (List ℕ)) → fault ≡ File unwritten → (unwritten ≡ Memory) ⊎ (unwritten ≡ Write path)
    → fault ≡ File (Read read) → ⊥
not_finished fault unwritten path read of (inl none) is = let no : Memory ≡ Read read = cc in cc
not_finished fault unwritten path read of (inr failed) is = let no : Write path ≡ Read read = cc in cc

pub returns-clause-absent : goal.returns-clause-absent
returns-clause-absent g c = λ none. absurd (c.in_ok-count.ensures.absent none)

pub returns-in_err-finish-clause-absent : goal.returns-in_err-finish-clause-absent
returns-in_err-finish-clause-absent g c = λ none. absurd (c.in_ok-count.ensures.absent none)

pub returns-in_err-count-clause-absent : goal.returns-in_err-count-clause-absent
returns-in_err-count-clause-absent g c = λ none.
    let exit = err_from_is_err_and c.from_residual.result c.from_residual.ensures.1 in
    rw exit.1 (subst (IsFirstUnread c.args.files.now) (sym exit.2) (c.in_err-count.ensures.absent none))

pub returns-in_err-finish-clause-unread : goal.returns-in_err-finish-clause-unread
returns-in_err-finish-clause-unread g c = λ read is surely text there.
    let exit = err_from_is_err_and c.from_residual-in_err-finish.result c.from_residual-in_err-finish.ensures.1 in
    let named : exit.0 ≡ File (Read read) = err_same c.from_residual-in_err-finish.result exit.0 (File (Read read)) exit.1 is in
    not_finished exit.0 c.in_err-finish.field-0.0 c.args.path read exit.2 c.in_err-finish.ensures.fault named

pub returns-in_err-count-clause-unread : goal.returns-in_err-count-clause-unread
returns-in_err-count-clause-unread g c = λ read is surely text there.
    let exit = err_from_is_err_and c.from_residual.result c.from_residual.ensures.1 in
    let named : exit.0 ≡ File (Read read) = err_same c.from_residual.result exit.0 (File (Read read)) exit.1 is in
    c.in_err-count.ensures.unread read (ap Err (sym exit.2 ∙ named)) surely text there

pub returns-clause-available : goal.returns-clause-available
returns-clause-available g c = λ surely known blob enough.
    elim (c.in_ok-count.ensures.available surely known blob enough) [
      | inl done ↦
          inl
          (done.0, subst (λ (t : Option (List ℕ)). Puts (g.D.Disk.at c.args.disk.now) (g.D.Disk.at c.finish.new.self) c.args.path.now t) done.1 c.in_ok-finish.ensures.put)
      | inr pair ↦ inr pair
    ]

pub returns-clause-right : goal.returns-clause-right
returns-clause-right g c = λ surely known blob is.
    elim (c.in_ok-count.ensures.right surely known blob is) [
      | inl done ↦
          inl
          (done.0, subst (λ (t : Option (List ℕ)). Puts (g.D.Disk.at c.args.disk.now) (g.D.Disk.at c.finish.new.self) c.args.path.now t) done.1 c.in_ok-finish.ensures.put)
      | inr pair ↦ inr pair
    ]

pub returns-in_err-finish-clause-available : goal.returns-in_err-finish-clause-available
returns-in_err-finish-clause-available g c = λ surely known blob enough.
    let exit = err_from_is_err_and c.from_residual-in_err-finish.result c.from_residual-in_err-finish.ensures.1 in
    inl
    (put_failed (g.D.Disk.at c.args.disk.now) (g.D.Disk.at c.finish.new.self) c.args.path.now c.args.how.now c.args.how.now.wanted.mode blob c.args.path c.from_residual-in_err-finish.result exit.0
    c.in_err-finish.field-0.0 exit.1 exit.2 c.in_err-finish.ensures.fault)

pub returns-in_err-count-clause-available : goal.returns-in_err-count-clause-available
returns-in_err-count-clause-available g c = λ surely known blob enough.
    let exit = err_from_is_err_and c.from_residual.result c.from_residual.ensures.1 in
    elim (c.in_err-count.ensures.available surely known blob enough) [
      | inl excused ↦ inl (rw exit.1 (subst IsExcusedGathering (sym exit.2) excused))
      | inr pair ↦ inr pair
    ]

pub returns-in_err-count-clause-right : goal.returns-in_err-count-clause-right
returns-in_err-count-clause-right g c = λ surely known blob is.
    let exit = err_from_is_err_and c.from_residual.result c.from_residual.ensures.1 in
    elim (c.in_err-count.ensures.right surely known blob is) [
      | inl other ↦ inl (rw exit.1 (subst (λ (f : GatheredFault). f ≢ Gather NotTheRoot) (sym exit.2) other))
      | inr pair ↦ inr pair
    ]

pub returns-in_err-count-clause-too_large : goal.returns-in_err-count-clause-too_large
returns-in_err-count-clause-too_large g c = λ slices surely is.
    let exit = err_from_is_err_and c.from_residual.result c.from_residual.ensures.1 in
    let large : exit.0 ≡ Gather TooLarge = err_same c.from_residual.result exit.0 (Gather TooLarge) exit.1 is in
    c.in_err-count.ensures.too_large slices surely (ap Err (sym exit.2 ∙ large))

pub returns-in_err-count-clause-listed : goal.returns-in_err-count-clause-listed
returns-in_err-count-clause-listed g c = λ is surely.
    let exit = err_from_is_err_and c.from_residual.result c.from_residual.ensures.1 in
    let left : exit.0 ≡ Gather Unfinished = err_same c.from_residual.result exit.0 (Gather Unfinished) exit.1 is in
    c.in_err-count.ensures.listed (ap Err (sym exit.2 ∙ left)) surely

pub returns-in_err-finish-clause-listed : goal.returns-in_err-finish-clause-listed
returns-in_err-finish-clause-listed g c = λ is surely.
    let exit = err_from_is_err_and c.from_residual-in_err-finish.result c.from_residual-in_err-finish.ensures.1 in
    let left : exit.0 ≡ Gather Unfinished = err_same c.from_residual-in_err-finish.result exit.0 (Gather Unfinished) exit.1 is in
    let no : Gather Unfinished ≡ File c.in_err-finish.field-0.0 = sym left ∙ exit.2 in cc
