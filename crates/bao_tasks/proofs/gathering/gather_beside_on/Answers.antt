use Rattle.std.specs.Borrow.{Bor}
use Rattle.std.proofs.Common.{◌≡◌, ◌⊎◌, ℕ, List, IfErr, MatchResult, Ok, Err, Result, ap, refl, sym, subst, ◌∙◌, inl, inr}
use Rattle.std.proofs.lemmas.Result.{err_from_is_err_and}
use Rattle.b3tree.specs.Valid.{AreBytes}
use Rattle.bao_decode.specs.Copies.{IsEnoughOf}
use Rattle.bao_files.specs.Disks.{FileState}
use Rattle.bao_windows.specs.declared.fault.GatherFault.TheVariants.{Unfinished}
use Rattle.holders.specs.declared.form.Form.TheVariants.{Bare}
use Rattle.bao_tasks.specs.FromFiles.{CollidesBeside, IsPutAt, IsRightAt, fixed_of}
use Rattle.holders.specs.declared.fixed.Fixed.{Fixed}
use Rattle.bao_tasks.specs.Gathered.{HasOutlineIn}
use Rattle.bao_tasks.proofs.Beside.{are_of, beside_of, outlined_of, outline_in, own_faultless, own_outline, where_ok}
use Rattle.bao_tasks.specs.declared.gathered_fault.GatheredFault.{GatheredFault}
use Rattle.bao_tasks.specs.declared.gathered_fault.GatheredFault.TheVariants.{File, Gather}
use Rattle.bao_tasks.specs.GatheredFaults.{IsFirstUnread, NamesBeside, NamesFirst, StopsBeside}
use Rattle.bao_files.specs.declared.fault.FileFault.{FileFault}
use Rattle.bao_files.specs.declared.fault.FileFault.TheVariants.{Memory, Read}
use Rattle.bao_tasks.proofs.gathering.gather_beside_on.Goals as goal

-- a fault that names the first of the files names no other path beside the outboard encoding's
names_beside : (outboard : Bor (List ℕ)) (files : List (Bor (List ℕ))) (path : Bor (List ℕ)) (r : Result ℕ GatheredFault) → IfErr r (NamesFirst files path)
    → IfErr r (NamesBeside outboard files path)
names_beside outboard files path (Ok count) names = tt
names_beside outboard files path (Err fault) names = inr names

-- where no file is there, the fault is of the outboard encoding or of the first file, or there was no memory
stops_or_first : (outboard : Bor (List ℕ)) (files : List (Bor (List ℕ))) (r : Result ℕ GatheredFault) → MatchResult r (λ _. ⊥) (IsFirstUnread files)
    → MatchResult r (λ _. ⊥) (λ fault. StopsBeside outboard fault ⊎ IsFirstUnread files fault)
stops_or_first outboard files (Ok count) is = is
stops_or_first outboard files (Err fault) is = inr is

stopped : (outboard : Bor (List ℕ)) (files : List (Bor (List ℕ))) (r : Result ℕ GatheredFault) (fault : GatheredFault) (unread : FileFault) → r ≡ Err fault → fault ≡ File unread
    → (unread ≡ Memory) ⊎ (unread ≡ Read outboard) → MatchResult r (λ _. ⊥) (λ fault. StopsBeside outboard fault ⊎ IsFirstUnread files fault)
stopped outboard files r fault unread is of (inl none) =
    subst (λ (s : Result ℕ GatheredFault). MatchResult s (λ _. ⊥) (λ f. StopsBeside outboard f ⊎ IsFirstUnread files f)) (sym is) (inr (inl (of ∙ ap (λ (f : FileFault). File f) none)))
stopped outboard files r fault unread is of (inr named) =
    subst (λ (s : Result ℕ GatheredFault). MatchResult s (λ _. ⊥) (λ f. StopsBeside outboard f ⊎ IsFirstUnread files f)) (sym is)
    (inl (subst (StopsBeside outboard) (sym of) named))

named_outboard : (outboard file : Bor (List ℕ)) (r : Result ℕ GatheredFault) (fault : GatheredFault) (unread : FileFault) → r ≡ Err fault → fault ≡ File unread
    → (unread ≡ Memory) ⊎ (unread ≡ Read outboard) → r ≡ Err (File (Read file)) → file ≡ outboard
named_outboard outboard file r fault unread is of (inl none) named = let no : Memory ≡ Read file = cc in cc
named_outboard outboard file r fault unread is of (inr one) named = cc

pub returns-in_err-text-clause-unread : goal.returns-in_err-text-clause-unread
returns-in_err-text-clause-unread g c = λ file is surely text there.
    let exit = err_from_is_err_and c.from_residual.result c.from_residual.ensures.1 in
    named_outboard c.args.outboard file c.from_residual.result exit.0 c.in_err-text.field-0.0 exit.1 exit.2 c.in_err-text.ensures.fault is

pub returns-clause-absent : goal.returns-clause-absent
returns-clause-absent g c = λ none. stops_or_first c.args.outboard c.args.files.now c.gather_on.result (c.gather_on.ensures.absent none)

pub returns-in_err-text-clause-absent : goal.returns-in_err-text-clause-absent
returns-in_err-text-clause-absent g c = λ none.
    let exit = err_from_is_err_and c.from_residual.result c.from_residual.ensures.1 in
    stopped c.args.outboard c.args.files.now c.from_residual.result exit.0 c.in_err-text.field-0.0 exit.1 exit.2 c.in_err-text.ensures.fault

pub returns-in-Err-clause-absent : goal.returns-in-Err-clause-absent
returns-in-Err-clause-absent g c = λ none. inl tt

pub returns-clause-unread : goal.returns-clause-unread
returns-clause-unread g c = λ file is surely text there. absurd (c.gather_on.ensures.unread file is surely text there)

pub returns-clause-paths : goal.returns-clause-paths
returns-clause-paths g c = names_beside c.args.outboard c.args.files.now c.args.path c.gather_on.result c.gather_on.ensures.paths

pub returns-in-Err-clause-paths : goal.returns-in-Err-clause-paths
returns-in-Err-clause-paths g c = inl tt

pub returns-clause-outline : goal.returns-clause-outline
returns-clause-outline g c =
    let state : FileState = g.D.Disk.at c.args.disk.now c.args.outboard.now in
    let text : List ℕ = c.as_slice-2.result.now in
    let read : IsEnoughOf c.args.how.now.wanted.mode c.args.how.now.wanted.root.0 state text =
    subst (λ (t : List ℕ). IsEnoughOf c.args.how.now.wanted.mode c.args.how.now.wanted.root.0 state t) (sym c.as_slice-2.ensures.value) c.in_ok-text.ensures.enough in
    where_ok c.gather_on.result (HasOutlineIn state c.args.how.now.wanted.mode c.args.how.now.wanted.root.0)
    (outline_in state c.args.how.now.wanted.mode c.args.how.now.wanted.root.0 text read (c.in-Ok.ensures.accepted.0 refl)
    (subst AreBytes (c.as_slice.ensures.value ∙ sym c.as_slice-2.ensures.value) c.bytes_are.ensures))

pub returns-in-Err-clause-available : goal.returns-in-Err-clause-available
returns-in-Err-clause-available g c = λ surely known blob is room some few own copies.
    let state : FileState = g.D.Disk.at c.args.disk.now c.args.outboard.now in
    let text : List ℕ = c.as_slice-2.result.now in
    let read : IsEnoughOf c.args.how.now.wanted.mode c.args.how.now.wanted.root.0 state text =
    subst (λ (t : List ℕ). IsEnoughOf c.args.how.now.wanted.mode c.args.how.now.wanted.root.0 state t) (sym c.as_slice-2.ensures.value) c.in_ok-text.ensures.enough in
    let fixed : Fixed = fixed_of c.args.how.now in
    inr
    (absurd {A = CollidesBeside fixed c.args.how.now.long (g.D.Disk.at c.args.disk.now) c.args.files.now blob}
    (own_faultless c.args.how.now.wanted.root c.args.how.now.wanted.mode c.args.how.now.capacity blob text state c.is_keyed.ensures is few read own c.in-Err.fault c.in-Err.ensures.fault))

pub returns-clause-available : goal.returns-clause-available
returns-clause-available g c = λ surely known blob is room some few own copies.
    let state : FileState = g.D.Disk.at c.args.disk.now c.args.outboard.now in
    let text : List ℕ = c.as_slice-2.result.now in
    let read : IsEnoughOf c.args.how.now.wanted.mode c.args.how.now.wanted.root.0 state text =
    subst (λ (t : List ℕ). IsEnoughOf c.args.how.now.wanted.mode c.args.how.now.wanted.root.0 state t) (sym c.as_slice-2.ensures.value) c.in_ok-text.ensures.enough in
    let outline = own_outline c.args.how.now.wanted.root c.args.how.now.wanted.mode c.args.how.now.capacity blob text state c.is_keyed.ensures is few read own c.in-Ok.outline c.in-Ok.ensures.outline
    (c.in-Ok.ensures.accepted.0 refl) some in
    beside_of (IsPutAt (g.D.Disk.at c.args.disk.now) (g.D.Disk.at c.gather_on.new.disk) c.args.path.now c.args.how.now c.args.how.now.wanted.mode blob c.gather_on.result)
    (Bare (record { ref_ptr = (0, 0); now = c.in-Ok.outline })) (fixed_of c.args.how.now) c.args.how.now.long (g.D.Disk.at c.args.disk.now) c.args.files.now blob
    outline
    (c.gather_on.ensures.available surely known blob
    (record {
      root = is;
      room = room;
      some = elim copies [ inl has ↦ inl (record { text = blob; has = has; text_is = (outline, refl); few = few }) | inr parts ↦ inr (outline, parts) ];
    }))

pub returns-clause-right : goal.returns-clause-right
returns-clause-right g c = λ surely known blob is.
    let at : List ℕ → FileState = g.D.Disk.at c.args.disk.now in
    let text : List ℕ = c.as_slice-2.result.now in
    let read : IsEnoughOf c.args.how.now.wanted.mode c.args.how.now.wanted.root.0 (at c.args.outboard.now) text =
    subst (λ (t : List ℕ). IsEnoughOf c.args.how.now.wanted.mode c.args.how.now.wanted.root.0 (at c.args.outboard.now) t) (sym c.as_slice-2.ensures.value) c.in_ok-text.ensures.enough in
    outlined_of (IsRightAt at (g.D.Disk.at c.gather_on.new.disk) c.args.path.now c.args.how.now c.args.how.now.wanted.mode blob c.gather_on.result) c.in-Ok.outline c.args.how.now.wanted.root c.args.how.now.wanted.mode
    c.args.how.now.capacity c.args.how.now.long at c.args.outboard.now c.args.files.now blob text (are_of (at c.args.outboard.now) c.args.how.now.wanted.mode c.args.how.now.wanted.root.0 text read (c.in-Ok.ensures.accepted.0 refl)
    (subst AreBytes (c.as_slice.ensures.value ∙ sym c.as_slice-2.ensures.value) c.bytes_are.ensures))
    c.in-Ok.ensures.outline (c.gather_on.ensures.right surely known blob is)

pub returns-in_err-text-clause-listed : goal.returns-in_err-text-clause-listed
returns-in_err-text-clause-listed g c = λ is surely.
    let exit = err_from_is_err_and c.from_residual.result c.from_residual.ensures.1 in
    let no : Gather Unfinished ≡ File c.in_err-text.field-0.0 = cc in cc

pub returns-clause-listed : goal.returns-clause-listed
returns-clause-listed g c = λ is surely.
    let state : FileState = g.D.Disk.at c.args.disk.now c.args.outboard.now in
    let text : List ℕ = c.as_slice-2.result.now in
    let read : IsEnoughOf c.args.how.now.wanted.mode c.args.how.now.wanted.root.0 state text =
    subst (λ (t : List ℕ). IsEnoughOf c.args.how.now.wanted.mode c.args.how.now.wanted.root.0 state t) (sym c.as_slice-2.ensures.value) c.in_ok-text.ensures.enough in
    let accepted = c.in-Ok.ensures.accepted.0 refl in
    record {
      text = text;
      of = are_of state c.args.how.now.wanted.mode c.args.how.now.wanted.root.0 text read accepted (subst AreBytes (c.as_slice.ensures.value ∙ sym c.as_slice-2.ensures.value) c.bytes_are.ensures);
      accepted = accepted;
      form = Bare (record { ref_ptr = (0, 0); now = c.in-Ok.outline });
      outline = c.in-Ok.ensures.outline;
      noted = c.gather_on.ensures.listed is surely;
    }
