use Rattle.std.proofs.Common.{◌≡◌, ◌⊎◌, ℕ, List, IfSome, None, Option, Some, Ok, Err, false, true, length, refl, sym, ap, subst, ◌∙◌, inl, inr}
use Rattle.bao_windows.specs.declared.fault.GatherFault.{GatherFault as Cause}
use Rattle.bao_windows.specs.declared.fault.GatherFault.TheVariants.{Starved, TooLarge, Unfinished}
use Rattle.holders.specs.Blobs.{HasCollision}
use Rattle.holders.specs.Lists.{IsFromSource}
use Rattle.bao_files.specs.Disks.{FileState}
use Rattle.bao_windows.specs.Written.{AreTooLong}
use Rattle.holders.specs.declared.fixed.Fixed.{Fixed}
use Rattle.bao_tasks.specs.declared.gathered_fault.GatheredFault.TheVariants.{File, Gather}
use Rattle.bao_files.specs.declared.fault.FileFault.TheVariants.{Read}
use Rattle.bao_tasks.specs.FromFiles.{AreEnough, IsExcusedGathering, IsFromFile, IsInFile, file_bytes, fixed_of}
use Rattle.bao_tasks.specs.GatheredFaults.{AreAbsent}
use Rattle.bao_tasks.specs.MissingInFiles.{IsLackIn, IsReachIn}
use Rattle.bao_tasks.specs.declared.missing.Lack.{Lack}
use Rattle.bao_tasks.specs.TakenFiles.{AreOfFiles, HasSound}
use Rattle.bao_tasks.specs.Givens.{given_contents, is_given_faultless, most_bytes, shown_contents, shown_faultless}
use Rattle.bao_tasks.proofs.FromFiles.{drafted_of, excused_end, fault_of, first_unread, long_wider, met_or_pair, no_sources, none_untried, not_of_reading, not_open, not_other_root, one_large, pair_of_files, right_draft, same_ok, untried_draft}
use Rattle.bao_tasks.proofs.MissingInFiles.{lack_as}
use Rattle.bao_tasks.proofs.Together.{all_taken, enough_wider}
use Rattle.bao_tasks.proofs.gathering.drafted.Given.{Over}
use Rattle.bao_tasks.proofs.gathering.drafted.Goals as goal
use Rattle.bao_tasks.proofs.gathering.drafted.Goals.{After-attempt, After-attempt-2}

-- the sources of each try are of the files
first_of : (g : Over) (c : After-attempt g) → AreOfFiles (shown_contents {P = g.row.P.Denot} (given_contents g.D.Input.Source.contents)) (shown_faultless {P = g.row.P.Denot} (is_given_faultless g.D.Input.Source.faultless)) (g.D.Disk.faultless c.args.disk.now) (IsReachIn c.args.how.now.wanted c.args.how.now.long c.args.how.now.capacity (g.D.Disk.at c.args.disk.now) c.args.files.now) (λ n. file_bytes (most_bytes c.args.how.now.wanted.form n) (g.D.Disk.at c.args.disk.now)) c.args.files.now c.take_files.new.taken.givens.items
first_of g c = c.take_files.ensures.files (no_sources (shown_contents {P = g.row.P.Denot} (given_contents g.D.Input.Source.contents)) (shown_faultless {P = g.row.P.Denot} (is_given_faultless g.D.Input.Source.faultless)) (g.D.Disk.faultless c.args.disk.now) (IsReachIn c.args.how.now.wanted c.args.how.now.long c.args.how.now.capacity (g.D.Disk.at c.args.disk.now) c.args.files.now) (λ n. file_bytes (most_bytes c.args.how.now.wanted.form n) (g.D.Disk.at c.args.disk.now)) c.args.files.now c.new.result.items c.new.ensures.items)

second_of : (g : Over) (c : After-attempt-2 g) → AreOfFiles (shown_contents {P = g.row.P.Denot} (given_contents g.D.Input.Source.contents)) (shown_faultless {P = g.row.P.Denot} (is_given_faultless g.D.Input.Source.faultless)) (g.D.Disk.faultless c.args.disk.now) (IsReachIn c.args.how.now.wanted c.args.how.now.long c.args.how.now.capacity (g.D.Disk.at c.args.disk.now) c.args.files.now) (λ n. file_bytes (most_bytes c.args.how.now.wanted.form n) (g.D.Disk.at c.args.disk.now)) c.args.files.now c.take_files-2.new.taken.givens.items
second_of g c = c.take_files-2.ensures.files (c.take_files.ensures.files (no_sources (shown_contents {P = g.row.P.Denot} (given_contents g.D.Input.Source.contents)) (shown_faultless {P = g.row.P.Denot} (is_given_faultless g.D.Input.Source.faultless)) (g.D.Disk.faultless c.args.disk.now) (IsReachIn c.args.how.now.wanted c.args.how.now.long c.args.how.now.capacity (g.D.Disk.at c.args.disk.now) c.args.files.now) (λ n. file_bytes (most_bytes c.args.how.now.wanted.form n) (g.D.Disk.at c.args.disk.now)) c.args.files.now c.new.result.items c.new.ensures.items))

-- so that a collision from a piece of theirs is one from a piece of the files
first_wide : (g : Over) (c : After-attempt g) → (g.D.Disk.faultless c.args.disk.now) → (blob : List ℕ) → HasCollision (IsFromSource c.args.how.now.wanted.form (shown_contents {P = g.row.P.Denot} (given_contents g.D.Input.Source.contents)) (shown_faultless {P = g.row.P.Denot} (is_given_faultless g.D.Input.Source.faultless)) c.take_files.new.taken.givens.items) (fixed_of c.args.how.now) blob → HasCollision (IsFromFile c.args.how.now.wanted.form (fixed_of c.args.how.now) c.args.how.now.long (g.D.Disk.at c.args.disk.now) c.args.files.now) (fixed_of c.args.how.now) blob
first_wide g c surely blob pair =
    pair_of_files c.args.how.now.wanted.form (shown_contents {P = g.row.P.Denot} (given_contents g.D.Input.Source.contents)) (shown_faultless {P = g.row.P.Denot} (is_given_faultless g.D.Input.Source.faultless)) (g.D.Disk.faultless c.args.disk.now) (fixed_of c.args.how.now) c.args.how.now.long (g.D.Disk.at c.args.disk.now) c.args.files.now c.take_files.new.taken.givens.items surely (first_of g c) (fixed_of c.args.how.now) blob pair

second_wide : (g : Over) (c : After-attempt-2 g) → (g.D.Disk.faultless c.args.disk.now) → (blob : List ℕ) → HasCollision (IsFromSource c.args.how.now.wanted.form (shown_contents {P = g.row.P.Denot} (given_contents g.D.Input.Source.contents)) (shown_faultless {P = g.row.P.Denot} (is_given_faultless g.D.Input.Source.faultless)) c.take_files-2.new.taken.givens.items) (fixed_of c.args.how.now) blob → HasCollision (IsFromFile c.args.how.now.wanted.form (fixed_of c.args.how.now) c.args.how.now.long (g.D.Disk.at c.args.disk.now) c.args.files.now) (fixed_of c.args.how.now) blob
second_wide g c surely blob pair =
    pair_of_files c.args.how.now.wanted.form (shown_contents {P = g.row.P.Denot} (given_contents g.D.Input.Source.contents)) (shown_faultless {P = g.row.P.Denot} (is_given_faultless g.D.Input.Source.faultless)) (g.D.Disk.faultless c.args.disk.now) (fixed_of c.args.how.now) c.args.how.now.long (g.D.Disk.at c.args.disk.now) c.args.files.now c.take_files-2.new.taken.givens.items surely (second_of g c) (fixed_of c.args.how.now) blob pair

-- where no file is there, the tries have no sources
first_none : (g : Over) (c : After-attempt g) → AreAbsent (g.D.Disk.at c.args.disk.now) c.args.files.now → length c.take_files.new.taken.givens.items ≡ 0
first_none g c none = ap length (c.take_files.ensures.absent none ∙ c.new.ensures.items)

second_none : (g : Over) (c : After-attempt-2 g) → AreAbsent (g.D.Disk.at c.args.disk.now) c.args.files.now → length c.take_files-2.new.taken.givens.items ≡ c.attempt.new.tried.count
second_none g c none =
    let first : length c.take_files.new.taken.givens.items ≡ 0 = ap length (c.take_files.ensures.absent none ∙ c.new.ensures.items) in
    ap length (c.take_files-2.ensures.absent none) ∙ first ∙ sym (ap (λ t. t.count) (c.attempt.ensures.same first))

pub returns-in-Ok-Some-clause-absent : goal.returns-in-Ok-Some-clause-absent
returns-in-Ok-Some-clause-absent g c = λ none.
    untried_draft _ c.attempt.result c.in-Ok-Some.field-0 c.in-Ok-Some.made (c.attempt.ensures.none (first_none g (goal.at.returns-in-Ok-Some-clause-absent g c).After-attempt none))
    c.in-Ok-Some.is c.in-Ok-Some.field-0-is

pub returns-in-Err-clause-absent : goal.returns-in-Err-clause-absent
returns-in-Err-clause-absent g c = λ none.
    first_unread c.args.files.now c.attempt.result c.in-Err.fault (c.attempt.ensures.none (first_none g (goal.at.returns-in-Err-clause-absent g c).After-attempt none)) c.in-Err.is

pub returns-in-Ok-Some-attempt-clause-absent : goal.returns-in-Ok-Some-attempt-clause-absent
returns-in-Ok-Some-attempt-clause-absent g c = λ none.
    untried_draft _ c.attempt-2.result c.in-Ok-Some-attempt.field-0 c.in-Ok-Some-attempt.made (c.attempt-2.ensures.none (second_none g (goal.at.returns-in-Ok-Some-attempt-clause-absent g c).After-attempt-2 none))
    c.in-Ok-Some-attempt.is c.in-Ok-Some-attempt.field-0-is

pub returns-in-Err-attempt-clause-absent : goal.returns-in-Err-attempt-clause-absent
returns-in-Err-attempt-clause-absent g c = λ none.
    first_unread c.args.files.now c.attempt-2.result c.in-Err-attempt.fault (c.attempt-2.ensures.none (second_none g (goal.at.returns-in-Err-attempt-clause-absent g c).After-attempt-2 none))
    c.in-Err-attempt.is

pub returns-clause-absent : goal.returns-clause-absent
returns-clause-absent g c = λ none.
    let first = first_none g (goal.at.returns-clause-absent g c).After-attempt none in
    let second = second_none g (goal.at.returns-clause-absent g c).After-attempt-2 none in
    c.cause_of.ensures.none (ap (λ t. t.met) (c.attempt-2.ensures.same second) ∙ ap (λ t. t.met) (c.attempt.ensures.same first))

pub returns-in-Err-clause-unread : goal.returns-in-Err-clause-unread
returns-in-Err-clause-unread g c = λ path is surely text there. let named : c.in-Err.fault ≡ File (Read path) = cc in not_of_reading c.in-Err.fault path c.in-Err.ensures.fault.2 named

pub returns-in-Err-attempt-clause-unread : goal.returns-in-Err-attempt-clause-unread
returns-in-Err-attempt-clause-unread g c = λ path is surely text there.
    let named : c.in-Err-attempt.fault ≡ File (Read path) = cc in not_of_reading c.in-Err-attempt.fault path c.in-Err-attempt.ensures.fault.2 named

pub returns-clause-looked : goal.returns-clause-looked
returns-clause-looked g c = elim c.lack_left.ensures.unasked [
  | inl met ↦
      let said : c.cause_of.result ≡ Gather Unfinished = subst (λ (m : Option Cause). IfSome m (λ f. c.cause_of.result ≡ Gather f)) met.0 (c.cause_of.ensures.met met.1) in
      inl (ap Err said)
  | inr unasked ↦ inr (inr unasked)
]

pub returns-clause-listed : goal.returns-clause-listed
returns-clause-listed g c = λ is surely.
    let how = c.args.how.now in
    let at : List ℕ → FileState = g.D.Disk.at c.args.disk.now in
    let contents = shown_contents {P = g.row.P.Denot} (given_contents g.D.Input.Source.contents) in
    let faultless = shown_faultless {P = g.row.P.Denot} (is_given_faultless g.D.Input.Source.faultless) in
    let sources = c.take_files-2.new.taken.givens.items in
    let Noted : Lack → Type 0 = IsLackIn how.wanted how.long how.capacity how.parts at c.args.files.now in
    let said : c.cause_of.result ≡ Gather Unfinished = cc in
    let why = c.cause_of.ensures.unfinished said in
    elim why.1 [
      | inl met ↦ elim (c.lack_left.ensures.lack met why.0) [
        | inl unasked ↦ subst Noted (sym unasked.1) (inl unasked.0)
        | inr lack ↦
            lack_as contents faultless (g.D.Disk.faultless c.args.disk.now) how.wanted how.long how.capacity how.parts at c.args.files.now sources surely (second_of g (goal.at.returns-clause-listed g c).After-attempt-2)
            (λ text is. elim (c.take_files.ensures.there refl surely is.0 is.1 text is.2 is.3 is.4) [
              | inl starved ↦ (let no : true ≡ false = sym (c.take_files-2.ensures.starved starved) ∙ why.0 in cc)
              | inr has ↦ c.take_files-2.ensures.kept text has
            ]) c.lack_left.result lack
      ]
      | inr none ↦ elim c.lack_left.ensures.unasked [
        | inl met ↦ (let no : None ≡ Some Unfinished = sym none.0 ∙ met.0 in cc)
        | inr unasked ↦ subst Noted (sym unasked) (inr none.1)
      ]
    ]

pub returns-in-Err-clause-listed : goal.returns-in-Err-clause-listed
returns-in-Err-clause-listed g c = λ is surely.
    let left : c.in-Err.fault ≡ Gather Unfinished = cc in absurd (not_open c.in-Err.fault Unfinished c.in-Err.ensures.closed refl left)

pub returns-in-Err-attempt-clause-listed : goal.returns-in-Err-attempt-clause-listed
returns-in-Err-attempt-clause-listed g c = λ is surely.
    let left : c.in-Err-attempt.fault ≡ Gather Unfinished = cc in absurd (not_open c.in-Err-attempt.fault Unfinished c.in-Err-attempt.ensures.closed refl left)

pub returns-clause-unread : goal.returns-clause-unread
returns-clause-unread g c = λ path is surely text there.
    let named : c.cause_of.result ≡ File (Read path) = cc in
    let said = c.cause_of.ensures.unread path named in
    let left : c.attempt.result ≡ Ok None = same_ok c.attempt.result c.in-Ok-None.field-0 None c.in-Ok-None.is c.in-Ok-None.field-0-is in
    let left_again : c.attempt-2.result ≡ Ok None = same_ok c.attempt-2.result c.in-Ok-None-attempt.field-0 None c.in-Ok-None-attempt.is c.in-Ok-None-attempt.field-0-is in
    let first = c.attempt.ensures.unmet left (inl refl) in
    let second = c.attempt-2.ensures.unmet left_again first.1 in
    elim (c.take_files.ensures.there refl surely there.0 there.1 text there.2 there.3 there.4) [
      | inl starved ↦ (let no : true ≡ false = sym (c.take_files-2.ensures.starved starved) ∙ said.0 in cc)
      | inr has ↦
          none_untried (shown_contents {P = g.row.P.Denot} (given_contents g.D.Input.Source.contents)) (shown_faultless {P = g.row.P.Denot} (is_given_faultless g.D.Input.Source.faultless))
          c.take_files-2.new.taken.givens.items c.attempt-2.new.tried.count c.attempt-2.new.tried.met text (second.0 refl) second.1 said.1 (c.take_files-2.ensures.kept text has)
    ]

pub returns-in-Err-clause-paths : goal.returns-in-Err-clause-paths
returns-in-Err-clause-paths g c = c.in-Err.ensures.fault.3 c.args.files.now

pub returns-in-Err-attempt-clause-paths : goal.returns-in-Err-attempt-clause-paths
returns-in-Err-attempt-clause-paths g c = c.in-Err-attempt.ensures.fault.3 c.args.files.now

pub returns-in-Ok-Some-clause-available : goal.returns-in-Ok-Some-clause-available
returns-in-Ok-Some-clause-available g c = λ surely known blob enough.
    drafted_of g.D.Draft.Write.contents c.args.how.now c.args.how.now.wanted.mode blob (HasCollision (IsFromFile c.args.how.now.wanted.form (fixed_of c.args.how.now) c.args.how.now.long (g.D.Disk.at c.args.disk.now) c.args.files.now) (fixed_of c.args.how.now) blob) (HasCollision (IsFromSource c.args.how.now.wanted.form (shown_contents {P = g.row.P.Denot} (given_contents g.D.Input.Source.contents)) (shown_faultless {P = g.row.P.Denot} (is_given_faultless g.D.Input.Source.faultless)) c.take_files.new.taken.givens.items) (fixed_of c.args.how.now) blob) c.attempt.result c.in-Ok-Some.field-0 c.in-Ok-Some.made (c.attempt.ensures.right known blob enough.root)
    (first_wide g (goal.at.returns-in-Ok-Some-clause-available g c).After-attempt surely blob) c.in-Ok-Some.is c.in-Ok-Some.field-0-is

pub returns-in-Ok-Some-clause-right : goal.returns-in-Ok-Some-clause-right
returns-in-Ok-Some-clause-right g c = λ surely known blob is.
    right_draft g.D.Draft.Write.contents c.args.how.now c.args.how.now.wanted.mode blob (HasCollision (IsFromFile c.args.how.now.wanted.form (fixed_of c.args.how.now) c.args.how.now.long (g.D.Disk.at c.args.disk.now) c.args.files.now) (fixed_of c.args.how.now) blob) (Ok c.in-Ok-Some.made)
    (drafted_of g.D.Draft.Write.contents c.args.how.now c.args.how.now.wanted.mode blob (HasCollision (IsFromFile c.args.how.now.wanted.form (fixed_of c.args.how.now) c.args.how.now.long (g.D.Disk.at c.args.disk.now) c.args.files.now) (fixed_of c.args.how.now) blob) (HasCollision (IsFromSource c.args.how.now.wanted.form (shown_contents {P = g.row.P.Denot} (given_contents g.D.Input.Source.contents)) (shown_faultless {P = g.row.P.Denot} (is_given_faultless g.D.Input.Source.faultless)) c.take_files.new.taken.givens.items) (fixed_of c.args.how.now) blob) c.attempt.result c.in-Ok-Some.field-0 c.in-Ok-Some.made (c.attempt.ensures.right known blob is)
    (first_wide g (goal.at.returns-in-Ok-Some-clause-right g c).After-attempt surely blob) c.in-Ok-Some.is c.in-Ok-Some.field-0-is)

pub returns-in-Err-clause-available : goal.returns-in-Err-clause-available
returns-in-Err-clause-available g c = λ surely known blob enough.
    fault_of g.D.Draft.Write.contents c.args.how.now c.args.how.now.wanted.mode blob (HasCollision (IsFromFile c.args.how.now.wanted.form (fixed_of c.args.how.now) c.args.how.now.long (g.D.Disk.at c.args.disk.now) c.args.files.now) (fixed_of c.args.how.now) blob) (HasCollision (IsFromSource c.args.how.now.wanted.form (shown_contents {P = g.row.P.Denot} (given_contents g.D.Input.Source.contents)) (shown_faultless {P = g.row.P.Denot} (is_given_faultless g.D.Input.Source.faultless)) c.take_files.new.taken.givens.items) (fixed_of c.args.how.now) blob) c.attempt.result c.in-Err.fault (c.attempt.ensures.right known blob enough.root)
    (first_wide g (goal.at.returns-in-Err-clause-available g c).After-attempt surely blob) c.in-Err.is

pub returns-in-Err-clause-right : goal.returns-in-Err-clause-right
returns-in-Err-clause-right g c = λ surely known blob is.
    right_draft g.D.Draft.Write.contents c.args.how.now c.args.how.now.wanted.mode blob (HasCollision (IsFromFile c.args.how.now.wanted.form (fixed_of c.args.how.now) c.args.how.now.long (g.D.Disk.at c.args.disk.now) c.args.files.now) (fixed_of c.args.how.now) blob) (Err c.in-Err.fault)
    (fault_of g.D.Draft.Write.contents c.args.how.now c.args.how.now.wanted.mode blob (HasCollision (IsFromFile c.args.how.now.wanted.form (fixed_of c.args.how.now) c.args.how.now.long (g.D.Disk.at c.args.disk.now) c.args.files.now) (fixed_of c.args.how.now) blob) (HasCollision (IsFromSource c.args.how.now.wanted.form (shown_contents {P = g.row.P.Denot} (given_contents g.D.Input.Source.contents)) (shown_faultless {P = g.row.P.Denot} (is_given_faultless g.D.Input.Source.faultless)) c.take_files.new.taken.givens.items) (fixed_of c.args.how.now) blob) c.attempt.result c.in-Err.fault (c.attempt.ensures.right known blob is)
    (first_wide g (goal.at.returns-in-Err-clause-right g c).After-attempt surely blob) c.in-Err.is)

pub returns-in-Err-clause-too_large : goal.returns-in-Err-clause-too_large
returns-in-Err-clause-too_large g c = λ slices surely is.
    let large : c.in-Err.fault ≡ Gather TooLarge = cc in
    absurd {A = AreTooLong (IsFromFile c.args.how.now.wanted.form (fixed_of c.args.how.now) c.args.how.now.long (g.D.Disk.at c.args.disk.now) c.args.files.now) (fixed_of c.args.how.now) c.args.how.now.capacity} (not_open c.in-Err.fault TooLarge c.in-Err.ensures.closed refl large)

pub returns-in-Ok-Some-attempt-clause-available : goal.returns-in-Ok-Some-attempt-clause-available
returns-in-Ok-Some-attempt-clause-available g c = λ surely known blob enough.
    drafted_of g.D.Draft.Write.contents c.args.how.now c.args.how.now.wanted.mode blob (HasCollision (IsFromFile c.args.how.now.wanted.form (fixed_of c.args.how.now) c.args.how.now.long (g.D.Disk.at c.args.disk.now) c.args.files.now) (fixed_of c.args.how.now) blob) (HasCollision (IsFromSource c.args.how.now.wanted.form (shown_contents {P = g.row.P.Denot} (given_contents g.D.Input.Source.contents)) (shown_faultless {P = g.row.P.Denot} (is_given_faultless g.D.Input.Source.faultless)) c.take_files-2.new.taken.givens.items) (fixed_of c.args.how.now) blob) c.attempt-2.result c.in-Ok-Some-attempt.field-0 c.in-Ok-Some-attempt.made (c.attempt-2.ensures.right known blob enough.root)
    (second_wide g (goal.at.returns-in-Ok-Some-attempt-clause-available g c).After-attempt-2 surely blob) c.in-Ok-Some-attempt.is c.in-Ok-Some-attempt.field-0-is

pub returns-in-Ok-Some-attempt-clause-right : goal.returns-in-Ok-Some-attempt-clause-right
returns-in-Ok-Some-attempt-clause-right g c = λ surely known blob is.
    right_draft g.D.Draft.Write.contents c.args.how.now c.args.how.now.wanted.mode blob (HasCollision (IsFromFile c.args.how.now.wanted.form (fixed_of c.args.how.now) c.args.how.now.long (g.D.Disk.at c.args.disk.now) c.args.files.now) (fixed_of c.args.how.now) blob) (Ok c.in-Ok-Some-attempt.made)
    (drafted_of g.D.Draft.Write.contents c.args.how.now c.args.how.now.wanted.mode blob (HasCollision (IsFromFile c.args.how.now.wanted.form (fixed_of c.args.how.now) c.args.how.now.long (g.D.Disk.at c.args.disk.now) c.args.files.now) (fixed_of c.args.how.now) blob) (HasCollision (IsFromSource c.args.how.now.wanted.form (shown_contents {P = g.row.P.Denot} (given_contents g.D.Input.Source.contents)) (shown_faultless {P = g.row.P.Denot} (is_given_faultless g.D.Input.Source.faultless)) c.take_files-2.new.taken.givens.items) (fixed_of c.args.how.now) blob) c.attempt-2.result c.in-Ok-Some-attempt.field-0 c.in-Ok-Some-attempt.made (c.attempt-2.ensures.right known blob is)
    (second_wide g (goal.at.returns-in-Ok-Some-attempt-clause-right g c).After-attempt-2 surely blob) c.in-Ok-Some-attempt.is c.in-Ok-Some-attempt.field-0-is)

pub returns-in-Err-attempt-clause-available : goal.returns-in-Err-attempt-clause-available
returns-in-Err-attempt-clause-available g c = λ surely known blob enough.
    fault_of g.D.Draft.Write.contents c.args.how.now c.args.how.now.wanted.mode blob (HasCollision (IsFromFile c.args.how.now.wanted.form (fixed_of c.args.how.now) c.args.how.now.long (g.D.Disk.at c.args.disk.now) c.args.files.now) (fixed_of c.args.how.now) blob) (HasCollision (IsFromSource c.args.how.now.wanted.form (shown_contents {P = g.row.P.Denot} (given_contents g.D.Input.Source.contents)) (shown_faultless {P = g.row.P.Denot} (is_given_faultless g.D.Input.Source.faultless)) c.take_files-2.new.taken.givens.items) (fixed_of c.args.how.now) blob) c.attempt-2.result c.in-Err-attempt.fault (c.attempt-2.ensures.right known blob enough.root)
    (second_wide g (goal.at.returns-in-Err-attempt-clause-available g c).After-attempt-2 surely blob) c.in-Err-attempt.is

pub returns-in-Err-attempt-clause-right : goal.returns-in-Err-attempt-clause-right
returns-in-Err-attempt-clause-right g c = λ surely known blob is.
    right_draft g.D.Draft.Write.contents c.args.how.now c.args.how.now.wanted.mode blob (HasCollision (IsFromFile c.args.how.now.wanted.form (fixed_of c.args.how.now) c.args.how.now.long (g.D.Disk.at c.args.disk.now) c.args.files.now) (fixed_of c.args.how.now) blob) (Err c.in-Err-attempt.fault)
    (fault_of g.D.Draft.Write.contents c.args.how.now c.args.how.now.wanted.mode blob (HasCollision (IsFromFile c.args.how.now.wanted.form (fixed_of c.args.how.now) c.args.how.now.long (g.D.Disk.at c.args.disk.now) c.args.files.now) (fixed_of c.args.how.now) blob) (HasCollision (IsFromSource c.args.how.now.wanted.form (shown_contents {P = g.row.P.Denot} (given_contents g.D.Input.Source.contents)) (shown_faultless {P = g.row.P.Denot} (is_given_faultless g.D.Input.Source.faultless)) c.take_files-2.new.taken.givens.items) (fixed_of c.args.how.now) blob) c.attempt-2.result c.in-Err-attempt.fault (c.attempt-2.ensures.right known blob is)
    (second_wide g (goal.at.returns-in-Err-attempt-clause-right g c).After-attempt-2 surely blob) c.in-Err-attempt.is)

pub returns-in-Err-attempt-clause-too_large : goal.returns-in-Err-attempt-clause-too_large
returns-in-Err-attempt-clause-too_large g c = λ slices surely is.
    let large : c.in-Err-attempt.fault ≡ Gather TooLarge = cc in
    absurd {A = AreTooLong (IsFromFile c.args.how.now.wanted.form (fixed_of c.args.how.now) c.args.how.now.long (g.D.Disk.at c.args.disk.now) c.args.files.now) (fixed_of c.args.how.now) c.args.how.now.capacity} (not_open c.in-Err-attempt.fault TooLarge c.in-Err-attempt.ensures.closed refl large)

pub returns-clause-available : goal.returns-clause-available
returns-clause-available g c = λ surely known blob enough.
    let left : c.attempt.result ≡ Ok None = same_ok c.attempt.result c.in-Ok-None.field-0 None c.in-Ok-None.is c.in-Ok-None.field-0-is in
    let left_again : c.attempt-2.result ≡ Ok None = same_ok c.attempt-2.result c.in-Ok-None-attempt.field-0 None c.in-Ok-None-attempt.is c.in-Ok-None-attempt.field-0-is in
    let form = c.args.how.now.wanted.form in
    let how = c.args.how.now in
    let fixed : Fixed = fixed_of how in
    let In : List ℕ → Type 0 = IsInFile (g.D.Disk.at c.args.disk.now) c.args.files.now in
    let First : List ℕ → Type 0 = HasSound (shown_contents {P = g.row.P.Denot} (given_contents g.D.Input.Source.contents)) (shown_faultless {P = g.row.P.Denot} (is_given_faultless g.D.Input.Source.faultless)) c.take_files.new.taken.givens.items in
    let Second : List ℕ → Type 0 = HasSound (shown_contents {P = g.row.P.Denot} (given_contents g.D.Input.Source.contents)) (shown_faultless {P = g.row.P.Denot} (is_given_faultless g.D.Input.Source.faultless)) c.take_files-2.new.taken.givens.items in
    let P : Type 0 = HasCollision (IsFromFile form fixed how.long (g.D.Disk.at c.args.disk.now) c.args.files.now) fixed blob in
    let all : (c.take_files.new.taken.starved ≡ true) ⊎ ((text : List ℕ) → In text → First text) =
    all_taken c.take_files.new.taken.starved In First (λ text is. c.take_files.ensures.there refl surely is.0 is.1 text is.2 is.3 is.4) in
    let taken : (c.take_files.new.taken.starved ≡ true) ⊎ AreEnough form fixed how blob First =
    elim all [ inl starved ↦ inl starved | inr wider ↦ inr (enough_wider In First wider form fixed how blob enough) ] in
    excused_end (c.take_files.new.taken.starved ≡ true) (c.take_files-2.new.taken.starved ≡ true) (AreEnough form fixed how blob First) (AreEnough form fixed how blob Second)
    (c.attempt.new.tried.met ≡ Some Starved) (c.attempt-2.new.tried.met ≡ Some Starved) (IsExcusedGathering c.cause_of.result) P taken
    (λ has. met_or_pair (c.attempt.new.tried.met ≡ Some Starved) P (HasCollision (IsFromSource form (shown_contents {P = g.row.P.Denot} (given_contents g.D.Input.Source.contents)) (shown_faultless {P = g.row.P.Denot} (is_given_faultless g.D.Input.Source.faultless)) c.take_files.new.taken.givens.items) fixed blob) (c.attempt.ensures.left left known blob has (inl refl)) (first_wide g (goal.at.returns-clause-available g c).After-attempt surely blob)) c.take_files-2.ensures.starved
    (λ has. enough_wider First Second c.take_files-2.ensures.kept form fixed how blob has)
    (λ has met. met_or_pair (c.attempt-2.new.tried.met ≡ Some Starved) P (HasCollision (IsFromSource form (shown_contents {P = g.row.P.Denot} (given_contents g.D.Input.Source.contents)) (shown_faultless {P = g.row.P.Denot} (is_given_faultless g.D.Input.Source.faultless)) c.take_files-2.new.taken.givens.items) fixed blob) (c.attempt-2.ensures.left left_again known blob has (inr met)) (second_wide g (goal.at.returns-clause-available g c).After-attempt-2 surely blob)) c.cause_of.ensures.excused

pub returns-clause-right : goal.returns-clause-right
returns-clause-right g c = λ surely known blob is. inl (not_other_root c.cause_of.result c.attempt-2.new.tried.met c.cause_of.ensures.cause (c.attempt-2.ensures.met (c.attempt.ensures.met tt)))

pub returns-clause-too_large : goal.returns-clause-too_large
returns-clause-too_large g c = λ slices surely is.
    let first : c.attempt.new.tried.met ≡ Some TooLarge → AreTooLong (IsFromFile c.args.how.now.wanted.form (fixed_of c.args.how.now) c.args.how.now.long (g.D.Disk.at c.args.disk.now) c.args.files.now) (fixed_of c.args.how.now) c.args.how.now.capacity = λ met.
    elim (c.attempt.ensures.too_large slices met) [
      | inl never ↦ (let no : None ≡ Some TooLarge = never in cc)
      | inr long ↦ long_wider (IsFromSource c.args.how.now.wanted.form (shown_contents {P = g.row.P.Denot} (given_contents g.D.Input.Source.contents)) (shown_faultless {P = g.row.P.Denot} (is_given_faultless g.D.Input.Source.faultless)) c.take_files.new.taken.givens.items) (IsFromFile c.args.how.now.wanted.form (fixed_of c.args.how.now) c.args.how.now.long (g.D.Disk.at c.args.disk.now) c.args.files.now) (fixed_of c.args.how.now) c.args.how.now.capacity (first_wide g (goal.at.returns-clause-too_large g c).After-attempt surely) long
    ] in
    let second : c.attempt-2.new.tried.met ≡ Some TooLarge → (c.attempt.new.tried.met ≡ Some TooLarge) ⊎ AreTooLong (IsFromFile c.args.how.now.wanted.form (fixed_of c.args.how.now) c.args.how.now.long (g.D.Disk.at c.args.disk.now) c.args.files.now) (fixed_of c.args.how.now) c.args.how.now.capacity = λ met.
    elim (c.attempt-2.ensures.too_large slices met) [
      | inl before ↦ inl before
      | inr long ↦ inr (long_wider (IsFromSource c.args.how.now.wanted.form (shown_contents {P = g.row.P.Denot} (given_contents g.D.Input.Source.contents)) (shown_faultless {P = g.row.P.Denot} (is_given_faultless g.D.Input.Source.faultless)) c.take_files-2.new.taken.givens.items) (IsFromFile c.args.how.now.wanted.form (fixed_of c.args.how.now) c.args.how.now.long (g.D.Disk.at c.args.disk.now) c.args.files.now) (fixed_of c.args.how.now) c.args.how.now.capacity (second_wide g (goal.at.returns-clause-too_large g c).After-attempt-2 surely) long)
    ] in
    let large : c.cause_of.result ≡ Gather TooLarge = cc in
    one_large c.cause_of.result c.attempt.new.tried.met c.attempt-2.new.tried.met (AreTooLong (IsFromFile c.args.how.now.wanted.form (fixed_of c.args.how.now) c.args.how.now.long (g.D.Disk.at c.args.disk.now) c.args.files.now) (fixed_of c.args.how.now) c.args.how.now.capacity) c.cause_of.ensures.cause first second large
