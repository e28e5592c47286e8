use Rattle.std.proofs.Common.{◌≡◌, ◌≢◌, ◌≤◌, ◌⊎◌, ℕ, Bool, List, [], Option, None, Some, length, Result, Ok, Err, Bor, IfErr, IfOk, IsErrAnd, IsSome, OnErr, OnOk, ◌-◌, ◌^◌, if◌then◌else◌, inl, inr, ap, arith, refl, subst, sym, ◌∙◌}
use Rattle.b3tree.specs.declared.mode.Mode.{Mode}
use Rattle.bao_windows.specs.declared.fault.GatherFault.TheVariants as gather
use Rattle.std.specs.Io.KnownBytes.{Appends}
use Rattle.bao_text.specs.Texts.{combined_text}
use Rattle.bao_files.specs.Disks.{FileState, IsKnown, KeepsFiles, Puts}
use Rattle.bao_files.specs.Printed as file
use Rattle.bao_files.specs.Printed.{ok_line}
use Rattle.bao_tasks.specs.FromFiles.{IsExcusedGathering, IsPutAt, IsRightAt}
use Rattle.bao_tasks.specs.Gathered.{HasOutlineIn, HasRootAndFits, gathered_text}
use Rattle.bao_tasks.specs.declared.gathered_fault.GatheredFault.{GatheredFault}
use Rattle.bao_tasks.specs.declared.gathered_fault.GatheredFault.TheVariants.{File, Gather, Outboard}
use Rattle.bao_tasks.specs.declared.gathering.Gathering.{Gathering}
use Rattle.bao_command.specs.declared.fault.Fault.{Fault}
use Rattle.bao_command.specs.declared.fault.Fault.TheVariants.{Gather as Ungathered}
use Rattle.bao_files.specs.declared.fault.FileFault.{FileFault}
use Rattle.bao_tasks.specs.Listed.{lines_of_parts}
use Rattle.bao_tasks.specs.declared.missing.Lack.{Lack}
use Rattle.bao_tasks.specs.declared.missing.Lack.TheVariants.{Unasked}
use Rattle.bao_command.specs.Effects.{IsRelisted, KeepsButList, Lists, PutsBoth, parts_in}
use Rattle.bao_command.specs.Gaps.{IsLack, LeavesListOf}
use Rattle.bao_command.specs.Printed.{CommandPrints}
use Rattle.bao_command.specs.Refused.{IsEachBlob, IsRefusedGathering}
use Rattle.bao_command.specs.Status.{gathered_status_of}
use Rattle.bao_command.specs.Tasks.{IsBeside, IsOfFile, IsRight, LeavesFiles}
use Rattle.bao_request.specs.declared.tasks.GatherTask.{GatherTask}
use Rattle.bao_request.specs.declared.tasks.Task.TheVariants.{Gather as GatherOf}
use Rattle.holders.specs.declared.form.Form.TheVariants.{Slices}
use Rattle.holders.specs.declared.grain.Grain.{Grain}
use Rattle.holders.specs.declared.grain.Grain.TheVariants.{Group as ByGroup, Chunk as ByChunk}
use Rattle.hex.specs.Hex.{decode_of}
use Rattle.b3tree.specs.declared.values.Hash.{Hash as Root32}
use Rattle.bao_command.proofs.Listing.{list_of_file, not_looked}
use Rattle.bao_command.proofs.Telling.{file_refuses_none, no_refusal, no_usage, not_relisted, of_file_or, on_line, on_printed, told_prints}
use Rattle.bao_command.proofs.gathering.gather.Goals as goal
use Rattle.bao_command.proofs.gathering.gather.Goals.{in-None, in-Some}

-- what the task asks for
abbrev how_of : Root32 → Mode → GatherTask → Bool → ℕ → Grain → Gathering
how_of root mode task count parts grain = record {
  wanted = record { root = root; mode = mode; form = Slices; grain = grain };
  workers = task.workers;
  capacity = task.capacity;
  long = task.long;
  encode = task.encode;
  count = count;
  parts = parts;
}

-- a fault that isn't one of the files has another status than 1
excused_status : (fault : GatheredFault) → IsExcusedGathering fault → gathered_status_of fault ≢ 1
excused_status (File cause) excused is = file_refuses_none cause is
excused_status (Outboard cause) excused is = absurd excused
excused_status (Gather gather.TooLarge) excused is = absurd excused
excused_status (Gather gather.Unfinished) excused is = absurd excused
excused_status (Gather gather.NotTheRoot) excused is = absurd excused
excused_status (Gather gather.Memory) excused is = let bad : 4 ≡ 1 = is in omega arith
excused_status (Gather gather.Starved) excused is = let bad : 4 ≡ 1 = is in omega arith

-- what is left where the list, or printing, failed after the blob was put
list_left : (at after : List ℕ → FileState) (mode : Mode) (task : GatherTask) (between : List ℕ → FileState) (blob : List ℕ) (result : Result Unit Fault) → IfErr result IsOfFile
    → IsRight at mode (GatherOf task) blob → Puts at between task.out.now (Some (gathered_text task.encode mode blob)) → KeepsFiles between after
    → IfErr result (LeavesFiles at after mode (GatherOf task))
list_left at after mode task between blob (Ok done) of right put kept = tt
list_left at after mode task between blob (Err fault) of right put kept = inr (of, (blob, right, inr (between, put, kept)))

print_left : (at after : List ℕ → FileState) (mode : Mode) (task : GatherTask) (between : List ℕ → FileState) (blob : List ℕ) (result : Result Unit Fault) → IfErr result IsOfFile
    → IsRight at mode (GatherOf task) blob → Puts at between task.out.now (Some (gathered_text task.encode mode blob)) → Lists between after task.missing []
    → IfErr result (LeavesFiles at after mode (GatherOf task))
print_left at after mode task between blob (Ok done) of right put listed = tt
print_left at after mode task between blob (Err fault) of right put listed = inr (of, (blob, right, inl (between, put, listed)))

-- before the blob is put nothing has changed
before_put : (at between after : List ℕ → FileState) → KeepsFiles at between → KeepsFiles between after → KeepsFiles at after
before_put at between after one other path = other path ∙ one path

lists_after : (at between after : List ℕ → FileState) (list : Option (Bor (List ℕ))) (lines : List ℕ) → KeepsFiles at between → Lists between after list lines → Lists at after list lines
lists_after at between after None lines kept listed = before_put at between after kept listed
lists_after at between after (Some list) lines kept listed = record {
  put = λ known. listed.put (subst IsKnown (sym (kept list.now)) known);
  kept = λ other apart. listed.kept other apart ∙ kept other;
}

but_list : (at between after : List ℕ → FileState) (list : Option (Bor (List ℕ))) → KeepsFiles at between → KeepsButList between after list → KeepsButList at after list
but_list at between after list kept (inl also) = inl (before_put at between after kept also)
but_list at between after list kept (inr parts) = inr (parts.0, lists_after at between after list (lines_of_parts parts.0) kept parts.1)

-- the list is of the ranges that are known, or all files are as they were
some_list : (at after : List ℕ → FileState) (list : Option (Bor (List ℕ))) (lack : Lack) → KeepsFiles at after ⊎ Lists at after list (lines_of_parts (parts_in lack)) → KeepsButList at after list
some_list at after list lack (inl kept) = inl kept
some_list at after list lack (inr listed) = inr (parts_in lack, listed)

-- it is so after the fault
relists : (at between after : List ℕ → FileState) (list : Option (Bor (List ℕ))) (lack : Lack) (cause : GatheredFault) (unlisted : Option FileFault) → KeepsFiles at between
    → (gathered_status_of cause ≢ 2 → unlisted ≡ None → Lists between after list (lines_of_parts (parts_in lack))) → IsRelisted at after list (Ungathered cause unlisted)
relists at between after list lack cause unlisted kept listed = λ other is apart.
    let same : cause ≡ other = cc in
    let none : unlisted ≡ None = cc in
    (parts_in lack, lists_after at between after list (lines_of_parts (parts_in lack)) kept (listed (subst (λ (f : GatheredFault). gathered_status_of f ≢ 2) (sym same) apart) none))

of_residual : (result : Result Unit Fault) (fault : Fault) → IsErrAnd result (λ e. e ≡ fault) → IsOfFile fault → IfErr result IsOfFile
of_residual (Ok done) fault is of = tt
of_residual (Err e) fault is of = (of.0, is ∙ of.1)

-- where this blob isn't put for a fault with status 1, the other is so
other_is : {C : Type 0} (old new : List ℕ → FileState) (path : List ℕ) (how : Gathering) (mode : Mode) (blob : List ℕ) (result : Result ℕ GatheredFault) (fault : GatheredFault)
    → result ≡ Err fault → gathered_status_of fault ≡ 1 → IsPutAt old new path how mode blob result ⊎ C → C
other_is old new path how mode blob result fault is one (inl put) = absurd (excused_status fault (subst (IsPutAt old new path how mode blob) is put) one)
other_is old new path how mode blob result fault is one (inr c) = c

-- what was put is this blob, and its length was printed, or the other is so
each_blob : {C : Type 0} (at between after : List ℕ → FileState) (out : List ℕ) (how : Gathering) (mode : Mode) (list : Option (Bor (List ℕ))) (old new : Option (List ℕ)) (count : ℕ)
    (blob : List ℕ) (result : Result ℕ GatheredFault) → result ≡ Ok count → Lists between after list [] → Appends old new (ok_line count)
    → IsRightAt at between out how mode blob result ⊎ C
    → (PutsBoth at after out (gathered_text how.encode mode blob) list × Appends old new (ok_line (length blob))) ⊎ C
each_blob at between after out how mode list old new count blob result is listed printed (inr c) = inr c
each_blob at between after out how mode list old new count blob result is listed printed (inl right) =
    let put : (count ≡ length blob) × Puts at between out (Some (gathered_text how.encode mode blob)) = subst (IsRightAt at between out how mode blob) is right in
    inl ((between, put.1, listed), subst (λ (n : ℕ). Appends old new (ok_line n)) put.0 printed)

-- A list that there is has the ranges that were found; without one no file has changed.
listed_gaps : (sure : Type 0) (at after : List ℕ → FileState) (mode : Mode) (task : GatherTask) (cause : GatheredFault) (unlisted : Option FileFault) (lack : Lack) (root : Root32) (most : ℕ)
    (list : Option (Bor (List ℕ))) → task.missing ≡ list → decode_of task.root.now ≡ Ok root.0 → (IsSome list → most ≡ 2 ^ 64 - 1) → Lists at after list (lines_of_parts (parts_in lack))
    → (cause ≢ Gather gather.Unfinished → lack ≡ Unasked)
    → (cause ≡ Gather gather.Unfinished → sure → IsLack root mode (if task.salvage then ByChunk else ByGroup) task.long task.capacity most at task.outboard task.files.items lack)
    → LeavesListOf sure at after mode (GatherOf task) (Ungathered cause unlisted)
listed_gaps sure at after mode task cause unlisted lack root most None is of all lists unasked right = inl lists
listed_gaps sure at after mode task cause unlisted lack root most (Some list) is of all lists unasked right = inr (inr (
  root,
  (
    of,
    record {
      cause = cause;
      unlisted = unlisted;
      is = refl;
      lack = lack;
      lists = subst (λ (named : Option (Bor (List ℕ))). Lists at after named (lines_of_parts (parts_in lack))) (sym is) lists;
      unasked = unasked;
      right = λ unfinished sound.
          subst (λ (n : ℕ). IsLack root mode (if task.salvage then ByChunk else ByGroup) task.long task.capacity n at task.outboard task.files.items lack) (all refl) (right unfinished sound);
    },
  ),
))

pub returns-in-Ok-gathered-clause-blob : goal.returns-in-Ok-gathered-clause-blob
returns-in-Ok-gathered-clause-blob g c =
    let mode = c.args.mode.now in
    let task = c.args.task.now in
    let how : Gathering = how_of c.in_ok-root.root c.args.mode.now task c.args.verbose c.parts_asked.result c.grain_of.result in
    let at = g.D.Disk.at c.args.disk.now in
    let after = g.D.Disk.at c.list_nothing.new.disk in
    let out : List ℕ = task.out.now in
    let list = task.missing in
    let root = c.in_ok-root.root in
    let count = c.in-Ok-gathered.count in
    let line : List ℕ = ok_line count in
    let old = g.O.Write.contents c.args.out.now in
    let new = g.O.Write.contents c.print_count.new.out in
    let told = subst (CommandPrints line old new) (sym c.told.ensures.prints) (told_prints line old new c.print_count.result c.print_count.ensures.prints) in
    on_line line old new c.told.result told (λ printed.
    let each : IsEachBlob (g.D.Disk.faultless c.args.disk.now) at after mode how.encode how.long how.capacity task.outboard c.as_slice-files.result.now out list old new root = elim c.match-task.branch [
      | in-None w ↦ rw w.in-None.is (λ sure known blob is_blob.
          each_blob at (g.D.Disk.at w.gather_on-gathered.new.disk) after out how mode list old new count blob w.gather_on-gathered.result (sym w.gathered-is ∙ c.in-Ok-gathered.is)
          (subst (λ d. Lists (g.D.Disk.at d) after list []) w.disk-is c.in_ok-list_nothing-in-Ok-gathered.ensures.lists) printed (w.gather_on-gathered.ensures.right sure known blob is_blob))
      | in-Some w ↦ rw w.in-Some.is (λ sure known blob is_blob.
          each_blob at (g.D.Disk.at w.gather_beside_on-gathered.new.disk) after out how mode list old new count blob w.gather_beside_on-gathered.result (sym w.gathered-is ∙ c.in-Ok-gathered.is)
          (subst (λ d. Lists (g.D.Disk.at d) after list []) w.disk-is c.in_ok-list_nothing-in-Ok-gathered.ensures.lists) printed (w.gather_beside_on-gathered.ensures.right sure known blob is_blob))
    ] in
    let all : IsEachBlob (g.D.Disk.faultless c.args.disk.now) at after mode task.encode task.long task.capacity task.outboard task.files.items out list old new root =
    subst (λ (files : List (Bor (List ℕ))). IsEachBlob (g.D.Disk.faultless c.args.disk.now) at after mode task.encode task.long task.capacity task.outboard files out list old new root) c.as_slice-files.ensures.value each in
    (root, (c.in_ok-root.ensures.ok, all)))

pub returns-in-Ok-gathered-clause-prints : goal.returns-in-Ok-gathered-clause-prints
returns-in-Ok-gathered-clause-prints g c =
    let mode = c.args.mode.now in
    let key : List ℕ = c.in_ok-root.root.0 in
    let task = c.args.task.now in
    let how : Gathering = how_of c.in_ok-root.root c.args.mode.now task c.args.verbose c.parts_asked.result c.grain_of.result in
    let at = g.D.Disk.at c.args.disk.now in
    let between = g.D.Disk.at c.match-task.disk in
    let out : List ℕ = task.out.now in
    let Made : (List ℕ → FileState) → ℕ → Type 0 =
    λ after count. (blob : List ℕ) × HasRootAndFits how mode key blob × (count ≡ length blob) × Puts at after out (Some (gathered_text how.encode mode blob)) in
    let gathered : IfOk c.match-task.gathered (Made between) = elim c.match-task.branch [
      | in-None w ↦
          subst (λ (r : Result ℕ GatheredFault). IfOk r (Made between)) (sym w.gathered-is)
          (subst (λ d. IfOk w.gather_on-gathered.result (Made (g.D.Disk.at d))) (sym w.disk-is) w.gather_on-gathered.ensures.done)
      | in-Some w ↦
          subst (λ (r : Result ℕ GatheredFault). IfOk r (Made between)) (sym w.gathered-is)
          (subst (λ d. IfOk w.gather_beside_on-gathered.result (Made (g.D.Disk.at d))) (sym w.disk-is) w.gather_beside_on-gathered.ensures.done)
    ] in
    let made : Made between c.in-Ok-gathered.count = subst (λ (r : Result ℕ GatheredFault). IfOk r (Made between)) c.in-Ok-gathered.is gathered in
    let beside : IsBeside at mode task.root.now task.outboard = elim c.match-task.branch [
      | in-None w ↦ rw w.in-None.is tt
      | in-Some w ↦
          let outline : HasOutlineIn (at w.in-Some.outboard.now) mode key =
          subst (λ (r : Result ℕ GatheredFault). OnOk r (HasOutlineIn (at w.in-Some.outboard.now) mode key)) (sym w.gathered-is ∙ c.in-Ok-gathered.is) w.gather_beside_on-gathered.ensures.outline in
          rw w.in-Some.is (key, (c.in_ok-root.ensures.ok, outline))
    ] in
    let few : length task.files.items ≤ 64 = subst (λ (xs : List (Bor (List ℕ))). length xs ≤ 64) c.as_slice-files.ensures.value (omega (arith, c.if-files-gt-MOST_FILES.false)) in
    let right : IsRight at mode (GatherOf task) made.0 = (few, (((key, (c.in_ok-root.ensures.ok, made.1.0, made.1.2)), made.1.1), beside)) in
    let line : List ℕ = ok_line (length made.0) in
    let old = g.O.Write.contents c.args.out.now in
    let new = g.O.Write.contents c.print_count.new.out in
    let printed = subst (λ (n : ℕ). file.Prints (file.ok_line n) old new c.print_count.result) made.2 c.print_count.ensures.prints in
    let told = told_prints line old new c.print_count.result printed in
    (made.0, on_printed c.told.result (right, (between, made.3, c.in_ok-list_nothing-in-Ok-gathered.ensures.lists)), subst (CommandPrints line old new) (sym c.told.ensures.prints) told)

pub returns-in-Ok-gathered-clause-files : goal.returns-in-Ok-gathered-clause-files
returns-in-Ok-gathered-clause-files g c =
    let mode = c.args.mode.now in
    let key : List ℕ = c.in_ok-root.root.0 in
    let task = c.args.task.now in
    let how : Gathering = how_of c.in_ok-root.root c.args.mode.now task c.args.verbose c.parts_asked.result c.grain_of.result in
    let at = g.D.Disk.at c.args.disk.now in
    let between = g.D.Disk.at c.match-task.disk in
    let out : List ℕ = task.out.now in
    let Made : (List ℕ → FileState) → ℕ → Type 0 =
    λ after count. (blob : List ℕ) × HasRootAndFits how mode key blob × (count ≡ length blob) × Puts at after out (Some (gathered_text how.encode mode blob)) in
    let gathered : IfOk c.match-task.gathered (Made between) = elim c.match-task.branch [
      | in-None w ↦
          subst (λ (r : Result ℕ GatheredFault). IfOk r (Made between)) (sym w.gathered-is)
          (subst (λ d. IfOk w.gather_on-gathered.result (Made (g.D.Disk.at d))) (sym w.disk-is) w.gather_on-gathered.ensures.done)
      | in-Some w ↦
          subst (λ (r : Result ℕ GatheredFault). IfOk r (Made between)) (sym w.gathered-is)
          (subst (λ d. IfOk w.gather_beside_on-gathered.result (Made (g.D.Disk.at d))) (sym w.disk-is) w.gather_beside_on-gathered.ensures.done)
    ] in
    let made : Made between c.in-Ok-gathered.count = subst (λ (r : Result ℕ GatheredFault). IfOk r (Made between)) c.in-Ok-gathered.is gathered in
    let beside : IsBeside at mode task.root.now task.outboard = elim c.match-task.branch [
      | in-None w ↦ rw w.in-None.is tt
      | in-Some w ↦
          let outline : HasOutlineIn (at w.in-Some.outboard.now) mode key =
          subst (λ (r : Result ℕ GatheredFault). OnOk r (HasOutlineIn (at w.in-Some.outboard.now) mode key)) (sym w.gathered-is ∙ c.in-Ok-gathered.is) w.gather_beside_on-gathered.ensures.outline in
          rw w.in-Some.is (key, (c.in_ok-root.ensures.ok, outline))
    ] in
    let few : length task.files.items ≤ 64 = subst (λ (xs : List (Bor (List ℕ))). length xs ≤ 64) c.as_slice-files.ensures.value (omega (arith, c.if-files-gt-MOST_FILES.false)) in
    let right : IsRight at mode (GatherOf task) made.0 = (few, (((key, (c.in_ok-root.ensures.ok, made.1.0, made.1.2)), made.1.1), beside)) in
    print_left at (g.D.Disk.at c.list_nothing.new.disk) mode task between made.0 c.told.result c.told.ensures.file right made.3
    c.in_ok-list_nothing-in-Ok-gathered.ensures.lists

pub returns-in_err-list_nothing-in-Ok-gathered-clause-files : goal.returns-in_err-list_nothing-in-Ok-gathered-clause-files
returns-in_err-list_nothing-in-Ok-gathered-clause-files g c =
    let mode = c.args.mode.now in
    let key : List ℕ = c.in_ok-root.root.0 in
    let task = c.args.task.now in
    let how : Gathering = how_of c.in_ok-root.root c.args.mode.now task c.args.verbose c.parts_asked.result c.grain_of.result in
    let at = g.D.Disk.at c.args.disk.now in
    let between = g.D.Disk.at c.match-task.disk in
    let out : List ℕ = task.out.now in
    let Made : (List ℕ → FileState) → ℕ → Type 0 =
    λ after count. (blob : List ℕ) × HasRootAndFits how mode key blob × (count ≡ length blob) × Puts at after out (Some (gathered_text how.encode mode blob)) in
    let gathered : IfOk c.match-task.gathered (Made between) = elim c.match-task.branch [
      | in-None w ↦
          subst (λ (r : Result ℕ GatheredFault). IfOk r (Made between)) (sym w.gathered-is)
          (subst (λ d. IfOk w.gather_on-gathered.result (Made (g.D.Disk.at d))) (sym w.disk-is) w.gather_on-gathered.ensures.done)
      | in-Some w ↦
          subst (λ (r : Result ℕ GatheredFault). IfOk r (Made between)) (sym w.gathered-is)
          (subst (λ d. IfOk w.gather_beside_on-gathered.result (Made (g.D.Disk.at d))) (sym w.disk-is) w.gather_beside_on-gathered.ensures.done)
    ] in
    let made : Made between c.in-Ok-gathered.count = subst (λ (r : Result ℕ GatheredFault). IfOk r (Made between)) c.in-Ok-gathered.is gathered in
    let beside : IsBeside at mode task.root.now task.outboard = elim c.match-task.branch [
      | in-None w ↦ rw w.in-None.is tt
      | in-Some w ↦
          let outline : HasOutlineIn (at w.in-Some.outboard.now) mode key =
          subst (λ (r : Result ℕ GatheredFault). OnOk r (HasOutlineIn (at w.in-Some.outboard.now) mode key)) (sym w.gathered-is ∙ c.in-Ok-gathered.is) w.gather_beside_on-gathered.ensures.outline in
          rw w.in-Some.is (key, (c.in_ok-root.ensures.ok, outline))
    ] in
    let few : length task.files.items ≤ 64 = subst (λ (xs : List (Bor (List ℕ))). length xs ≤ 64) c.as_slice-files.ensures.value (omega (arith, c.if-files-gt-MOST_FILES.false)) in
    let right : IsRight at mode (GatherOf task) made.0 = (few, (((key, (c.in_ok-root.ensures.ok, made.1.0, made.1.2)), made.1.1), beside)) in
    let quiet = c.in_err-list_nothing-in-Ok-gathered.ensures.quiet in
    let result : Result Unit Fault = c.from_residual-in_err-list_nothing-in-Ok-gathered.result in
    list_left at (g.D.Disk.at c.list_nothing.new.disk) mode task between made.0 result
    (of_residual result _ c.from_residual-in_err-list_nothing-in-Ok-gathered.ensures.1 (quiet.0, quiet.1)) right made.3 c.in_err-list_nothing-in-Ok-gathered.ensures.kept

pub returns-in_err-list_nothing-in-Ok-gathered-clause-refused : goal.returns-in_err-list_nothing-in-Ok-gathered-clause-refused
returns-in_err-list_nothing-in-Ok-gathered-clause-refused g c =
    let quiet = c.in_err-list_nothing-in-Ok-gathered.ensures.quiet in
    let result : Result Unit Fault = c.from_residual-in_err-list_nothing-in-Ok-gathered.result in
    no_refusal _ result (of_residual result _ c.from_residual-in_err-list_nothing-in-Ok-gathered.ensures.1 (quiet.0, quiet.1))

pub returns-in-Ok-gathered-clause-refused : goal.returns-in-Ok-gathered-clause-refused
returns-in-Ok-gathered-clause-refused g c = no_refusal _ c.told.result c.told.ensures.file

pub returns-clause-files : goal.returns-clause-files
returns-clause-files g c =
    let task = c.args.task.now in
    let at = g.D.Disk.at c.args.disk.now in
    let between = g.D.Disk.at c.match-task.disk in
    let kept : KeepsFiles at between = elim c.match-task.branch [
      | in-None w ↦
          subst (λ d. KeepsFiles at (g.D.Disk.at d)) (sym w.disk-is)
          (subst (λ (r : Result ℕ GatheredFault). OnErr r (KeepsFiles at (g.D.Disk.at w.gather_on-gathered.new.disk))) (sym w.gathered-is ∙ c.in-Err.is) w.gather_on-gathered.ensures.kept)
      | in-Some w ↦
          subst (λ d. KeepsFiles at (g.D.Disk.at d)) (sym w.disk-is)
          (subst (λ (r : Result ℕ GatheredFault). OnErr r (KeepsFiles at (g.D.Disk.at w.gather_beside_on-gathered.new.disk))) (sym w.gathered-is ∙ c.in-Err.is)
          w.gather_beside_on-gathered.ensures.kept)
    ] in
    let after = g.D.Disk.at c.relist-unlisted-in-Err.new.disk in
    inl (but_list at between after task.missing kept (some_list between after task.missing c.match-task.notes.lack c.relist-unlisted-in-Err.ensures.kept))

pub returns-clause-refused : goal.returns-clause-refused
returns-clause-refused g c = λ one.
    let at = g.D.Disk.at c.args.disk.now in
    let mode = c.args.mode.now in
    let task = c.args.task.now in
    let how : Gathering = how_of c.in_ok-root.root c.args.mode.now task c.args.verbose c.parts_asked.result c.grain_of.result in
    let out : List ℕ = task.out.now in
    let root = c.in_ok-root.root in
    let refused : IsRefusedGathering (g.D.Disk.faultless c.args.disk.now) at mode how.wanted.grain how.long how.capacity task.outboard c.as_slice-files.result.now out root = elim c.match-task.branch [
      | in-None w ↦ rw w.in-None.is (λ sure known blob is_blob place have.
          other_is at (g.D.Disk.at w.gather_on-gathered.new.disk) out how mode blob w.gather_on-gathered.result c.in-Err.fault (sym w.gathered-is ∙ c.in-Err.is) one
          (w.gather_on-gathered.ensures.available sure known blob
          (record {
            root = is_blob;
            room = place;
            some = elim have [ inl whole ↦ inl (record { text = combined_text mode blob; has = whole.0; text_is = refl; few = whole.1 }) | inr cuts ↦ inr cuts ];
          })))
      | in-Some w ↦ rw w.in-Some.is (λ sure known blob is_blob place some small beside have.
          other_is at (g.D.Disk.at w.gather_beside_on-gathered.new.disk) out how mode blob w.gather_beside_on-gathered.result c.in-Err.fault (sym w.gathered-is ∙ c.in-Err.is) one
          (w.gather_beside_on-gathered.ensures.available sure known blob is_blob place some small beside have))
    ] in
    let all : IsRefusedGathering (g.D.Disk.faultless c.args.disk.now) at mode (if task.salvage then ByChunk else ByGroup) task.long task.capacity task.outboard task.files.items out root =
    subst (λ (files : List (Bor (List ℕ))). IsRefusedGathering (g.D.Disk.faultless c.args.disk.now) at mode (if task.salvage then ByChunk else ByGroup) task.long task.capacity task.outboard files out root)
    c.as_slice-files.ensures.value
    (subst (λ (grain : Grain). IsRefusedGathering (g.D.Disk.faultless c.args.disk.now) at mode grain task.long task.capacity task.outboard c.as_slice-files.result.now out root) c.grain_of.ensures refused) in
    (root, (c.in_ok-root.ensures.ok, all))

pub returns-in-Ok-gathered-clause-usage : goal.returns-in-Ok-gathered-clause-usage
returns-in-Ok-gathered-clause-usage g c = no_usage _ c.told.result c.told.ensures.file

pub returns-in_err-list_nothing-in-Ok-gathered-clause-usage : goal.returns-in_err-list_nothing-in-Ok-gathered-clause-usage
returns-in_err-list_nothing-in-Ok-gathered-clause-usage g c =
    let quiet = c.in_err-list_nothing-in-Ok-gathered.ensures.quiet in
    let result : Result Unit Fault = c.from_residual-in_err-list_nothing-in-Ok-gathered.result in
    no_usage _ result (of_residual result _ c.from_residual-in_err-list_nothing-in-Ok-gathered.ensures.1 (quiet.0, quiet.1))

pub returns-clause-usage : goal.returns-clause-usage
returns-clause-usage g c = λ two.
    let at = g.D.Disk.at c.args.disk.now in
    let between = g.D.Disk.at c.match-task.disk in
    let after = g.D.Disk.at c.relist-unlisted-in-Err.new.disk in
    let kept : KeepsFiles at between = elim c.match-task.branch [
      | in-None w ↦
          subst (λ d. KeepsFiles at (g.D.Disk.at d)) (sym w.disk-is)
          (subst (λ (r : Result ℕ GatheredFault). OnErr r (KeepsFiles at (g.D.Disk.at w.gather_on-gathered.new.disk))) (sym w.gathered-is ∙ c.in-Err.is) w.gather_on-gathered.ensures.kept)
      | in-Some w ↦
          subst (λ d. KeepsFiles at (g.D.Disk.at d)) (sym w.disk-is)
          (subst (λ (r : Result ℕ GatheredFault). OnErr r (KeepsFiles at (g.D.Disk.at w.gather_beside_on-gathered.new.disk))) (sym w.gathered-is ∙ c.in-Err.is)
          w.gather_beside_on-gathered.ensures.kept)
    ] in
    before_put at between after kept (c.relist-unlisted-in-Err.ensures.usage two)

pub returns-clause-listed : goal.returns-clause-listed
returns-clause-listed g c =
    let task = c.args.task.now in
    let at = g.D.Disk.at c.args.disk.now in
    let between = g.D.Disk.at c.match-task.disk in
    let kept : KeepsFiles at between = elim c.match-task.branch [
      | in-None w ↦
          subst (λ d. KeepsFiles at (g.D.Disk.at d)) (sym w.disk-is)
          (subst (λ (r : Result ℕ GatheredFault). OnErr r (KeepsFiles at (g.D.Disk.at w.gather_on-gathered.new.disk))) (sym w.gathered-is ∙ c.in-Err.is) w.gather_on-gathered.ensures.kept)
      | in-Some w ↦
          subst (λ d. KeepsFiles at (g.D.Disk.at d)) (sym w.disk-is)
          (subst (λ (r : Result ℕ GatheredFault). OnErr r (KeepsFiles at (g.D.Disk.at w.gather_beside_on-gathered.new.disk))) (sym w.gathered-is ∙ c.in-Err.is)
          w.gather_beside_on-gathered.ensures.kept)
    ] in
    relists at between (g.D.Disk.at c.relist-unlisted-in-Err.new.disk) task.missing c.match-task.notes.lack c.in-Err.fault c.relist-unlisted-in-Err.result kept c.relist-unlisted-in-Err.ensures.lists

pub returns-in-Ok-gathered-clause-listed : goal.returns-in-Ok-gathered-clause-listed
returns-in-Ok-gathered-clause-listed g c =
    let task = c.args.task.now in
    not_relisted (g.D.Disk.at c.args.disk.now) (g.D.Disk.at c.list_nothing.new.disk) task.missing c.told.result c.told.ensures.file

pub returns-in_err-list_nothing-in-Ok-gathered-clause-listed : goal.returns-in_err-list_nothing-in-Ok-gathered-clause-listed
returns-in_err-list_nothing-in-Ok-gathered-clause-listed g c =
    let task = c.args.task.now in
    let quiet = c.in_err-list_nothing-in-Ok-gathered.ensures.quiet in
    let result : Result Unit Fault = c.from_residual-in_err-list_nothing-in-Ok-gathered.result in
    not_relisted (g.D.Disk.at c.args.disk.now) (g.D.Disk.at c.list_nothing.new.disk) task.missing result
    (of_residual result _ c.from_residual-in_err-list_nothing-in-Ok-gathered.ensures.1 (quiet.0, quiet.1))

pub returns-in-Ok-gathered-clause-due : goal.returns-in-Ok-gathered-clause-due
returns-in-Ok-gathered-clause-due g c = of_file_or _ c.told.result c.told.ensures.file

pub returns-in_err-list_nothing-in-Ok-gathered-clause-due : goal.returns-in_err-list_nothing-in-Ok-gathered-clause-due
returns-in_err-list_nothing-in-Ok-gathered-clause-due g c =
    let quiet = c.in_err-list_nothing-in-Ok-gathered.ensures.quiet in
    let result : Result Unit Fault = c.from_residual-in_err-list_nothing-in-Ok-gathered.result in
    of_file_or _ result (of_residual result _ c.from_residual-in_err-list_nothing-in-Ok-gathered.ensures.1 (quiet.0, quiet.1))

pub returns-clause-due : goal.returns-clause-due
returns-clause-due g c = inr (inr (inr (c.in-Err.fault, c.relist-unlisted-in-Err.result, refl)))

pub returns-clause-gaps : goal.returns-clause-gaps
returns-clause-gaps g c =
    let at = g.D.Disk.at c.args.disk.now in
    let between = g.D.Disk.at c.match-task.disk in
    let after = g.D.Disk.at c.relist-unlisted-in-Err.new.disk in
    let task = c.args.task.now in
    let how : Gathering = how_of c.in_ok-root.root c.args.mode.now task c.args.verbose c.parts_asked.result c.grain_of.result in
    let list = task.missing in
    let root = c.in_ok-root.root in
    let lack = c.match-task.notes.lack in
    let fault = c.in-Err.fault in
    let kept : KeepsFiles at between = elim c.match-task.branch [
      | in-None w ↦
          subst (λ d. KeepsFiles at (g.D.Disk.at d)) (sym w.disk-is)
          (subst (λ (r : Result ℕ GatheredFault). OnErr r (KeepsFiles at (g.D.Disk.at w.gather_on-gathered.new.disk))) (sym w.gathered-is ∙ c.in-Err.is) w.gather_on-gathered.ensures.kept)
      | in-Some w ↦
          subst (λ d. KeepsFiles at (g.D.Disk.at d)) (sym w.disk-is)
          (subst (λ (r : Result ℕ GatheredFault). OnErr r (KeepsFiles at (g.D.Disk.at w.gather_beside_on-gathered.new.disk))) (sym w.gathered-is ∙ c.in-Err.is)
          w.gather_beside_on-gathered.ensures.kept)
    ] in
    let unasked : fault ≢ Gather gather.Unfinished → lack ≡ Unasked = λ other. elim c.match-task.branch [
      | in-None w ↦
          subst (λ n. n.lack ≡ Unasked) (sym w.notes-is)
          (not_looked w.gather_on-gathered.result fault c.in-Ok.notes.lack w.gather_on-gathered.new.notes.lack (sym w.gathered-is ∙ c.in-Err.is) w.gather_on-gathered.ensures.looked c.in-Ok.ensures.lack other)
      | in-Some w ↦
          subst (λ n. n.lack ≡ Unasked) (sym w.notes-is)
          (not_looked w.gather_beside_on-gathered.result fault c.in-Ok.notes.lack w.gather_beside_on-gathered.new.notes.lack (sym w.gathered-is ∙ c.in-Err.is) w.gather_beside_on-gathered.ensures.looked
          c.in-Ok.ensures.lack other)
    ] in
    let right : fault ≡ Gather gather.Unfinished → g.D.Disk.faultless c.args.disk.now → IsLack root c.args.mode.now how.wanted.grain how.long how.capacity how.parts at task.outboard c.as_slice-files.result.now lack =
    λ is sure. elim c.match-task.branch [
      | in-None w ↦
          rw w.in-None.is
          (subst (λ n. IsLack root c.args.mode.now how.wanted.grain how.long how.capacity how.parts at None c.as_slice-files.result.now n.lack) (sym w.notes-is)
          (w.gather_on-gathered.ensures.listed (sym w.gathered-is ∙ c.in-Err.is ∙ ap (λ (f : GatheredFault). Err f) is) sure))
      | in-Some w ↦
          rw w.in-Some.is
          (subst (λ n. IsLack root c.args.mode.now how.wanted.grain how.long how.capacity how.parts at (Some w.in-Some.outboard) c.as_slice-files.result.now n.lack) (sym w.notes-is)
          (w.gather_beside_on-gathered.ensures.listed (sym w.gathered-is ∙ c.in-Err.is ∙ ap (λ (f : GatheredFault). Err f) is) sure))
    ] in
    let exact : fault ≡ Gather gather.Unfinished → g.D.Disk.faultless c.args.disk.now
    → IsLack root c.args.mode.now (if task.salvage then ByChunk else ByGroup) task.long task.capacity how.parts at task.outboard task.files.items lack = λ is sure.
    subst (λ (files : List (Bor (List ℕ))). IsLack root c.args.mode.now (if task.salvage then ByChunk else ByGroup) task.long task.capacity how.parts at task.outboard files lack) c.as_slice-files.ensures.value
    (subst (λ (grain : Grain). IsLack root c.args.mode.now grain task.long task.capacity how.parts at task.outboard c.as_slice-files.result.now lack) c.grain_of.ensures (right is sure)) in
    elim c.relist-unlisted-in-Err.ensures.kept [
      | inl also ↦ inl (before_put at between after kept also)
      | inr listed ↦
          listed_gaps (g.D.Disk.faultless c.args.disk.now) at after c.args.mode.now task fault c.relist-unlisted-in-Err.result lack root how.parts list refl c.in_ok-root.ensures.ok c.parts_asked.ensures
          (lists_after at between after list (lines_of_parts (parts_in lack)) kept listed) unasked exact
    ]

pub returns-in-Ok-gathered-clause-gaps : goal.returns-in-Ok-gathered-clause-gaps
returns-in-Ok-gathered-clause-gaps g c =
    list_of_file (g.D.Disk.at c.args.disk.now) (g.D.Disk.at c.list_nothing.new.disk) _ c.told.result c.told.ensures.file

pub returns-in_err-list_nothing-in-Ok-gathered-clause-gaps : goal.returns-in_err-list_nothing-in-Ok-gathered-clause-gaps
returns-in_err-list_nothing-in-Ok-gathered-clause-gaps g c =
    let quiet = c.in_err-list_nothing-in-Ok-gathered.ensures.quiet in
    let result : Result Unit Fault = c.from_residual-in_err-list_nothing-in-Ok-gathered.result in
    list_of_file (g.D.Disk.at c.args.disk.now) (g.D.Disk.at c.list_nothing.new.disk) _ result
    (of_residual result _ c.from_residual-in_err-list_nothing-in-Ok-gathered.ensures.1 (quiet.0, quiet.1))
