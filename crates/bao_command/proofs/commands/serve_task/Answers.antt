use Rattle.std.proofs.Common.{◌≡◌, ◌⊎◌, ◌<◌, ◌≤◌, ◌+◌, ◌-◌, ◌^◌, ℕ, List, None, length, Result, Ok, Err, IfErr, OnOk, Bor, inl, inr, refl, subst, sym}
use Rattle.b3tree.specs.declared.mode.Mode.{Mode}
use Rattle.bao_files.specs.Disks.{FileState, KeepsFiles}
use Rattle.bao_files.specs.Printed.{IsDigits}
use Rattle.bao_request.specs.declared.tasks.Task.{Task}
use Rattle.bao_request.specs.declared.tasks.Task.TheVariants.{CutSlice, Decode, DecodeCopy, Encode}
use Rattle.bao_command.specs.declared.fault.Fault.{Fault}
use Rattle.bao_command.specs.Effects.{IsRelisted, Writes, list_of}
use Rattle.bao_command.specs.Gaps.{LeavesListOf}
use Rattle.bao_command.specs.Printed.{CommandPrints, OnPrinted}
use Rattle.bao_command.specs.Refused.{IsBlobOf, IsRefused, IsRefusedReplay}
use Rattle.bao_command.specs.Status.{status_of}
use Rattle.bao_command.specs.Tasks.{Decodes, Gathers, HasBadLine, HasBadScript, HasManyFiles, HasNoCapacity, HasRoot, IfPassed, IsNoCapacity, IsPastOutput, IsReplay, IsRight, LeavesFiles, Replays, line_of}
use Rattle.bao_command.specs.Works.{CopiesRight, CutsRight, DecodesRight, EncodesRight, Leaves}
use Rattle.bao_command.proofs.Due.{decode_due, file_due, gather_due, hash_due, lists_none, replay_due}
use Rattle.bao_command.proofs.Listing.{no_list, no_list_kept}
use Rattle.bao_command.proofs.Telling.{always_passed, both_printed, few_passed, no_refusal, on_ok, on_printed, range_passed, usage_keeps}
use Rattle.bao_command.proofs.commands.serve_task.Goals as goal

-- what a task's fault leaves, where it has no list
left_by : (at after : List ℕ → FileState) (mode : Mode) (task : Task) (Did : List ℕ → Type 0) (result : Result Unit Fault)
    → ((bytes : List ℕ) → Did bytes → IsRight at mode task bytes × Writes at after mode task None bytes) → IfErr result (Leaves at after Did) → IfErr result (LeavesFiles at after mode task)
left_by at after mode task Did (Ok done) step leaves = tt
left_by at after mode task Did (Err fault) step (inl kept) = inl (inl kept)
left_by at after mode task Did (Err fault) step (inr did) = inr (did.0, (did.1.0, (step did.1.0 did.1.1).0, inr (step did.1.0 did.1.1).1))

-- and where it does nothing to the files
untouched : (at : List ℕ → FileState) (mode : Mode) (task : Task) (result : Result Unit Fault) → IfErr result (LeavesFiles at at mode task)
untouched at mode task (Ok done) = tt
untouched at mode task (Err fault) = inl (inl (λ path. refl))

untouched_usage : (at : List ℕ → FileState) (result : Result Unit Fault) → IfErr result (λ fault. status_of fault ≡ 2 → KeepsFiles at at)
untouched_usage at (Ok done) = tt
untouched_usage at (Err fault) = λ is path. refl

regrouped : (P Q R : Type 0) (result : Result Unit Fault) → OnPrinted result P → OnPrinted result (Q × R) → OnPrinted result ((P × Q) × R)
regrouped P Q R (Ok done) p q = ((p, q.0), q.1)
regrouped P Q R (Err fault) p q = λ is. ((p is, (q is).0), (q is).1)

pub returns-in-Hash-clause-prints : goal.returns-in-Hash-clause-prints
returns-in-Hash-clause-prints g c =
    let result : Result Unit Fault = c.hash.result in
    let mode = c.args.mode.now in
    let at = g.D.Disk.at c.args.disk.now in
    let after = at in
    let old = g.O.Write.contents c.args.out.now in
    let new = g.O.Write.contents c.hash.new.out in
    let prints = c.hash.ensures.prints in
    subst
    (λ (task : Task). (bytes : List ℕ) × OnPrinted result (IsRight at mode task bytes × Writes at after mode task (list_of task) bytes) × CommandPrints (line_of mode task bytes) old new result)
    (sym c.in-Hash.is) (prints.0, both_printed _ _ result prints.1 (on_printed result (λ path. refl)), prints.2)

pub returns-in-Encode-clause-prints : goal.returns-in-Encode-clause-prints
returns-in-Encode-clause-prints g c =
    let result : Result Unit Fault = c.encode.result in
    let mode = c.args.mode.now in
    let at = g.D.Disk.at c.args.disk.now in
    let after = g.D.Disk.at c.encode.new.disk in
    let old = g.O.Write.contents c.args.out.now in
    let new = g.O.Write.contents c.encode.new.out in
    let prints = c.encode.ensures.prints in
    subst
    (λ (task : Task). (bytes : List ℕ) × OnPrinted result (IsRight at mode task bytes × Writes at after mode task (list_of task) bytes) × CommandPrints (line_of mode task bytes) old new result)
    (sym c.in-Encode.is) prints

pub returns-in-CutSlice-clause-prints : goal.returns-in-CutSlice-clause-prints
returns-in-CutSlice-clause-prints g c =
    let result : Result Unit Fault = c.cut_slice.result in
    let mode = c.args.mode.now in
    let at = g.D.Disk.at c.args.disk.now in
    let after = g.D.Disk.at c.cut_slice.new.disk in
    let old = g.O.Write.contents c.args.out.now in
    let new = g.O.Write.contents c.cut_slice.new.out in
    let prints = c.cut_slice.ensures.prints in
    subst
    (λ (task : Task). (bytes : List ℕ) × OnPrinted result (IsRight at mode task bytes × Writes at after mode task (list_of task) bytes) × CommandPrints (line_of mode task bytes) old new result)
    (sym c.in-CutSlice.is) prints

pub returns-in-Decode-clause-prints : goal.returns-in-Decode-clause-prints
returns-in-Decode-clause-prints g c =
    let result : Result Unit Fault = c.decode.result in
    let mode = c.args.mode.now in
    let at = g.D.Disk.at c.args.disk.now in
    let after = g.D.Disk.at c.decode.new.disk in
    let old = g.O.Write.contents c.args.out.now in
    let new = g.O.Write.contents c.decode.new.out in
    let prints = c.decode.ensures.prints in
    subst
    (λ (task : Task). (bytes : List ℕ) × OnPrinted result (IsRight at mode task bytes × Writes at after mode task (list_of task) bytes) × CommandPrints (line_of mode task bytes) old new result)
    (sym c.in-Decode.is) prints

pub returns-in-DecodeCopy-clause-prints : goal.returns-in-DecodeCopy-clause-prints
returns-in-DecodeCopy-clause-prints g c =
    let result : Result Unit Fault = c.decode_beside.result in
    let mode = c.args.mode.now in
    let at = g.D.Disk.at c.args.disk.now in
    let after = g.D.Disk.at c.decode_beside.new.disk in
    let old = g.O.Write.contents c.args.out.now in
    let new = g.O.Write.contents c.decode_beside.new.out in
    let prints = c.decode_beside.ensures.prints in
    subst
    (λ (task : Task). (bytes : List ℕ) × OnPrinted result (IsRight at mode task bytes × Writes at after mode task (list_of task) bytes) × CommandPrints (line_of mode task bytes) old new result)
    (sym c.in-DecodeCopy.is) prints

pub returns-in-Gather-clause-prints : goal.returns-in-Gather-clause-prints
returns-in-Gather-clause-prints g c =
    let result : Result Unit Fault = c.gather.result in
    let mode = c.args.mode.now in
    let at = g.D.Disk.at c.args.disk.now in
    let after = g.D.Disk.at c.gather.new.disk in
    let old = g.O.Write.contents c.args.out.now in
    let new = g.O.Write.contents c.gather.new.out in
    subst
    (λ (task : Task). (bytes : List ℕ) × OnPrinted result (IsRight at mode task bytes × Writes at after mode task (list_of task) bytes) × CommandPrints (line_of mode task bytes) old new result)
    (sym c.in-Gather.is) c.gather.ensures.prints

pub returns-in-Replay-clause-prints : goal.returns-in-Replay-clause-prints
returns-in-Replay-clause-prints g c =
    let result : Result Unit Fault = c.replay.result in
    let mode = c.args.mode.now in
    let at = g.D.Disk.at c.args.disk.now in
    let after = at in
    let old = g.O.Write.contents c.args.out.now in
    let new = g.O.Write.contents c.replay.new.out in
    let prints = c.replay.ensures.answer in
    subst
    (λ (task : Task). (bytes : List ℕ) × OnPrinted result (IsRight at mode task bytes × Writes at after mode task (list_of task) bytes) × CommandPrints (line_of mode task bytes) old new result)
    (sym c.in-Replay.is) (
      prints.0,
      both_printed _ _ result
          (subst (λ (files : List (Bor (List ℕ))). OnPrinted result ((length files ≤ 64) × IsReplay at mode c.in-Replay.root.now c.in-Replay.capacity c.in-Replay.script.now files prints.0)) c.as_slice-files.ensures.value
          (both_printed _ _ result c.replay.ensures.few prints.1)) (on_printed result (λ path. refl)),
      prints.2,
    )

pub returns-in-Hash-clause-files : goal.returns-in-Hash-clause-files
returns-in-Hash-clause-files g c = untouched (g.D.Disk.at c.args.disk.now) c.args.mode.now c.args.task.now c.hash.result

pub returns-in-Replay-clause-files : goal.returns-in-Replay-clause-files
returns-in-Replay-clause-files g c = untouched (g.D.Disk.at c.args.disk.now) c.args.mode.now c.args.task.now c.replay.result

pub returns-in-Encode-clause-files : goal.returns-in-Encode-clause-files
returns-in-Encode-clause-files g c =
    let at = g.D.Disk.at c.args.disk.now in
    let after = g.D.Disk.at c.encode.new.disk in
    subst (λ (task : Task). IfErr c.encode.result (LeavesFiles at after c.args.mode.now task)) (sym c.in-Encode.is)
    (left_by at after c.args.mode.now (Encode c.in-Encode.encoding c.in-Encode.file c.in-Encode.path) (EncodesRight at after c.args.mode.now c.in-Encode.encoding c.in-Encode.file.now c.in-Encode.path.now) c.encode.result (λ bytes did. did) c.encode.ensures.files)

pub returns-in-CutSlice-clause-files : goal.returns-in-CutSlice-clause-files
returns-in-CutSlice-clause-files g c =
    let at = g.D.Disk.at c.args.disk.now in
    let after = g.D.Disk.at c.cut_slice.new.disk in
    subst (λ (task : Task). IfErr c.cut_slice.result (LeavesFiles at after c.args.mode.now task)) (sym c.in-CutSlice.is)
    (left_by at after c.args.mode.now (CutSlice c.in-CutSlice.root c.in-CutSlice.start c.in-CutSlice.len c.in-CutSlice.outboard c.in-CutSlice.file c.in-CutSlice.path) (CutsRight at after c.args.mode.now c.in-CutSlice.root.now c.in-CutSlice.start c.in-CutSlice.len c.in-CutSlice.outboard c.in-CutSlice.file.now c.in-CutSlice.path.now) c.cut_slice.result (λ bytes did. did) c.cut_slice.ensures.files)

pub returns-in-Decode-clause-files : goal.returns-in-Decode-clause-files
returns-in-Decode-clause-files g c =
    let at = g.D.Disk.at c.args.disk.now in
    let after = g.D.Disk.at c.decode.new.disk in
    subst (λ (task : Task). IfErr c.decode.result (LeavesFiles at after c.args.mode.now task)) (sym c.in-Decode.is)
    (left_by at after c.args.mode.now (Decode c.in-Decode.root c.in-Decode.part c.in-Decode.file c.in-Decode.path) (DecodesRight at after c.args.mode.now c.in-Decode.root.now c.in-Decode.part c.in-Decode.file.now c.in-Decode.path.now) c.decode.result (λ bytes did. did) c.decode.ensures.files)

pub returns-in-DecodeCopy-clause-files : goal.returns-in-DecodeCopy-clause-files
returns-in-DecodeCopy-clause-files g c =
    let at = g.D.Disk.at c.args.disk.now in
    let after = g.D.Disk.at c.decode_beside.new.disk in
    subst (λ (task : Task). IfErr c.decode_beside.result (LeavesFiles at after c.args.mode.now task)) (sym c.in-DecodeCopy.is)
    (left_by at after c.args.mode.now (DecodeCopy c.in-DecodeCopy.root c.in-DecodeCopy.outboard c.in-DecodeCopy.copy c.in-DecodeCopy.path) (CopiesRight at after c.args.mode.now c.in-DecodeCopy.root.now c.in-DecodeCopy.outboard.now c.in-DecodeCopy.copy.now c.in-DecodeCopy.path.now) c.decode_beside.result (λ bytes did. did) c.decode_beside.ensures.files)

pub returns-in-Gather-clause-files : goal.returns-in-Gather-clause-files
returns-in-Gather-clause-files g c =
    subst (λ (task : Task). IfErr c.gather.result (LeavesFiles (g.D.Disk.at c.args.disk.now) (g.D.Disk.at c.gather.new.disk) c.args.mode.now task)) (sym c.in-Gather.is) c.gather.ensures.files

pub returns-in-Hash-clause-refused : goal.returns-in-Hash-clause-refused
returns-in-Hash-clause-refused g c =
    subst (λ (task : Task). IfErr c.hash.result (λ fault. status_of fault ≡ 1 → IsRefused (g.D.Disk.faultless c.args.disk.now) (g.D.Disk.at c.args.disk.now) c.args.mode.now task)) (sym c.in-Hash.is) c.hash.ensures.refused

pub returns-in-CutSlice-clause-refused : goal.returns-in-CutSlice-clause-refused
returns-in-CutSlice-clause-refused g c =
    subst (λ (task : Task). IfErr c.cut_slice.result (λ fault. status_of fault ≡ 1 → IsRefused (g.D.Disk.faultless c.args.disk.now) (g.D.Disk.at c.args.disk.now) c.args.mode.now task)) (sym c.in-CutSlice.is) c.cut_slice.ensures.refused

pub returns-in-Decode-clause-refused : goal.returns-in-Decode-clause-refused
returns-in-Decode-clause-refused g c =
    subst (λ (task : Task). IfErr c.decode.result (λ fault. status_of fault ≡ 1 → IsRefused (g.D.Disk.faultless c.args.disk.now) (g.D.Disk.at c.args.disk.now) c.args.mode.now task)) (sym c.in-Decode.is) c.decode.ensures.refused

pub returns-in-DecodeCopy-clause-refused : goal.returns-in-DecodeCopy-clause-refused
returns-in-DecodeCopy-clause-refused g c =
    subst (λ (task : Task). IfErr c.decode_beside.result (λ fault. status_of fault ≡ 1 → IsRefused (g.D.Disk.faultless c.args.disk.now) (g.D.Disk.at c.args.disk.now) c.args.mode.now task)) (sym c.in-DecodeCopy.is) c.decode_beside.ensures.refused

pub returns-in-Encode-clause-refused : goal.returns-in-Encode-clause-refused
returns-in-Encode-clause-refused g c = no_refusal _ c.encode.result c.encode.ensures.file

pub returns-in-Encode-clause-due : goal.returns-in-Encode-clause-due
returns-in-Encode-clause-due g c = file_due (g.D.Disk.at c.args.disk.now) c.args.task.now c.encode.result c.encode.ensures.file

pub returns-in-Hash-clause-due : goal.returns-in-Hash-clause-due
returns-in-Hash-clause-due g c =
    let Past : Type 0 = ¬ (c.in-Hash.at + c.in-Hash.length ≤ 2 ^ 64 - 1) in
    hash_due (g.D.Disk.at c.args.disk.now) c.args.task.now Past c.hash.result (subst (λ (t : Task). Past → IsPastOutput t) (sym c.in-Hash.is) (λ past. past)) c.hash.ensures.due

pub returns-in-CutSlice-clause-due : goal.returns-in-CutSlice-clause-due
returns-in-CutSlice-clause-due g c =
    let NoRoot : Type 0 = ¬ IsDigits c.in-CutSlice.root.now in
    decode_due (g.D.Disk.at c.args.disk.now) c.args.task.now NoRoot c.cut_slice.result (subst (λ (t : Task). NoRoot → ¬ HasRoot t) (sym c.in-CutSlice.is) (λ no. no))
    (subst Decodes (sym c.in-CutSlice.is) tt) c.cut_slice.ensures.due

pub returns-in-Decode-clause-due : goal.returns-in-Decode-clause-due
returns-in-Decode-clause-due g c =
    let NoRoot : Type 0 = ¬ IsDigits c.in-Decode.root.now in
    decode_due (g.D.Disk.at c.args.disk.now) c.args.task.now NoRoot c.decode.result (subst (λ (t : Task). NoRoot → ¬ HasRoot t) (sym c.in-Decode.is) (λ no. no))
    (subst Decodes (sym c.in-Decode.is) tt) c.decode.ensures.due

pub returns-in-DecodeCopy-clause-due : goal.returns-in-DecodeCopy-clause-due
returns-in-DecodeCopy-clause-due g c =
    let NoRoot : Type 0 = ¬ IsDigits c.in-DecodeCopy.root.now in
    decode_due (g.D.Disk.at c.args.disk.now) c.args.task.now NoRoot c.decode_beside.result (subst (λ (t : Task). NoRoot → ¬ HasRoot t) (sym c.in-DecodeCopy.is) (λ no. no))
    (subst Decodes (sym c.in-DecodeCopy.is) tt) c.decode_beside.ensures.due

pub returns-in-Gather-clause-due : goal.returns-in-Gather-clause-due
returns-in-Gather-clause-due g c =
    let NoRoot : Type 0 = ¬ IsDigits c.in-Gather.task.root.now in
    let Many : Type 0 = 64 < length c.in-Gather.task.files.items in
    gather_due (g.D.Disk.at c.args.disk.now) c.args.task.now NoRoot Many c.gather.result (subst (λ (t : Task). NoRoot → ¬ HasRoot t) (sym c.in-Gather.is) (λ no. no))
    (subst (λ (t : Task). Many → HasManyFiles t) (sym c.in-Gather.is) (λ is. is)) (subst Gathers (sym c.in-Gather.is) tt)
    c.gather.ensures.due

pub returns-in-Replay-clause-due : goal.returns-in-Replay-clause-due
returns-in-Replay-clause-due g c =
    let at = g.D.Disk.at c.args.disk.now in
    let NoRoot : Type 0 = ¬ IsDigits c.in-Replay.root.now in
    let script : List ℕ = c.in-Replay.script.now in
    let Many : Type 0 = 64 < length c.as_slice-files.result.now in
    let Bad : Type 0 = IsNoCapacity c.in-Replay.capacity ⊎ HasBadLine at script c.as_slice-files.result.now in
    let many : Many → 64 < length c.in-Replay.files.items =
    subst (λ (files : List (Bor (List ℕ))). Many → 64 < length files) c.as_slice-files.ensures.value (λ is. is) in
    let bad : Bad → IsNoCapacity c.in-Replay.capacity ⊎ HasBadLine at script c.in-Replay.files.items =
    subst (λ (files : List (Bor (List ℕ))). Bad → IsNoCapacity c.in-Replay.capacity ⊎ HasBadLine at script files) c.as_slice-files.ensures.value (λ is. is) in
    replay_due at c.args.task.now NoRoot Many Bad c.replay.result (subst (λ (t : Task). NoRoot → ¬ HasRoot t) (sym c.in-Replay.is) (λ no. no))
    (subst (λ (t : Task). Many → HasManyFiles t) (sym c.in-Replay.is) many) (subst Replays (sym c.in-Replay.is) tt)
    (subst (λ (t : Task). Bad → HasNoCapacity t ⊎ HasBadScript at t) (sym c.in-Replay.is) bad) c.replay.ensures.due

pub returns-in-Gather-clause-refused : goal.returns-in-Gather-clause-refused
returns-in-Gather-clause-refused g c =
    subst (λ (task : Task). IfErr c.gather.result (λ fault. status_of fault ≡ 1 → IsRefused (g.D.Disk.faultless c.args.disk.now) (g.D.Disk.at c.args.disk.now) c.args.mode.now task)) (sym c.in-Gather.is)
    c.gather.ensures.refused

pub returns-in-Replay-clause-refused : goal.returns-in-Replay-clause-refused
returns-in-Replay-clause-refused g c =
    subst (λ (task : Task). IfErr c.replay.result (λ fault. status_of fault ≡ 1 → IsRefused (g.D.Disk.faultless c.args.disk.now) (g.D.Disk.at c.args.disk.now) c.args.mode.now task)) (sym c.in-Replay.is)
    (subst (λ (files : List (Bor (List ℕ))). IfErr c.replay.result (λ fault. status_of fault ≡ 1
    → IsRefusedReplay (g.D.Disk.at c.args.disk.now) c.args.mode.now c.in-Replay.root.now c.in-Replay.capacity c.in-Replay.script.now files)) c.as_slice-files.ensures.value c.replay.ensures.refused)

pub returns-in-Hash-clause-blob : goal.returns-in-Hash-clause-blob
returns-in-Hash-clause-blob g c =
    on_ok c.hash.result
    (subst (λ (task : Task). IsBlobOf (g.D.Disk.faultless c.args.disk.now) (g.D.Disk.at c.args.disk.now) (g.D.Disk.at c.args.disk.now) c.args.mode.now task (g.O.Write.contents c.args.out.now) (g.O.Write.contents c.hash.new.out))
    (sym c.in-Hash.is) tt)

pub returns-in-Encode-clause-blob : goal.returns-in-Encode-clause-blob
returns-in-Encode-clause-blob g c =
    on_ok c.encode.result
    (subst (λ (task : Task). IsBlobOf (g.D.Disk.faultless c.args.disk.now) (g.D.Disk.at c.args.disk.now) (g.D.Disk.at c.encode.new.disk) c.args.mode.now task (g.O.Write.contents c.args.out.now) (g.O.Write.contents c.encode.new.out))
    (sym c.in-Encode.is) tt)

pub returns-in-CutSlice-clause-blob : goal.returns-in-CutSlice-clause-blob
returns-in-CutSlice-clause-blob g c =
    on_ok c.cut_slice.result
    (subst (λ (task : Task). IsBlobOf (g.D.Disk.faultless c.args.disk.now) (g.D.Disk.at c.args.disk.now) (g.D.Disk.at c.cut_slice.new.disk) c.args.mode.now task (g.O.Write.contents c.args.out.now) (g.O.Write.contents c.cut_slice.new.out))
    (sym c.in-CutSlice.is) tt)

pub returns-in-Decode-clause-blob : goal.returns-in-Decode-clause-blob
returns-in-Decode-clause-blob g c =
    on_ok c.decode.result
    (subst (λ (task : Task). IsBlobOf (g.D.Disk.faultless c.args.disk.now) (g.D.Disk.at c.args.disk.now) (g.D.Disk.at c.decode.new.disk) c.args.mode.now task (g.O.Write.contents c.args.out.now) (g.O.Write.contents c.decode.new.out))
    (sym c.in-Decode.is) tt)

pub returns-in-DecodeCopy-clause-blob : goal.returns-in-DecodeCopy-clause-blob
returns-in-DecodeCopy-clause-blob g c =
    on_ok c.decode_beside.result
    (subst (λ (task : Task). IsBlobOf (g.D.Disk.faultless c.args.disk.now) (g.D.Disk.at c.args.disk.now) (g.D.Disk.at c.decode_beside.new.disk) c.args.mode.now task (g.O.Write.contents c.args.out.now) (g.O.Write.contents c.decode_beside.new.out))
    (sym c.in-DecodeCopy.is) tt)

pub returns-in-Replay-clause-blob : goal.returns-in-Replay-clause-blob
returns-in-Replay-clause-blob g c =
    on_ok c.replay.result
    (subst (λ (task : Task). IsBlobOf (g.D.Disk.faultless c.args.disk.now) (g.D.Disk.at c.args.disk.now) (g.D.Disk.at c.args.disk.now) c.args.mode.now task (g.O.Write.contents c.args.out.now) (g.O.Write.contents c.replay.new.out))
    (sym c.in-Replay.is) tt)

pub returns-in-Gather-clause-blob : goal.returns-in-Gather-clause-blob
returns-in-Gather-clause-blob g c =
    subst (λ (task : Task). OnOk c.gather.result (IsBlobOf (g.D.Disk.faultless c.args.disk.now) (g.D.Disk.at c.args.disk.now) (g.D.Disk.at c.gather.new.disk) c.args.mode.now task (g.O.Write.contents c.args.out.now) (g.O.Write.contents c.gather.new.out)))
    (sym c.in-Gather.is) c.gather.ensures.blob

pub returns-in-Hash-clause-usage : goal.returns-in-Hash-clause-usage
returns-in-Hash-clause-usage g c = untouched_usage (g.D.Disk.at c.args.disk.now) c.hash.result

pub returns-in-Replay-clause-usage : goal.returns-in-Replay-clause-usage
returns-in-Replay-clause-usage g c = untouched_usage (g.D.Disk.at c.args.disk.now) c.replay.result

pub returns-in-Encode-clause-usage : goal.returns-in-Encode-clause-usage
returns-in-Encode-clause-usage g c = usage_keeps (g.D.Disk.at c.args.disk.now) (g.D.Disk.at c.encode.new.disk) _ c.encode.result c.encode.ensures.files

pub returns-in-CutSlice-clause-usage : goal.returns-in-CutSlice-clause-usage
returns-in-CutSlice-clause-usage g c = usage_keeps (g.D.Disk.at c.args.disk.now) (g.D.Disk.at c.cut_slice.new.disk) _ c.cut_slice.result c.cut_slice.ensures.files

pub returns-in-Decode-clause-usage : goal.returns-in-Decode-clause-usage
returns-in-Decode-clause-usage g c = usage_keeps (g.D.Disk.at c.args.disk.now) (g.D.Disk.at c.decode.new.disk) _ c.decode.result c.decode.ensures.files

pub returns-in-DecodeCopy-clause-usage : goal.returns-in-DecodeCopy-clause-usage
returns-in-DecodeCopy-clause-usage g c = usage_keeps (g.D.Disk.at c.args.disk.now) (g.D.Disk.at c.decode_beside.new.disk) _ c.decode_beside.result c.decode_beside.ensures.files

pub returns-in-Hash-clause-listed : goal.returns-in-Hash-clause-listed
returns-in-Hash-clause-listed g c =
    let at = g.D.Disk.at c.args.disk.now in
    lists_none at at c.args.task.now (list_of c.args.task.now) c.hash.result (subst (λ (task : Task). ¬ Gathers task) (sym c.in-Hash.is) (λ no. no)) (returns-in-Hash-clause-due g c)

pub returns-in-Encode-clause-listed : goal.returns-in-Encode-clause-listed
returns-in-Encode-clause-listed g c =
    let at = g.D.Disk.at c.args.disk.now in
    lists_none at (g.D.Disk.at c.encode.new.disk) c.args.task.now (list_of c.args.task.now) c.encode.result (subst (λ (task : Task). ¬ Gathers task) (sym c.in-Encode.is) (λ no. no)) (returns-in-Encode-clause-due g c)

pub returns-in-CutSlice-clause-listed : goal.returns-in-CutSlice-clause-listed
returns-in-CutSlice-clause-listed g c =
    let at = g.D.Disk.at c.args.disk.now in
    lists_none at (g.D.Disk.at c.cut_slice.new.disk) c.args.task.now (list_of c.args.task.now) c.cut_slice.result (subst (λ (task : Task). ¬ Gathers task) (sym c.in-CutSlice.is) (λ no. no)) (returns-in-CutSlice-clause-due g c)

pub returns-in-Decode-clause-listed : goal.returns-in-Decode-clause-listed
returns-in-Decode-clause-listed g c =
    let at = g.D.Disk.at c.args.disk.now in
    lists_none at (g.D.Disk.at c.decode.new.disk) c.args.task.now (list_of c.args.task.now) c.decode.result (subst (λ (task : Task). ¬ Gathers task) (sym c.in-Decode.is) (λ no. no)) (returns-in-Decode-clause-due g c)

pub returns-in-DecodeCopy-clause-listed : goal.returns-in-DecodeCopy-clause-listed
returns-in-DecodeCopy-clause-listed g c =
    let at = g.D.Disk.at c.args.disk.now in
    lists_none at (g.D.Disk.at c.decode_beside.new.disk) c.args.task.now (list_of c.args.task.now) c.decode_beside.result (subst (λ (task : Task). ¬ Gathers task) (sym c.in-DecodeCopy.is) (λ no. no)) (returns-in-DecodeCopy-clause-due g c)

pub returns-in-Replay-clause-listed : goal.returns-in-Replay-clause-listed
returns-in-Replay-clause-listed g c =
    let at = g.D.Disk.at c.args.disk.now in
    lists_none at at c.args.task.now (list_of c.args.task.now) c.replay.result (subst (λ (task : Task). ¬ Gathers task) (sym c.in-Replay.is) (λ no. no)) (returns-in-Replay-clause-due g c)

pub returns-in-Gather-clause-listed : goal.returns-in-Gather-clause-listed
returns-in-Gather-clause-listed g c =
    let at = g.D.Disk.at c.args.disk.now in
    let after = g.D.Disk.at c.gather.new.disk in
    subst (λ (task : Task). IfErr c.gather.result (IsRelisted at after (list_of task))) (sym c.in-Gather.is) c.gather.ensures.listed

pub returns-in-Encode-clause-passed : goal.returns-in-Encode-clause-passed
returns-in-Encode-clause-passed g c =
    subst (λ (task : Task). IfPassed c.encode.result ((¬ IsPastOutput task) × ¬ HasManyFiles task)) (sym c.in-Encode.is) (always_passed _ c.encode.result (λ no. no, λ no. no))

pub returns-in-CutSlice-clause-passed : goal.returns-in-CutSlice-clause-passed
returns-in-CutSlice-clause-passed g c =
    subst (λ (task : Task). IfPassed c.cut_slice.result ((¬ IsPastOutput task) × ¬ HasManyFiles task)) (sym c.in-CutSlice.is) (always_passed _ c.cut_slice.result (λ no. no, λ no. no))

pub returns-in-Decode-clause-passed : goal.returns-in-Decode-clause-passed
returns-in-Decode-clause-passed g c =
    subst (λ (task : Task). IfPassed c.decode.result ((¬ IsPastOutput task) × ¬ HasManyFiles task)) (sym c.in-Decode.is) (always_passed _ c.decode.result (λ no. no, λ no. no))

pub returns-in-DecodeCopy-clause-passed : goal.returns-in-DecodeCopy-clause-passed
returns-in-DecodeCopy-clause-passed g c =
    subst (λ (task : Task). IfPassed c.decode_beside.result ((¬ IsPastOutput task) × ¬ HasManyFiles task)) (sym c.in-DecodeCopy.is) (always_passed _ c.decode_beside.result (λ no. no, λ no. no))

pub returns-in-Hash-clause-passed : goal.returns-in-Hash-clause-passed
returns-in-Hash-clause-passed g c =
    subst (λ (task : Task). IfPassed c.hash.result ((¬ IsPastOutput task) × ¬ HasManyFiles task)) (sym c.in-Hash.is)
    (range_passed (¬ (c.in-Hash.at + c.in-Hash.length ≤ 2 ^ 64 - 1)) ⊥ (c.in-Hash.at + c.in-Hash.length ≤ 2 ^ 64 - 1) c.hash.result (λ no. no) (λ fits past. past fits) c.hash.ensures.refused c.hash.ensures.fits)

pub returns-in-Gather-clause-passed : goal.returns-in-Gather-clause-passed
returns-in-Gather-clause-passed g c =
    subst (λ (task : Task). IfPassed c.gather.result ((¬ IsPastOutput task) × ¬ HasManyFiles task)) (sym c.in-Gather.is)
    (few_passed ⊥ (64 < length c.in-Gather.task.files.items) c.gather.result (λ no. no) c.gather.ensures.many)

pub returns-in-Replay-clause-passed : goal.returns-in-Replay-clause-passed
returns-in-Replay-clause-passed g c =
    subst (λ (task : Task). IfPassed c.replay.result ((¬ IsPastOutput task) × ¬ HasManyFiles task)) (sym c.in-Replay.is)
    (subst (λ (files : List (Bor (List ℕ))). IfPassed c.replay.result ((¬ ⊥) × ¬ (64 < length files))) c.as_slice-files.ensures.value
    (few_passed ⊥ (64 < length c.as_slice-files.result.now) c.replay.result (λ no. no) c.replay.ensures.many))

pub returns-in-Hash-clause-gaps : goal.returns-in-Hash-clause-gaps
returns-in-Hash-clause-gaps g c =
    let at = g.D.Disk.at c.args.disk.now in
    subst (λ (task : Task). IfErr c.hash.result (LeavesListOf (g.D.Disk.faultless c.args.disk.now) at at c.args.mode.now task)) (sym c.in-Hash.is)
    (no_list_kept at c.hash.result)

pub returns-in-Encode-clause-gaps : goal.returns-in-Encode-clause-gaps
returns-in-Encode-clause-gaps g c =
    let at = g.D.Disk.at c.args.disk.now in
    subst (λ (task : Task). IfErr c.encode.result (LeavesListOf (g.D.Disk.faultless c.args.disk.now) at (g.D.Disk.at c.encode.new.disk) c.args.mode.now task)) (sym c.in-Encode.is)
    (no_list at (g.D.Disk.at c.encode.new.disk) _ c.encode.result c.encode.ensures.files)

pub returns-in-CutSlice-clause-gaps : goal.returns-in-CutSlice-clause-gaps
returns-in-CutSlice-clause-gaps g c =
    let at = g.D.Disk.at c.args.disk.now in
    subst (λ (task : Task). IfErr c.cut_slice.result (LeavesListOf (g.D.Disk.faultless c.args.disk.now) at (g.D.Disk.at c.cut_slice.new.disk) c.args.mode.now task)) (sym c.in-CutSlice.is)
    (no_list at (g.D.Disk.at c.cut_slice.new.disk) _ c.cut_slice.result c.cut_slice.ensures.files)

pub returns-in-Decode-clause-gaps : goal.returns-in-Decode-clause-gaps
returns-in-Decode-clause-gaps g c =
    let at = g.D.Disk.at c.args.disk.now in
    subst (λ (task : Task). IfErr c.decode.result (LeavesListOf (g.D.Disk.faultless c.args.disk.now) at (g.D.Disk.at c.decode.new.disk) c.args.mode.now task)) (sym c.in-Decode.is)
    (no_list at (g.D.Disk.at c.decode.new.disk) _ c.decode.result c.decode.ensures.files)

pub returns-in-DecodeCopy-clause-gaps : goal.returns-in-DecodeCopy-clause-gaps
returns-in-DecodeCopy-clause-gaps g c =
    let at = g.D.Disk.at c.args.disk.now in
    subst (λ (task : Task). IfErr c.decode_beside.result (LeavesListOf (g.D.Disk.faultless c.args.disk.now) at (g.D.Disk.at c.decode_beside.new.disk) c.args.mode.now task)) (sym c.in-DecodeCopy.is)
    (no_list at (g.D.Disk.at c.decode_beside.new.disk) _ c.decode_beside.result c.decode_beside.ensures.files)

pub returns-in-Replay-clause-gaps : goal.returns-in-Replay-clause-gaps
returns-in-Replay-clause-gaps g c =
    let at = g.D.Disk.at c.args.disk.now in
    subst (λ (task : Task). IfErr c.replay.result (LeavesListOf (g.D.Disk.faultless c.args.disk.now) at at c.args.mode.now task)) (sym c.in-Replay.is)
    (no_list_kept at c.replay.result)

pub returns-in-Gather-clause-gaps : goal.returns-in-Gather-clause-gaps
returns-in-Gather-clause-gaps g c =
    subst (λ (task : Task). IfErr c.gather.result (LeavesListOf (g.D.Disk.faultless c.args.disk.now) (g.D.Disk.at c.args.disk.now) (g.D.Disk.at c.gather.new.disk) c.args.mode.now task)) (sym c.in-Gather.is)
    c.gather.ensures.gaps
