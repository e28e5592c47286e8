-- What the runs of one script answer.
use Rattle.std.proofs.Common.{◌≡◌, ◌⊎◌, inl, inr, ℕ, ◌<◌, ◌≤◌, List, length, Result, Ok, Err, IfErr, IfOk, IsErrOf, IsOk, refl, ap, subst, ◌∙◌, arith}
use Rattle.b3tree.specs.declared.mode.Mode.{Mode}
use Rattle.b3tree.specs.declared.values.Hash.{Hash}
use Rattle.bao_check.specs.declared.fault.CheckFault.{CheckFault}
use Rattle.bao_files.specs.declared.fault.FileFault.TheVariants as file
use Rattle.bao_script.specs.declared.fault.ReplayScriptFault.TheVariants.{Refused, Illegal, Capacity, Cutting, Replaying, Memory}
use Rattle.bao_script.specs.declared.numbered.NumberedLine.{NumberedLine}
use Rattle.bao_script.specs.Printouts.{IsPrinted, IsStopped}
use Rattle.bao_script.specs.Scripts.{IsFirstRefused, IsScript, numbered}
use Rattle.bao_script.specs.Slices.{AreAccepted, IsRefusedSlice, slices_of}
use Rattle.bao_script.specs.Words.{lines_of}
use Rattle.holders.specs.declared.fixed.Fixed.{Fixed}
use Rattle.bao_tasks.specs.declared.rerun_fault.RerunFault.{RerunFault}
use Rattle.bao_tasks.specs.declared.rerun_fault.RerunFault.TheVariants.{File, Script, Replay}
use Rattle.bao_tasks.specs.Replayed.{IsAcceptedRun, IsRefusedRun, IsRun, IsStoppedRun}
use Rattle.bao_tasks.specs.RerunFaults.{IsOfNoFile}
use Rattle.determined_texts.specs.Agreeing.{AgreeUnless}
use Rattle.determined_program.proofs.Lines.{one_script}
use Rattle.determined_program.proofs.Pieces as pieces
use Rattle.determined_program.proofs.Runs.{one_printout, one_stop, printout_apart}
use Rattle.determined_program.proofs.Refused as scripts
use Rattle.determined_program.specs.Replays.{IsWant}

-- a store may have room for so many chunks
abbrev pub HasRoom : ℕ → Type 0
HasRoom capacity = (0 < capacity) × (capacity ≤ 65536)

module _ (mode : Mode) (root : Hash) (capacity : ℕ) (text : List ℕ) (files : List (List ℕ)) where
  abbrev fixed : Fixed
  fixed = record { root = root; mode = mode; capacity = capacity; base = 0 }

  -- what an answer says
  abbrev pub Says : {X : Type 0} → (X → List ℕ) → Result X RerunFault → Type 0
  Says items (Ok x) = IsRun mode root capacity text files (items x) × HasRoom capacity
  Says items (Err (File fault)) = fault ≡ file.Memory
  Says items (Err (Script n)) = IsFirstRefused (length files) text n
  Says items (Err (Replay (Refused n fault))) = IsRefusedRun mode root text files n fault
  Says items (Err (Replay (Illegal n))) = IsStoppedRun mode root capacity text files n × HasRoom capacity
  Says items (Err (Replay Capacity)) = ((capacity ≡ 0) ⊎ (65536 < capacity)) × IsAcceptedRun mode root text files
  Says items (Err (Replay Cutting)) = Unit {0}
  Says items (Err (Replay Replaying)) = Unit {0}
  Says items (Err (Replay Memory)) = Unit {0}

  -- all of them speak of the same lines
  same_lines : (one other : List NumberedLine) → IsScript (length files) text one → IsScript (length files) text other → one ≡ other
  same_lines one other a b = one_script (length files) (numbered 1 (lines_of text)) one other a b

  no_room : HasRoom capacity → (capacity ≡ 0) ⊎ (65536 < capacity) → ⊥
  no_room room none = elim none [ inl zero ↦ omega (arith, room.0, zero) | inr large ↦ omega (arith, room.1, large) ]

  pub runs_one : (s t : List ℕ) → IsRun mode root capacity text files s → IsRun mode root capacity text files t → s ≡ t
  runs_one s t a b =
      one_printout fixed files a.0 s t a.2 (subst (λ (k : List NumberedLine). IsPrinted fixed files k t) (same_lines b.0 a.0 b.1 a.1) b.2)

  pub run_stopped : (s : List ℕ) (n : ℕ) → IsRun mode root capacity text files s → IsStoppedRun mode root capacity text files n → ⊥
  run_stopped s n a b = printout_apart fixed files a.0 s n a.2 (subst (λ (k : List NumberedLine). IsStopped fixed files k n) (same_lines b.0 a.0 b.1 a.1) b.2)

  stops_same : (m n : ℕ) → IsStoppedRun mode root capacity text files m → IsStoppedRun mode root capacity text files n → m ≡ n
  stops_same m n a b = one_stop fixed files a.0 m n a.2 (subst (λ (k : List NumberedLine). IsStopped fixed files k n) (same_lines b.0 a.0 b.1 a.1) b.2)

  -- those whose pieces are all accepted
  pub run_accepted : (s : List ℕ) → IsRun mode root capacity text files s → IsAcceptedRun mode root text files
  run_accepted s a = (a.0, a.1, (a.2.pieces, a.2.named))

  stopped_accepted : (n : ℕ) → IsStoppedRun mode root capacity text files n → IsAcceptedRun mode root text files
  stopped_accepted n a = (a.0, a.1, (a.2.pieces, a.2.named))

  pub refused_accepted : (n : ℕ) (f : CheckFault) → IsRefusedRun mode root text files n f → IsAcceptedRun mode root text files → ⊥
  refused_accepted n f a b =
      let same : b.0 ≡ a.0 = same_lines b.0 a.0 b.1 a.1 in
      let accepted : AreAccepted mode root.0 (slices_of files a.0) = subst (λ (k : List NumberedLine). AreAccepted mode root.0 (slices_of files k)) same b.2 in
      pieces.refused_apart mode root.0 (slices_of files a.0) n f accepted.0 a.2 accepted.1

  refusals_same : (m n : ℕ) (e f : CheckFault) → IsRefusedRun mode root text files m e → IsRefusedRun mode root text files n f → (m ≡ n) × (e ≡ f)
  refusals_same m n e f a b =
      pieces.one_refused mode root.0 (slices_of files a.0) m n e f a.2
      (subst (λ (k : List NumberedLine). IsRefusedSlice mode root.0 (slices_of files k) n f) (same_lines b.0 a.0 b.1 a.1) b.2)

  pub answers_agree : {X : Type 0} (items : X → List ℕ) (one other : Result X RerunFault) → Says items one → Says items other → AgreeUnless (λ a b. items a ≡ items b) IsWant IsWant one other
  answers_agree items (Ok x) (Ok y) p q = runs_one (items x) (items y) p.0 q.0
  answers_agree items (Ok x) (Err (Script y)) p q = absurd (scripts.refused_apart (length files) text y p.0.0 q p.0.1)
  answers_agree items (Ok x) (Err (Replay (Refused y yf))) p q = absurd (refused_accepted y yf q (run_accepted (items x) p.0))
  answers_agree items (Ok x) (Err (Replay (Illegal y))) p q = absurd (run_stopped (items x) y p.0 q.0)
  answers_agree items (Ok x) (Err (Replay Capacity)) p q = absurd (no_room p.1 q.0)
  answers_agree items (Err (Script x)) (Ok y) p q = absurd (scripts.refused_apart (length files) text x q.0.0 p q.0.1)
  answers_agree items (Err (Script x)) (Err (Script y)) p q = inl (ap (λ (k : ℕ). Script k) (scripts.one_refused (length files) text x y p q))
  answers_agree items (Err (Script x)) (Err (Replay (Refused y yf))) p q = absurd (scripts.refused_apart (length files) text x q.0 p q.1)
  answers_agree items (Err (Script x)) (Err (Replay (Illegal y))) p q = absurd (scripts.refused_apart (length files) text x q.0.0 p q.0.1)
  answers_agree items (Err (Script x)) (Err (Replay Capacity)) p q = absurd (scripts.refused_apart (length files) text x q.1.0 p q.1.1)
  answers_agree items (Err (Replay (Refused x xf))) (Ok y) p q = absurd (refused_accepted x xf p (run_accepted (items y) q.0))
  answers_agree items (Err (Replay (Refused x xf))) (Err (Script y)) p q = absurd (scripts.refused_apart (length files) text y p.0 q p.1)
  answers_agree items (Err (Replay (Refused x xf))) (Err (Replay (Refused y yf))) p q = let same = refusals_same x y xf yf p q in inl (ap (λ (k : ℕ). Replay (Refused k xf)) same.0 ∙ ap (λ (k : CheckFault). Replay (Refused y k)) same.1)
  answers_agree items (Err (Replay (Refused x xf))) (Err (Replay (Illegal y))) p q = absurd (refused_accepted x xf p (stopped_accepted y q.0))
  answers_agree items (Err (Replay (Refused x xf))) (Err (Replay Capacity)) p q = absurd (refused_accepted x xf p q.1)
  answers_agree items (Err (Replay (Illegal x))) (Ok y) p q = absurd (run_stopped (items y) x q.0 p.0)
  answers_agree items (Err (Replay (Illegal x))) (Err (Script y)) p q = absurd (scripts.refused_apart (length files) text y p.0.0 q p.0.1)
  answers_agree items (Err (Replay (Illegal x))) (Err (Replay (Refused y yf))) p q = absurd (refused_accepted y yf q (stopped_accepted x p.0))
  answers_agree items (Err (Replay (Illegal x))) (Err (Replay (Illegal y))) p q = inl (ap (λ (k : ℕ). Replay (Illegal k)) (stops_same x y p.0 q.0))
  answers_agree items (Err (Replay (Illegal x))) (Err (Replay Capacity)) p q = absurd (no_room p.1 q.0)
  answers_agree items (Err (Replay Capacity)) (Ok y) p q = absurd (no_room q.1 p.0)
  answers_agree items (Err (Replay Capacity)) (Err (Script y)) p q = absurd (scripts.refused_apart (length files) text y p.1.0 q p.1.1)
  answers_agree items (Err (Replay Capacity)) (Err (Replay (Refused y yf))) p q = absurd (refused_accepted y yf q p.1)
  answers_agree items (Err (Replay Capacity)) (Err (Replay (Illegal y))) p q = absurd (no_room q.1 p.0)
  answers_agree items (Err (Replay Capacity)) (Err (Replay Capacity)) p q = inl refl
  answers_agree items (Err (File e)) (Ok y) p q = p
  answers_agree items (Err (File e)) (Err f) p q = inr (inl p)
  answers_agree items (Err (Replay Cutting)) (Ok y) p q = tt
  answers_agree items (Err (Replay Cutting)) (Err f) p q = inr (inl tt)
  answers_agree items (Err (Replay Replaying)) (Ok y) p q = tt
  answers_agree items (Err (Replay Replaying)) (Err f) p q = inr (inl tt)
  answers_agree items (Err (Replay Memory)) (Ok y) p q = tt
  answers_agree items (Err (Replay Memory)) (Err f) p q = inr (inl tt)
  answers_agree items (Ok x) (Err (File f)) p q = q
  answers_agree items (Err e) (Err (File f)) p q = inr (inr q)
  answers_agree items (Ok x) (Err (Replay Cutting)) p q = tt
  answers_agree items (Err e) (Err (Replay Cutting)) p q = inr (inr tt)
  answers_agree items (Ok x) (Err (Replay Replaying)) p q = tt
  answers_agree items (Err e) (Err (Replay Replaying)) p q = inr (inr tt)
  answers_agree items (Ok x) (Err (Replay Memory)) p q = tt
  answers_agree items (Err e) (Err (Replay Memory)) p q = inr (inr tt)

  pub says : {X : Type 0} (items : X → List ℕ) (one : Result X RerunFault) (count : ℕ) → count ≡ length files → IfOk one (λ x. IsRun mode root capacity text files (items x)) → ((n : ℕ) → IsErrOf one (Script n) → IsFirstRefused count text n)
      → ((n : ℕ) → IsErrOf one (Replay (Illegal n)) → IsStoppedRun mode root capacity text files n)
      → ((n : ℕ) (f : CheckFault) → IsErrOf one (Replay (Refused n f)) → IsRefusedRun mode root text files n f)
      → (IsErrOf one (Replay Capacity) → ((capacity ≡ 0) ⊎ (65536 < capacity)) × IsAcceptedRun mode root text files)
      → (IsOk one → HasRoom capacity) → ((n : ℕ) → IsErrOf one (Replay (Illegal n)) → HasRoom capacity) → IfErr one IsOfNoFile → Says items one
  says items (Ok x) count size answer script illegal refused none within room want = (answer, within refl)
  says items (Err (File fault)) count size answer script illegal refused none within room want = want
  says items (Err (Script n)) count size answer script illegal refused none within room want = subst (λ (k : ℕ). IsFirstRefused k text n) size (script n refl)
  says items (Err (Replay (Refused n f))) count size answer script illegal refused none within room want = refused n f refl
  says items (Err (Replay (Illegal n))) count size answer script illegal refused none within room want = (illegal n refl, room n refl)
  says items (Err (Replay Capacity)) count size answer script illegal refused none within room want = none refl
  says items (Err (Replay Cutting)) count size answer script illegal refused none within room want = tt
  says items (Err (Replay Replaying)) count size answer script illegal refused none within room want = tt
  says items (Err (Replay Memory)) count size answer script illegal refused none within room want = tt
