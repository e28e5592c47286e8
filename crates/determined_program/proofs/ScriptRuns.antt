-- Two runs of one script answer the same, but for want of memory.
use Rattle.std.proofs.Common.{◌≡◌, ◌⊎◌, ℕ, ◌<◌, ◌≤◌, List, Result, Ok, Err, IfOk, IsOk, inl, inr, refl, ap, arith}
use Rattle.bao_check.specs.declared.fault.CheckFault.{CheckFault}
use Rattle.holders.specs.declared.fixed.Fixed.{Fixed}
use Rattle.bao_script.specs.declared.fault.ReplayScriptFault.{ReplayScriptFault}
use Rattle.bao_script.specs.declared.fault.ReplayScriptFault.TheVariants.{Refused, Illegal, Capacity, Cutting, Replaying, Memory}
use Rattle.bao_script.specs.declared.numbered.NumberedLine.{NumberedLine}
use Rattle.bao_script.specs.Printouts.{IsPrinted, IsStopped}
use Rattle.bao_script.specs.Slices.{AreAccepted, IsRefusedSlice, slices_of}
use Rattle.determined_texts.specs.Agreeing.{AgreeUnless}
use Rattle.determined_program.specs.Replays.{IsWantOfRun}
use Rattle.determined_program.proofs.Pieces.{one_refused, refused_apart}
use Rattle.determined_program.proofs.Runs.{one_printout, one_stop, printout_apart}

-- a run's answer, as its contract has it
pub record IsRun {V : Type 0} (items : V → List ℕ) (fixed : Fixed) (files : List (List ℕ)) (script : List NumberedLine) (r : Result V ReplayScriptFault) : Type 0 where
  pub printed : IfOk r (λ text. IsPrinted fixed files script (items text))
  pub illegal : (number : ℕ) → r ≡ Err (Illegal number) → IsStopped fixed files script number
  pub refused : (number : ℕ) (fault : CheckFault) → r ≡ Err (Refused number fault) → IsRefusedSlice fixed.mode fixed.root.0 (slices_of files script) number fault
  pub capacity : r ≡ Err Capacity → ((fixed.capacity ≡ 0) ⊎ (65536 < fixed.capacity)) × AreAccepted fixed.mode fixed.root.0 (slices_of files script)
  pub within : IsOk r → (0 < fixed.capacity) × (fixed.capacity ≤ 65536)
  pub illegal_within : (number : ℕ) → r ≡ Err (Illegal number) → (0 < fixed.capacity) × (fixed.capacity ≤ 65536)

not_both : (n : ℕ) → (n ≡ 0) ⊎ (65536 < n) → 0 < n → n ≤ 65536 → ⊥
not_both n (inl zero) low high = omega arith
not_both n (inr large) low high = omega arith

module _ {V : Type 0} (items : V → List ℕ) (fixed : Fixed) (files : List (List ℕ)) (script : List NumberedLine) where
  abbrev Run : Result V ReplayScriptFault → Type 0
  Run r = IsRun items fixed files script r

  -- a text and a fault
  text_and : (x : V) (f : ReplayScriptFault) → Run (Ok x) → Run (Err f) → IsWantOfRun f
  text_and x (Refused n e) a b = absurd (refused_apart fixed.mode fixed.root.0 (slices_of files script) n e a.printed.pieces (b.refused n e refl) a.printed.named)
  text_and x (Illegal n) a b = absurd (printout_apart fixed files script (items x) n a.printed (b.illegal n refl))
  text_and x Capacity a b = absurd (not_both fixed.capacity (b.capacity refl).0 (a.within refl).0 (a.within refl).1)
  text_and x Cutting a b = tt
  text_and x Replaying a b = tt
  text_and x Memory a b = tt

  faults_and : (e f : ReplayScriptFault) → Run (Err e) → Run (Err f) → (e ≡ f) ⊎ IsWantOfRun e ⊎ IsWantOfRun f
  faults_and Cutting f a b = inr (inl tt)
  faults_and Replaying f a b = inr (inl tt)
  faults_and Memory f a b = inr (inl tt)
  faults_and e Cutting a b = inr (inr tt)
  faults_and e Replaying a b = inr (inr tt)
  faults_and e Memory a b = inr (inr tt)
  faults_and (Refused m e) (Refused n f) a b =
      let same = one_refused fixed.mode fixed.root.0 (slices_of files script) m n e f (a.refused m e refl) (b.refused n f refl) in inl (λ i. Refused (same.0 i) (same.1 i))
  faults_and (Refused m e) (Illegal n) a b =
      let stopped = b.illegal n refl in absurd (refused_apart fixed.mode fixed.root.0 (slices_of files script) m e stopped.pieces (a.refused m e refl) stopped.named)
  faults_and (Refused m e) Capacity a b = let all = (b.capacity refl).1 in absurd (refused_apart fixed.mode fixed.root.0 (slices_of files script) m e all.0 (a.refused m e refl) all.1)
  faults_and (Illegal m) (Refused n f) a b =
      let stopped = a.illegal m refl in absurd (refused_apart fixed.mode fixed.root.0 (slices_of files script) n f stopped.pieces (b.refused n f refl) stopped.named)
  faults_and (Illegal m) (Illegal n) a b = inl (ap (λ k. Illegal k) (one_stop fixed files script m n (a.illegal m refl) (b.illegal n refl)))
  faults_and (Illegal m) Capacity a b = absurd (not_both fixed.capacity (b.capacity refl).0 (a.illegal_within m refl).0 (a.illegal_within m refl).1)
  faults_and Capacity (Refused n f) a b = let all = (a.capacity refl).1 in absurd (refused_apart fixed.mode fixed.root.0 (slices_of files script) n f all.0 (b.refused n f refl) all.1)
  faults_and Capacity (Illegal n) a b = absurd (not_both fixed.capacity (a.capacity refl).0 (b.illegal_within n refl).0 (b.illegal_within n refl).1)
  faults_and Capacity Capacity a b = inl refl

  pub runs_agree : (r s : Result V ReplayScriptFault) → Run r → Run s → AgreeUnless (λ x y. items x ≡ items y) IsWantOfRun IsWantOfRun r s
  runs_agree (Ok x) (Ok y) a b = one_printout fixed files script (items x) (items y) a.printed b.printed
  runs_agree (Ok x) (Err f) a b = text_and x f a b
  runs_agree (Err e) (Ok y) a b = text_and y e b a
  runs_agree (Err e) (Err f) a b = faults_and e f a b
