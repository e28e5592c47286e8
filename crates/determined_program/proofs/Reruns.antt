-- Schedules that are run over known files.
use Rattle.std.specs.Borrow.{Bor}
use Rattle.std.proofs.Common.{◌≡◌, ◌⊎◌, inl, inr, ℕ, ◌<◌, List, [], length, get_or, Result, Ok, Err, IfOk, IsErrOf, IsOk, refl, sym, subst, ◌∙◌, arith}
use Rattle.std.proofs.lemmas.List.{ext_get_or}
use Rattle.std.proofs.lemmas.Option.{slice_get_cases}
use Rattle.b3tree.specs.declared.mode.Mode.{Mode}
use Rattle.b3tree.specs.declared.values.Hash.{Hash}
use Rattle.bao_check.specs.declared.fault.CheckFault.{CheckFault}
use Rattle.bao_decode.proofs.Openings.{stored_is}
use Rattle.bao_files.specs.Disks.{FileState, Stored}
use Rattle.bao_script.specs.declared.fault.ReplayScriptFault.TheVariants.{Refused, Illegal, Capacity, Cutting, Replaying, Memory}
use Rattle.bao_script.specs.Scripts.{IsFirstRefused}
use Rattle.bao_tasks.specs.declared.rerun_fault.RerunFault.{RerunFault}
use Rattle.bao_tasks.specs.declared.rerun_fault.RerunFault.TheVariants.{File, Script, Replay}
use Rattle.bao_tasks.specs.Replayed.{AreOfAll, IsAcceptedRun, IsRefusedRun, IsRun, IsStoppedRun, OfFiles}
use Rattle.determined_texts.specs.Agreeing.{AgreeUnless}
use Rattle.determined_program.specs.Replays.{AreStored, IsWant, MayComeOfRun}
use Rattle.determined_program.proofs.Replays.{HasRoom, Says, answers_agree}

-- the bytes of known files
one_file : (at : List ℕ → FileState) (paths : List (Bor (List ℕ))) (files known : List (List ℕ)) → AreOfAll at paths files → AreStored at paths known
    → (i : ℕ) → i < length files → get_or files i [] ≡ get_or known i []
one_file at paths files known are stored i within = elim (slice_get_cases paths i).1 [
  | inl there ↦ stored_is (at there.0.now) (get_or files i []) (get_or known i []) (stored.each i there.0 there.2) (are.each i there.0 there.2)
  | inr past ↦ absurd (omega (arith, past.0, within, are.count))
]

pub files_known : (at : List ℕ → FileState) (paths : List (Bor (List ℕ))) (files known : List (List ℕ)) → AreOfAll at paths files → AreStored at paths known → files ≡ known
files_known at paths files known are stored =
    ext_get_or [] files known (are.count ∙ sym stored.count) (one_file at paths files known are stored)

-- what holds of the bytes of such files holds of the known ones
pub of_known : (at : List ℕ → FileState) (path : List ℕ) (paths : List (Bor (List ℕ))) (lines : List ℕ) (pieces : List (List ℕ)) → at path ≡ Stored lines → AreStored at paths pieces
    → (Holds : List ℕ → List (List ℕ) → Type 0) → OfFiles at path paths Holds → Holds lines pieces
of_known at path paths lines pieces there stored Holds has =
    let text : has.0 ≡ lines = stored_is (at path) has.0 lines there has.2 in
    let files : has.1 ≡ pieces = files_known at paths has.1 pieces has.3 stored in
    subst (λ (T : Type 0). T) (λ i. Holds (text i) (files i)) has.4

module _ (mode : Mode) (root : Hash) (capacity : ℕ) (text : List ℕ) (files : List (List ℕ)) where
  -- what an answer says that isn't that a file can't be read
  abbrev pub SaysBut : {X : Type 0} → (X → List ℕ) → Result X RerunFault → Type 0
  SaysBut items (Ok x) = IsRun mode root capacity text files (items x) × HasRoom capacity
  SaysBut items (Err (File fault)) = Unit {0}
  SaysBut items (Err (Script n)) = IsFirstRefused (length files) text n
  SaysBut items (Err (Replay fault)) = Says mode root capacity text files items (Err (Replay fault))

  -- what may come of a run may come of one over files
  may_come : (fault : RerunFault) → IsWant fault → MayComeOfRun fault
  may_come (File fault) want = tt
  may_come (Script line) want = want
  may_come (Replay fault) want = want

  wider : {X : Type 0} (Same : X → X → Type 0) (one other : Result X RerunFault) → AgreeUnless Same IsWant IsWant one other → AgreeUnless Same MayComeOfRun MayComeOfRun one other
  wider Same (Ok x) (Ok y) h = h
  wider Same (Ok x) (Err f) h = may_come f h
  wider Same (Err e) (Ok y) h = may_come e h
  wider Same (Err e) (Err f) (inl same) = inl same
  wider Same (Err e) (Err f) (inr (inl want)) = inr (inl (may_come e want))
  wider Same (Err e) (Err f) (inr (inr want)) = inr (inr (may_come f want))

  both : {X : Type 0} (items : X → List ℕ) (one other : Result X RerunFault) → Says mode root capacity text files items one → Says mode root capacity text files items other
      → AgreeUnless (λ a b. items a ≡ items b) MayComeOfRun MayComeOfRun one other
  both items one other p q = wider (λ a b. items a ≡ items b) one other (answers_agree mode root capacity text files items one other p q)

  pub reruns_agree : {X : Type 0} (items : X → List ℕ) (one other : Result X RerunFault) → SaysBut items one → SaysBut items other
      → AgreeUnless (λ a b. items a ≡ items b) MayComeOfRun MayComeOfRun one other
  reruns_agree items (Err (File e)) (Ok y) p q = tt
  reruns_agree items (Err (File e)) (Err f) p q = inr (inl tt)
  reruns_agree items (Ok x) (Err (File f)) p q = tt
  reruns_agree items (Err (Script m)) (Err (File f)) p q = inr (inr tt)
  reruns_agree items (Err (Replay e)) (Err (File f)) p q = inr (inr tt)
  reruns_agree items (Ok x) (Ok y) p q = both items (Ok x) (Ok y) p q
  reruns_agree items (Ok x) (Err (Script n)) p q = both items (Ok x) (Err (Script n)) p q
  reruns_agree items (Ok x) (Err (Replay f)) p q = both items (Ok x) (Err (Replay f)) p q
  reruns_agree items (Err (Script m)) (Ok y) p q = both items (Err (Script m)) (Ok y) p q
  reruns_agree items (Err (Script m)) (Err (Script n)) p q = both items (Err (Script m)) (Err (Script n)) p q
  reruns_agree items (Err (Script m)) (Err (Replay f)) p q = both items (Err (Script m)) (Err (Replay f)) p q
  reruns_agree items (Err (Replay e)) (Ok y) p q = both items (Err (Replay e)) (Ok y) p q
  reruns_agree items (Err (Replay e)) (Err (Script n)) p q = both items (Err (Replay e)) (Err (Script n)) p q
  reruns_agree items (Err (Replay e)) (Err (Replay f)) p q = both items (Err (Replay e)) (Err (Replay f)) p q

  pub says_but : {X : Type 0} (items : X → List ℕ) (one : Result X RerunFault) → IfOk one (λ x. IsRun mode root capacity text files (items x))
      → ((n : ℕ) → IsErrOf one (Script n) → IsFirstRefused (length files) text n)
      → ((n : ℕ) → IsErrOf one (Replay (Illegal n)) → IsStoppedRun mode root capacity text files n)
      → ((n : ℕ) (f : CheckFault) → IsErrOf one (Replay (Refused n f)) → IsRefusedRun mode root text files n f)
      → (IsErrOf one (Replay Capacity) → ((capacity ≡ 0) ⊎ (65536 < capacity)) × IsAcceptedRun mode root text files)
      → (IsOk one → HasRoom capacity) → ((n : ℕ) → IsErrOf one (Replay (Illegal n)) → HasRoom capacity) → SaysBut items one
  says_but items (Ok x) answer script illegal refused none within room = (answer, within refl)
  says_but items (Err (File fault)) answer script illegal refused none within room = tt
  says_but items (Err (Script n)) answer script illegal refused none within room = script n refl
  says_but items (Err (Replay (Refused n f))) answer script illegal refused none within room = refused n f refl
  says_but items (Err (Replay (Illegal n))) answer script illegal refused none within room = (illegal n refl, room n refl)
  says_but items (Err (Replay Capacity)) answer script illegal refused none within room = none refl
  says_but items (Err (Replay Cutting)) answer script illegal refused none within room = tt
  says_but items (Err (Replay Replaying)) answer script illegal refused none within room = tt
  says_but items (Err (Replay Memory)) answer script illegal refused none within room = tt
