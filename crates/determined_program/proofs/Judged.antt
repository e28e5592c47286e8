-- What one run of a command line does the other doesn't refuse, over the same known files.
use Rattle.std.proofs.Common.{◌≡◌, ◌^◌, ◌<◌, ℕ, List, length, Option, None, Some, Ok, inl, inr, ap, sym, subst, ◌∙◌, arith}
use Rattle.std.specs.Option.{option_copied}
use Rattle.std.proofs.lemmas.Option.{same_Some}
use Rattle.b3tree.specs.declared.mode.Mode.{Mode}
use Rattle.clap.specs.Words.{Text, subcommand_of}
use Rattle.hex.specs.Hex.{decode_of}
use Rattle.bao_text.specs.Cut.{cut_text}
use Rattle.bao_decode.specs.Ranges.{IsPartText, part_bytes}
use Rattle.bao_decode.specs.TextPass.{IsTextFault, task_of_part}
use Rattle.bao_decode.specs.Weaving.{cut_beside}
use Rattle.bao_decode.proofs.Cuttings.{cut_text-few}
use Rattle.bao_files.specs.Disks.{AreOf, FileState, Absent, IsKnown, Stored, Unknown}
use Rattle.bao_text.specs.declared.kinds.Part.{Part}
use Rattle.bao_text.specs.declared.kinds.Part.TheVariants.{Slice}
use Rattle.bao_request.specs.CommandLine.{AsksFor, AsksForHelp, program_app}
use Rattle.bao_request.specs.declared.tasks.Request.{Request}
use Rattle.bao_request.specs.declared.tasks.Task.{Task}
use Rattle.bao_request.specs.declared.tasks.Task.TheVariants.{Hash, Encode, CutSlice, Decode, DecodeCopy, Gather, Replay}
use Rattle.bao_command.specs.ModeWords.{AsksForMode, HasMode}
use Rattle.bao_command.specs.Outcome.{Done, IsRefusable}
use Rattle.bao_command.specs.Refused.{HasFault, IsRefused}
use Rattle.bao_command.specs.Tasks.{IsRight, PrintsLine}
use Rattle.bao_tasks.specs.Replayed.{IsRefusedRun, IsRun, IsStoppedRun}
use Rattle.determined_program.proofs.Tasks.{one_request}
use Rattle.determined_program.specs.Requests.{SameRequest, SameTask}
use Rattle.determined_program.proofs.Decoded.{IsFault as IsCopyFaultBeside, beside_apart}
use Rattle.determined_program.proofs.Replays.{refused_accepted, run_accepted, run_stopped}
use Rattle.determined_program.proofs.Reruns.{of_known}
use Rattle.determined_program.proofs.Texts.{apart}
use Rattle.determined_program.specs.Commands.{IsJudged, IsKeyKnown, IsOfKnown}
use Rattle.determined_program.proofs.Known.{beside_same, cut_same, mode_same, one_root, stored_also}

-- one text of digits gives one list of bytes
one_key : (digits also key other : List ℕ) → digits ≡ also → decode_of digits ≡ Ok key → decode_of also ≡ Ok other → other ≡ key
one_key digits also key other same ours theirs =
    let there : decode_of digits ≡ Ok other = ap decode_of same ∙ theirs in
    let first = ours in cc

-- the bytes of a file are stored, where they are known
pub stored_there : (state : FileState) (text : List ℕ) → IsKnown state → AreOf state text → state ≡ Stored text
stored_there Unknown text known are = absurd known
stored_there Absent text known are = absurd are
stored_there (Stored s) text known are = ap (λ (k : List ℕ). Stored k) (sym are)

-- an accepted text has no fault
pub accepted_apart : (mode : Mode) (key : List ℕ) (part : Part) (text : List ℕ) → length text < 2 ^ 63 → IsPartText mode key part text → HasFault (IsTextFault (task_of_part mode key part) text) → ⊥
accepted_apart mode key part text low accepted fault = apart (part_bytes part) mode key part text low fault.0 fault.2 accepted

module _ (at : List ℕ → FileState) (m : Mode) (sure : Type 0) (xs : List ℕ) where
  pub judged : (r s : Task) → SameTask r s → IsOfKnown at r → IsJudged at r → IsRight at m r xs → IsRefused sure at m s → ⊥
  judged (CutSlice root start len None file out) (CutSlice root' start' len' None file' out') same known judge right refused =
      let one : xs ≡ cut_text known.0 start len = cut_same at file.now known.0 start len xs known.1 known.2 right.1 in
      let key : refused.0 ≡ right.0.0 = one_key root.now root'.now right.0.0 refused.0 same.0 right.0.1.0 refused.1.0 in
      let short : length known.0 < 2 ^ 63 = judge.1 known.0 known.1 in
      let fault = refused.1.1.1 (subst (λ (p : List ℕ). IsKnown (at p)) same.5 judge.0) known.0 (subst (λ (p : List ℕ). at p ≡ Stored known.0) same.4 known.1) short in
      let also : HasFault (IsTextFault (task_of_part m right.0.0 (Slice start len)) (cut_text known.0 start len)) =
      subst (λ (T : Type 0). T) (λ i. HasFault (IsTextFault (task_of_part m (key i) (Slice (sym same.1 i) (sym same.2 i))) (cut_text known.0 (sym same.1 i) (sym same.2 i)))) fault in
      accepted_apart m right.0.0 (Slice start len) (cut_text known.0 start len) (omega (arith, cut_text-few known.0 start len, short))
      (subst (IsPartText m right.0.0 (Slice start len)) one right.0.1.1.0) also
  judged (CutSlice root start len None file out) (CutSlice root' start' len' (Some outboard) file' out') same known judge right refused =
      let no : None ≡ Some outboard.now = same.3 in cc
  judged (CutSlice root start len (Some outboard) file out) (CutSlice root' start' len' None file' out') same known judge right refused =
      let no : Some outboard.now ≡ None = same.3 in cc
  judged (CutSlice root start len (Some outboard) file out) (CutSlice root' start' len' (Some outboard') file' out') same known judge right refused =
      let path : outboard.now ≡ outboard'.now = same_Some outboard.now outboard'.now same.3 in
      let one : xs ≡ cut_beside known.0 known.1 start len = beside_same at outboard.now file.now known.0 known.1 start len xs known.2 known.3 right.1 in
      let key : refused.0 ≡ right.0.0 = one_key root.now root'.now right.0.0 refused.0 same.0 right.0.1.0 refused.1.0 in
      let fault = refused.1.1.1 (subst (λ (p : List ℕ). IsKnown (at p)) same.5 judge.0) known.0 known.1 (subst (λ (p : List ℕ). at p ≡ Stored known.0) path known.2)
      (subst (λ (p : List ℕ). at p ≡ Stored known.1) same.4 known.3) in
      let also : HasFault (IsTextFault (task_of_part m right.0.0 (Slice start len)) (cut_beside known.0 known.1 start len)) =
      subst (λ (T : Type 0). T) (λ i. HasFault (IsTextFault (task_of_part m (key i) (Slice (sym same.1 i) (sym same.2 i))) (cut_beside known.0 known.1 (sym same.1 i) (sym same.2 i)))) fault in
      accepted_apart m right.0.0 (Slice start len) (cut_beside known.0 known.1 start len) known.4
      (subst (IsPartText m right.0.0 (Slice start len)) one right.0.1.1.0) also
  judged (Decode root part file out) (Decode root' part' file' out') same known judge right refused =
      let there : at file.now ≡ Stored xs = stored_there (at file.now) xs known right.1 in
      let key : refused.0 ≡ right.0.0 = one_key root.now root'.now right.0.0 refused.0 same.0 right.0.1.0 refused.1.0 in
      let fault = refused.1.1.1 (subst (λ (p : List ℕ). IsKnown (at p)) same.3 judge.0) xs (subst (λ (p : List ℕ). at p ≡ Stored xs) same.2 there) in
      let also : HasFault (IsTextFault (task_of_part m right.0.0 part) xs) =
      subst (λ (T : Type 0). T) (λ i. HasFault (IsTextFault (task_of_part m (key i) (sym same.1 i)) xs)) fault in
      accepted_apart m right.0.0 part xs (judge.1 xs there) right.0.1.1.0 also
  judged (DecodeCopy root outboard copy out) (DecodeCopy root' outboard' copy' out') same known judge right refused =
      let outline : List ℕ = right.1.1.0 in
      let beside : at outboard.now ≡ Stored outline = stored_there (at outboard.now) outline judge.1 right.1.1.1 in
      let there : at copy.now ≡ Stored xs = stored_there (at copy.now) xs known right.1.1.2 in
      let key : refused.0 ≡ right.0 = one_key root.now root'.now right.0 refused.0 same.0 right.1.0 refused.1.0 in
      let fault = refused.1.1.1 (subst (λ (p : List ℕ). IsKnown (at p)) same.3 judge.0) outline xs (subst (λ (p : List ℕ). at p ≡ Stored outline) same.1 beside)
      (subst (λ (p : List ℕ). at p ≡ Stored xs) same.2 there) in
      beside_apart m right.0 outline xs fault.0 (subst (λ (k : List ℕ). IsCopyFaultBeside m k outline xs fault.0) key fault.2) right.1.1.3
  judged (Replay root capacity script files) (Replay root' capacity' script' files') same known judge right refused =
      let lines = known.0 in
      let pieces = known.1 in
      let root_ = right.1.0 in
      let run : IsRun m root_ capacity lines pieces xs = of_known at script.now files.items lines pieces known.2 known.3 (λ l f. IsRun m root_ capacity l f xs) right.1.1.1 in
      let key : refused.0 ≡ root_ = sym (one_root root.now root'.now root_ refused.0 same.0 right.1.1.0 refused.1.0) in
      let there : at script'.now ≡ Stored lines = subst (λ (p : List ℕ). at p ≡ Stored lines) same.2 known.2 in
      let stored = stored_also at files.items files'.items pieces same.3 known.3 in
      let number = refused.1.1.0 in
      elim refused.1.1.1 [
        | inl stopped ↦
            let stops : IsStoppedRun m refused.0 capacity' lines pieces number = of_known at script'.now files'.items lines pieces there stored (λ l f. IsStoppedRun m refused.0 capacity' l f number) stopped in
            run_stopped m root_ capacity lines pieces xs number run
            (subst (λ (T : Type 0). T) (λ i. IsStoppedRun m (key i) (sym same.1 i) lines pieces number) stops)
        | inr fault ↦
            let bad : IsRefusedRun m refused.0 lines pieces number fault.0 = of_known at script'.now files'.items lines pieces there stored (λ l f. IsRefusedRun m refused.0 l f number fault.0) fault.2 in
            refused_accepted m root_ capacity lines pieces number fault.0
            (subst (λ (T : Type 0). T) (λ i. IsRefusedRun m (key i) lines pieces number fault.0) bad) (run_accepted m root_ capacity lines pieces xs run)
      ]
  judged (Gather task) s same known judge right refused = absurd known
  judged (Hash from count file) (Hash from' count' file') same known judge right refused = absurd refused
  judged (Hash from count file) (Encode encoding' file' out') same known judge right refused = absurd refused
  judged (Hash from count file) (CutSlice root' start' len' outboard' file' out') same known judge right refused = absurd same
  judged (Hash from count file) (Decode root' part' file' out') same known judge right refused = absurd same
  judged (Hash from count file) (DecodeCopy root' outboard' copy' out') same known judge right refused = absurd same
  judged (Hash from count file) (Gather task') same known judge right refused = absurd same
  judged (Hash from count file) (Replay root' capacity' script' files') same known judge right refused = absurd same
  judged (Encode encoding file out) (Hash from' count' file') same known judge right refused = absurd refused
  judged (Encode encoding file out) (Encode encoding' file' out') same known judge right refused = absurd refused
  judged (Encode encoding file out) (CutSlice root' start' len' outboard' file' out') same known judge right refused = absurd same
  judged (Encode encoding file out) (Decode root' part' file' out') same known judge right refused = absurd same
  judged (Encode encoding file out) (DecodeCopy root' outboard' copy' out') same known judge right refused = absurd same
  judged (Encode encoding file out) (Gather task') same known judge right refused = absurd same
  judged (Encode encoding file out) (Replay root' capacity' script' files') same known judge right refused = absurd same
  judged (CutSlice root start len None file out) (Hash from' count' file') same known judge right refused = absurd same
  judged (CutSlice root start len (Some outboard) file out) (Hash from' count' file') same known judge right refused = absurd same
  judged (CutSlice root start len None file out) (Encode encoding' file' out') same known judge right refused = absurd same
  judged (CutSlice root start len (Some outboard) file out) (Encode encoding' file' out') same known judge right refused = absurd same
  judged (CutSlice root start len None file out) (Decode root' part' file' out') same known judge right refused = absurd same
  judged (CutSlice root start len (Some outboard) file out) (Decode root' part' file' out') same known judge right refused = absurd same
  judged (CutSlice root start len None file out) (DecodeCopy root' outboard' copy' out') same known judge right refused = absurd same
  judged (CutSlice root start len (Some outboard) file out) (DecodeCopy root' outboard' copy' out') same known judge right refused = absurd same
  judged (CutSlice root start len None file out) (Gather task') same known judge right refused = absurd same
  judged (CutSlice root start len (Some outboard) file out) (Gather task') same known judge right refused = absurd same
  judged (CutSlice root start len None file out) (Replay root' capacity' script' files') same known judge right refused = absurd same
  judged (CutSlice root start len (Some outboard) file out) (Replay root' capacity' script' files') same known judge right refused = absurd same
  judged (Decode root part file out) (Hash from' count' file') same known judge right refused = absurd same
  judged (Decode root part file out) (Encode encoding' file' out') same known judge right refused = absurd same
  judged (Decode root part file out) (CutSlice root' start' len' outboard' file' out') same known judge right refused = absurd same
  judged (Decode root part file out) (DecodeCopy root' outboard' copy' out') same known judge right refused = absurd same
  judged (Decode root part file out) (Gather task') same known judge right refused = absurd same
  judged (Decode root part file out) (Replay root' capacity' script' files') same known judge right refused = absurd same
  judged (DecodeCopy root outboard copy out) (Hash from' count' file') same known judge right refused = absurd same
  judged (DecodeCopy root outboard copy out) (Encode encoding' file' out') same known judge right refused = absurd same
  judged (DecodeCopy root outboard copy out) (CutSlice root' start' len' outboard' file' out') same known judge right refused = absurd same
  judged (DecodeCopy root outboard copy out) (Decode root' part' file' out') same known judge right refused = absurd same
  judged (DecodeCopy root outboard copy out) (Gather task') same known judge right refused = absurd same
  judged (DecodeCopy root outboard copy out) (Replay root' capacity' script' files') same known judge right refused = absurd same
  judged (Replay root capacity script files) (Hash from' count' file') same known judge right refused = absurd same
  judged (Replay root capacity script files) (Encode encoding' file' out') same known judge right refused = absurd same
  judged (Replay root capacity script files) (CutSlice root' start' len' outboard' file' out') same known judge right refused = absurd same
  judged (Replay root capacity script files) (Decode root' part' file' out') same known judge right refused = absurd same
  judged (Replay root capacity script files) (DecodeCopy root' outboard' copy' out') same known judge right refused = absurd same
  judged (Replay root capacity script files) (Gather task') same known judge right refused = absurd same

module _ (words : List Text) (at after : List ℕ → FileState) (old new : Option (List ℕ)) (sure : Type 0) where
  judged_of : (r s : Request) → SameRequest r s → IsOfKnown at r.task → IsKeyKnown at r → IsJudged at r.task → PrintsLine r at after old new
      → ((mode : Mode) × HasMode at s mode × IsRefused sure at mode s.task) → ⊥
  judged_of r s same known key judge prints refused =
      let has : AsksForMode at (option_copied r.key) (option_copied r.key_file) (option_copied r.context) refused.0 =
      subst (λ (T : Type 0). T) (λ i. AsksForMode at (sym same.1 i) (sym same.2 i) (sym same.3 i) refused.0) refused.1 in
      let mode : prints.0 ≡ refused.0 = mode_same at (option_copied r.key) (option_copied r.key_file) (option_copied r.context) prints.0 refused.0 key prints.2 has in
      judged at prints.0 sure prints.1 r.task s.task same.0 known judge prints.4 (subst (λ (n : Mode). IsRefused sure at n s.task) (sym mode) refused.2)

  -- the one is done, and the other refuses nothing
  pub done_unrefused : ((request : Request) → AsksFor words request → IsOfKnown at request.task × IsKeyKnown at request) → ((request : Request) → AsksFor words request → IsJudged at request.task)
      → ¬ AsksForHelp words → Done words at after old new → IsRefusable words sure at → ⊥
  done_unrefused known judge work (inl help) refused = work help.0
  done_unrefused known judge work (inr done) refused =
      judged_of done.0 refused.0 (one_request (subcommand_of program_app words) done.0 refused.0 done.1 refused.1) (known done.0 done.1).0 (known done.0 done.1).1 (judge done.0 done.1) done.2 refused.2
