-- The outcome of a command that was done, or refused something.
use Rattle.std.proofs.Common.{◌≡◌, ◌≢◌, ◌∙◌, ℕ, List, Option, inl, inr, arith, refl, sym, subst}
use Rattle.std.specs.Io.KnownBytes.{Appends}
use Rattle.b3tree.specs.declared.mode.Mode.{Mode}
use Rattle.b3tree.specs.Hashing.{stream}
use Rattle.clap.specs.Words.{Text}
use Rattle.bao_text.specs.declared.kinds.Part.{Part}
use Rattle.bao_decode.specs.Ranges.{IsPartText, part_bytes}
use Rattle.bao_decode.specs.TextPass.{IsTextFault, task_of_part}
use Rattle.bao_files.specs.Disks.{FileState, Absent, IsKnown, Stored, Unknown}
use Rattle.bao_files.specs.Printed.{digits_line}
use Rattle.bao_request.specs.CommandLine.{AsksFor, AsksForHelp}
use Rattle.bao_request.specs.declared.tasks.Request.{Request}
use Rattle.bao_request.specs.declared.tasks.Task.{Task}
use Rattle.bao_request.specs.declared.tasks.Task.TheVariants.{Hash, Encode, CutSlice, Decode, DecodeCopy, Gather, Replay}
use Rattle.bao_command.specs.Effects.{Writes, list_of}
use Rattle.bao_command.specs.Outcome.{Done, IsRefusable}
use Rattle.bao_command.specs.Refused.{HasFault, IsRefused}
use Rattle.bao_command.specs.Tasks.{IsRight, line_of, part_line}
use Rattle.determined_program.specs.Commands.{IsShort}
use Rattle.determined_program.specs.Outcomes.{IsOfOne, Judged, OfState, Outcome, OutcomeOf, Ran, Shows, Line, Put, Refused}
use Rattle.determined_program.proofs.Judged.{accepted_apart, stored_there}

-- the outcome where these bytes are right
outcome_of : Mode → Task → List ℕ → Outcome
outcome_of mode (Hash from count file) bytes = Line (digits_line (stream mode bytes from count))
outcome_of mode (Decode root part file out) bytes = Put (part_line part bytes) out.now (part_bytes part bytes)
outcome_of mode task bytes = Refused

module _ (at : List ℕ → FileState) (known : (path : List ℕ) → IsKnown (at path)) (mode : Mode) where
  is_outcome : (task : Task) (bytes : List ℕ) → IsOfOne task → IsRight at mode task bytes → OutcomeOf at mode task (outcome_of mode task bytes)
  unfolding outcome_of
  is_outcome (Hash from count file) bytes one right =
      let line : Outcome = Line (digits_line (stream mode bytes from count)) in
      subst (λ (state : FileState). OfState state file.now line (λ s. line ≡ Line (digits_line (stream mode s from count)))) (sym (stored_there (at file.now) bytes (known file.now) right)) refl
  is_outcome (Decode root part file out) bytes one right =
      let key : List ℕ = right.0.0 in
      let put : Outcome = Put (part_line part bytes) out.now (part_bytes part bytes) in (
        key,
        (
          right.0.1.0,
          subst (λ (state : FileState). OfState state file.now put (λ text. Judged (IsPartText mode key part text) (Put (part_line part text) out.now (part_bytes part text)) put))
              (sym (stored_there (at file.now) bytes (known file.now) right.1)) (inl (right.0.1.1.0, refl)),
        ),
      )
  is_outcome (Encode encoding file out) bytes one right = absurd one
  is_outcome (CutSlice root start len outboard file out) bytes one right = absurd one
  is_outcome (DecodeCopy root outboard copy out) bytes one right = absurd one
  is_outcome (Gather task) bytes one right = absurd one
  is_outcome (Replay root capacity script files) bytes one right = absurd one

  shows : (after : List ℕ → FileState) (old new : Option (List ℕ)) (task : Task) (bytes : List ℕ) → IsOfOne task → Writes at after mode task (list_of task) bytes → Appends old new (line_of mode task bytes)
      → Shows (outcome_of mode task bytes) at after old new
  unfolding outcome_of
  shows after old new (Hash from count file) bytes one writes appends = (writes, appends)
  shows after old new (Decode root part file out) bytes one writes appends = (writes, appends)
  shows after old new (Encode encoding file out) bytes one writes appends = absurd one
  shows after old new (CutSlice root start len outboard file out) bytes one writes appends = absurd one
  shows after old new (DecodeCopy root outboard copy out) bytes one writes appends = absurd one
  shows after old new (Gather task) bytes one writes appends = absurd one
  shows after old new (Replay root capacity script files) bytes one writes appends = absurd one

  -- a text that is refused isn't accepted
  text_refused : (state : FileState) (path out key : List ℕ) (part : Part) → IsKnown state → state ≢ Absent → IsShort state
      → ((text : List ℕ) → state ≡ Stored text → HasFault (IsTextFault (task_of_part mode key part) text))
      → OfState state path Refused (λ text. Judged (IsPartText mode key part text) (Put (part_line part text) out (part_bytes part text)) Refused)
  text_refused Unknown path out key part there some short fault = absurd there
  text_refused Absent path out key part there some short fault = absurd (some refl)
  text_refused (Stored text) path out key part there some short fault = inr (λ good. accepted_apart mode key part text (short text refl) good (fault text refl), refl)

  is_refused : ((path : List ℕ) → IsShort (at path)) → (sure : Type 0) (task : Task) → IsOfOne task → IsRefused sure at mode task → OutcomeOf at mode task Refused
  is_refused short sure (Hash from count file) one refused = absurd refused
  is_refused short sure (Decode root part file out) one refused =
      (refused.0, (refused.1.0, text_refused (at file.now) file.now out.now refused.0 part (known file.now) refused.1.1.0 (short file.now) (refused.1.1.1 (known out.now))))
  is_refused short sure (Encode encoding file out) one refused = absurd one
  is_refused short sure (CutSlice root start len outboard file out) one refused = absurd one
  is_refused short sure (DecodeCopy root outboard copy out) one refused = absurd one
  is_refused short sure (Gather task) one refused = absurd one
  is_refused short sure (Replay root capacity script files) one refused = absurd one

module _ (words : List Text) (at after : List ℕ → FileState) (old new : Option (List ℕ)) (known : (path : List ℕ) → IsKnown (at path))
    (asked : (request : Request) → AsksFor words request → IsOfOne request.task) where
  pub ran_done : ¬ AsksForHelp words → (status : ℕ) → status ≡ 0 → Done words at after old new → Ran words at after old new status
  ran_done work status is (inl help) = absurd (work help.0)
  ran_done work status is (inr done) =
      let prints = done.2 in
      let one = asked done.0 done.1 in
      record {
        request = done.0;
        mode = prints.0;
        outcome = outcome_of prints.0 done.0.task prints.1;
        asks = done.1;
        in_mode = prints.2;
        is = is_outcome at known prints.0 done.0.task prints.1 one prints.4;
        done = λ _. shows at known prints.0 after old new done.0.task prints.1 one prints.5 prints.6;
        refused = λ other. let no : 0 ≡ 1 = sym is ∙ other in absurd (omega (arith, no));
      }

  pub ran_refused : ((path : List ℕ) → IsShort (at path)) → (sure : Type 0) (status : ℕ) → status ≡ 1 → IsRefusable words sure at → Ran words at after old new status
  ran_refused short sure status is refused =
      record {
        request = refused.0;
        mode = refused.2.0;
        outcome = Refused;
        asks = refused.1;
        in_mode = refused.2.1;
        is = is_refused at known refused.2.0 short sure refused.0.task (asked refused.0 refused.1) refused.2.2;
        done = λ other. let no : 1 ≡ 0 = sym is ∙ other in absurd (omega (arith, no));
        refused = λ _. refl;
      }

-- a known file makes one thing of it
one_of_state : (state : FileState) (path : List ℕ) (a b : Outcome) (A B : List ℕ → Type 0) → ((bytes : List ℕ) → A bytes → B bytes → a ≡ b) → OfState state path a A → OfState state path b B → a ≡ b
one_of_state Unknown path a b A B same ours theirs = absurd ours
one_of_state Absent path a b A B same ours theirs = ours ∙ sym theirs
one_of_state (Stored bytes) path a b A B same ours theirs = same bytes ours theirs

one_judged : (good : Type 0) (done a b : Outcome) → Judged good done a → Judged good done b → a ≡ b
one_judged good done a b (inl ours) (inl theirs) = ours.1 ∙ sym theirs.1
one_judged good done a b (inl ours) (inr theirs) = absurd (theirs.0 ours.0)
one_judged good done a b (inr ours) (inl theirs) = absurd (ours.0 theirs.0)
one_judged good done a b (inr ours) (inr theirs) = ours.1 ∙ sym theirs.1

-- so that there is one outcome
pub one_outcome : (at : List ℕ → FileState) (mode : Mode) (task : Task) (a b : Outcome) → OutcomeOf at mode task a → OutcomeOf at mode task b → a ≡ b
one_outcome at mode (Hash from count file) a b ours theirs = one_of_state (at file.now) file.now a b _ _ (λ bytes x y. x ∙ sym y) ours theirs
one_outcome at mode (Decode root part file out) a b ours theirs =
    let key : ours.0 ≡ theirs.0 = (let first = ours.1.0 in let second = theirs.1.0 in cc) in
    one_of_state (at file.now) file.now a b _ _
    (λ text x y. one_judged (IsPartText mode theirs.0 part text) (Put (part_line part text) out.now (part_bytes part text)) a b
    (subst (λ (k : List ℕ). Judged (IsPartText mode k part text) (Put (part_line part text) out.now (part_bytes part text)) a) key x) y) ours.1.1 theirs.1.1
one_outcome at mode (Encode encoding file out) a b ours theirs = absurd ours
one_outcome at mode (CutSlice root start len outboard file out) a b ours theirs = absurd ours
one_outcome at mode (DecodeCopy root outboard copy out) a b ours theirs = absurd ours
one_outcome at mode (Gather task) a b ours theirs = absurd ours
one_outcome at mode (Replay root capacity script files) a b ours theirs = absurd ours
