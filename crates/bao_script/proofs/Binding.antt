-- What a script's run leaves is a blob's, or there is a collision.
use Rattle.std.proofs.Common.{◌≡◌, ◌∙◌, ℕ, ◌+◌, List, [], ◌∷◌, ◌++◌, Some, ap, sym, subst, refl, append_assoc, option_to_list, inl, inr}
use Rattle.bao_check.specs.declared.checked.Checked.{Checked}
use Rattle.bao_check.proofs.Lists.{All-member}
use Rattle.std.specs.List.{AllByRecursion}
use Rattle.holders.specs.declared.fixed.Fixed.{Fixed}
use Rattle.store_core.specs.Machine.{Machine, start}
use Rattle.store_core.specs.Schedules.{Runs, after_step, step_events}
use Rattle.store_core.specs.States.{State}
use Rattle.store_core.specs.declared.history.Call.TheVariants.{Commit, Settle}
use Rattle.store_core.specs.declared.history.Event.{Event}
use Rattle.store_core.specs.declared.history.Settling.TheVariants.{Settled}
use Rattle.store_core.specs.declared.micro.MicroStep.{MicroStep}
use Rattle.store_core.specs.declared.micro.Reply.{Reply}
use Rattle.store_core.proofs.Bound.{held_binds, record_binds}
use Rattle.store_core.proofs.Listed.{IsEventOf, runs_listed, start_listed}
use Rattle.store_core.proofs.Running.{runs_are_legal}
use Rattle.bao_script.specs.Binding.{ScriptsBind}
use Rattle.bao_script.specs.ScriptRuns.{RunsScript}
use Rattle.bao_script.specs.Steps.{pieces_in, steps_of}
use Rattle.bao_script.specs.declared.numbered.NumberedLine.{NumberedLine}

-- two runs, one after the other
runs_append : (fixed : Fixed) (pieces : List Checked) (m middle last : Machine) (steps more : List MicroStep) (replies later : List Reply) (history rest : List Event)
    → Runs fixed pieces m steps replies history middle → Runs fixed pieces middle more later rest last
    → Runs fixed pieces m (steps ++ more) (replies ++ later) (history ++ rest) last
runs_append fixed pieces m middle last [] more replies later history rest runs then =
    subst (λ (rs : List Reply). Runs fixed pieces m more (rs ++ later) (history ++ rest) last) (sym runs.0)
    (subst (λ (h : List Event). Runs fixed pieces m more later (h ++ rest) last) (sym runs.1)
    (subst (λ (x : Machine). Runs fixed pieces x more later rest last) runs.2 then))
runs_append fixed pieces m middle last (step ∷ steps) more replies later history rest runs then = (
  runs.0,
  runs.1 ++ later,
  runs.2 ++ rest,
  runs.3,
  runs.4,
  ap (λ (xs : List Reply). xs ++ later) runs.5 ∙ append_assoc (option_to_list runs.0) runs.1 later,
  ap (λ (xs : List Event). xs ++ rest) runs.6 ∙ append_assoc (step_events fixed m step runs.0) runs.2 rest,
  runs_append fixed pieces (after_step fixed pieces m step runs.0) middle last steps more runs.1 later runs.2 rest runs.7 then,
)

-- some steps lead from one machine to the other
record Leads (fixed : Fixed) (pieces : List Checked) (m last : Machine) : Type 0 where
  steps : List MicroStep
  replies : List Reply
  history : List Event
  runs : Runs fixed pieces m steps replies history last

-- those of all lines of a script
script_leads : (fixed : Fixed) (pieces : List Checked) (piece : ℕ) (m : Machine) (lines : List NumberedLine) (answers : List (ℕ × Reply)) (last : Machine)
    → RunsScript fixed pieces piece m lines answers last → Leads fixed pieces m last
script_leads fixed pieces piece m [] answers last runs = record { steps = []; replies = []; history = []; runs = (refl, refl, runs.1) }
script_leads fixed pieces piece m (line ∷ lines) answers last runs =
    let then = script_leads fixed pieces (piece + pieces_in line.line) runs.2 lines runs.3 last runs.6 in
    record {
      steps = steps_of piece line.line ++ then.steps;
      replies = runs.0 ++ then.replies;
      history = runs.1 ++ then.history;
      runs = runs_append fixed pieces m runs.2 last (steps_of piece line.line) then.steps runs.0 then.replies runs.1 then.history runs.4 then.runs;
    }

pub scripts_bind : ScriptsBind
scripts_bind fixed pieces script answers last keyed texts ran blob is =
    let led = script_leads fixed pieces 0 start script answers last ran in
    let legal = runs_are_legal fixed pieces led.steps led.replies led.history last texts led.runs in
    let all : AllByRecursion (IsEventOf fixed pieces) led.history = runs_listed fixed pieces start led.steps led.replies led.history last (start_listed fixed pieces) led.runs in (
      λ c bytes h. elim (held_binds fixed led.history blob c bytes keyed is legal.0 (subst (λ (s : State). s.held c ≡ Some bytes) (sym legal.1) h)) [
        | inl same ↦ inl same
        | inr named ↦ inr (record {
          piece = named.0.piece;
          listed = All-member (IsEventOf fixed pieces) led.history all (record { who = named.0.who; call = Commit named.0.group named.0.piece named.0.mask }) named.0.there;
          has = named.0.has;
          pair = named.1;
        })
      ],
      λ l h. elim (record_binds fixed led.history blob l keyed is legal.0 (subst (λ (s : State). s.recorded ≡ Some l) (sym legal.1) h)) [
        | inl same ↦ inl same
        | inr named ↦ inr (record {
          piece = named.0.piece;
          listed = All-member (IsEventOf fixed pieces) led.history all (record { who = named.0.who; call = Settle named.0.piece Settled }) named.0.there;
          ends = named.0.ends;
          is = named.0.is;
          pair = named.1;
        })
      ],
    )
