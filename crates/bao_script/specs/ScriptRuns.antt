-- The run of a script, line by line.
use Rattle.std.specs.Prelude.{◌≡◌, ℕ, ◌+◌, List, [], ◌∷◌, ◌++◌, map}
use Rattle.std.specs.List.{flat_map}
use Rattle.bao_check.specs.declared.checked.Checked.{Checked}
use Rattle.holders.specs.declared.fixed.Fixed.{Fixed}
use Rattle.store_core.specs.declared.history.Event.{Event}
use Rattle.store_core.specs.declared.micro.MicroStep.{MicroStep}
use Rattle.store_core.specs.declared.micro.Reply.{Reply}
use Rattle.store_core.specs.declared.schedule.ScheduleRun.{ScheduleRun}
use Rattle.store_core.specs.Machine.{Machine}
use Rattle.store_core.specs.Replays.{IsIllegalFrom}
use Rattle.store_core.specs.Schedules.{Runs}
use Rattle.store_core.specs.ScheduleRuns.{HasRun}
use Rattle.bao_script.specs.declared.numbered.NumberedLine.{NumberedLine}
use Rattle.bao_script.specs.Replies.{reply_line}
use Rattle.bao_script.specs.Steps.{pieces_among, pieces_in, steps_of}

-- The lines' steps run one after another, and each reply has its line's number. The first line's slice, if it
-- has one, is the one with the given index in the list.
abbrev pub RunsScript : Fixed → List Checked → ℕ → Machine → List NumberedLine → List (ℕ × Reply) → Machine → Type 0
RunsScript fixed pieces piece m [] answers last = (answers ≡ []) × (last ≡ m)
RunsScript fixed pieces piece m (line ∷ lines) answers last =
    (replies : List Reply) × (events : List Event) × (next : Machine) × (later : List (ℕ × Reply))
    × Runs fixed pieces m (steps_of piece line.line) replies events next
    × (answers ≡ map (λ reply. (line.number, reply)) replies ++ later)
    × RunsScript fixed pieces (piece + pieces_in line.line) next lines later last

-- one of these steps isn't legal, and those before it ran
abbrev pub StopsAmong : Fixed → List Checked → Machine → List MicroStep → Type 0
StopsAmong fixed pieces m steps = (index : ℕ) × IsIllegalFrom fixed pieces m steps index

-- the lines before the one with this number ran, and one of its steps isn't legal
abbrev pub StopsAtLine : Fixed → List Checked → ℕ → Machine → List NumberedLine → ℕ → Type 0
StopsAtLine fixed pieces piece m script number =
    (before : List NumberedLine) × (line : NumberedLine) × (after : List NumberedLine)
    × (script ≡ before ++ line ∷ after) × (line.number ≡ number)
    × (answers : List (ℕ × Reply)) × (last : Machine) × RunsScript fixed pieces piece m before answers last
    × StopsAmong fixed pieces last (steps_of (piece + pieces_among before) line.line)

-- the replies' lines
abbrev pub answers_text : List (ℕ × Reply) → List ℕ
answers_text answers = flat_map (λ answer. reply_line answer.0 answer.1) answers

-- the run represents this machine, whatever its earlier steps
abbrev pub StandsAt : Fixed → List Checked → Machine → ScheduleRun → Type 0
StandsAt fixed pieces m run = (steps : List MicroStep) × (replies : List Reply) × (history : List Event) × HasRun fixed pieces steps replies history m run

-- The steps of the line with this number ran from the machine. The run represents the machine after them, and
-- the text has grown by the lines of their replies.
pub record RanSteps (fixed : Fixed) (pieces : List Checked) (m : Machine) (steps : List MicroStep) (number : ℕ) (old new : List ℕ) (run : ScheduleRun) : Type 0 where
  pub replies : List Reply
  pub events : List Event
  pub next : Machine
  pub runs : Runs fixed pieces m steps replies events next
  pub stands : StandsAt fixed pieces next run
  pub text : new ≡ old ++ answers_text (map (λ reply. (number, reply)) replies)

-- the lines ran from the machine, and the text has grown by the lines of their replies
pub record RanLines (fixed : Fixed) (pieces : List Checked) (m : Machine) (lines : List NumberedLine) (old new : List ℕ) (run : ScheduleRun) : Type 0 where
  pub answers : List (ℕ × Reply)
  pub last : Machine
  pub runs : RunsScript fixed pieces 0 m lines answers last
  pub stands : StandsAt fixed pieces last run
  pub text : new ≡ old ++ answers_text answers
