-- Histories: lists of events, the first of them first, each with the right answer where it stands. What they say is read off
-- the events alone.
use Rattle.std.specs.Prelude.{◌≡◌, ℕ, ◌+◌, max, ◌==◌, Bool, true, false, not, ◌&&◌, if◌then◌else◌, List, [], ◌∷◌}
use Rattle.bao_plan.specs.Events.{Event, IsRight, happens, is_cut}
use Rattle.bao_plan.specs.Events.Event.{Added, Ended, Forgiven, Has, Kept, Lacks, Refused}
use Rattle.bao_plan.specs.Sets.{in_mask, is_some_bit}
use Rattle.bao_plan.specs.declared.policy.Policy.{Policy}
use Rattle.bao_plan.specs.States.{State, start}

-- the state after all events
abbrev pub run : State → List Event → State
run s [] = s
run s (e ∷ es) = run (happens s e) es

abbrev pub IsHistory : State → List Event → Type 0
IsHistory s [] = Unit {0}
IsHistory s (e ∷ es) = IsRight s e × IsHistory (happens s e) es

-- some history leads from the start to the state
pub record IsReached (policy : Policy) (n : ℕ) (s : State) : Type 0 where
  pub events : List Event
  pub right : IsHistory (start policy n) events
  pub is : run (start policy n) events ≡ s

-- whether the chunk was given truly, and whether it is among those that were counted then
abbrev pub keeps : ℕ → Event → Bool
keeps c (Kept h group mask taken) = in_mask group mask c
keeps c _ = false

abbrev pub counts : ℕ → Event → Bool
counts c (Kept h group mask taken) = in_mask group taken c
counts c _ = false

-- whether the holder gave the chunk falsely, or said that it lacks it
abbrev pub refuses : ℕ → ℕ → Event → Bool
refuses h c (Refused k group mask) = (h == k) && in_mask group mask c
refuses h c _ = false

abbrev pub denies : ℕ → ℕ → Event → Bool
denies h c (Lacks k group mask) = (h == k) && in_mask group mask c
denies h c _ = false

-- whether the holder gave chunks that were counted, or failed
abbrev pub gives : ℕ → Event → Bool
gives h (Kept k group mask taken) = (h == k) && is_some_bit taken
gives h _ = false

abbrev pub fails : ℕ → Event → Bool
fails h (Ended k first count outcome now failed) = (h == k) && failed
fails h _ = false

-- the holder's failures in a row after one more event, where they were r
abbrev pub next_row : ℕ → ℕ → Event → ℕ
next_row h r e = if gives h e then 0 else (if fails h e then r + 1 else r)

-- the most failures in a row that it ever had
abbrev pub longest_row : ℕ → ℕ → List Event → ℕ
longest_row h r [] = r
longest_row h r (e ∷ es) = max r (longest_row h (next_row h r e) es)

-- whether a request ended, that wasn't given up
abbrev pub is_end : Event → Bool
is_end (Ended h first count outcome now failed) = not (is_cut outcome)
is_end _ = false

-- whether a holder was added or forgiven, and whether one said that it has more
abbrev pub is_chance : Event → Bool
is_chance Added = true
is_chance (Forgiven h) = true
is_chance _ = false

abbrev pub is_news : Event → Bool
is_news (Has h group mask) = true
is_news _ = false
