-- What holds of every history from the start.
use Rattle.std.specs.Prelude.{◌≡◌, ◌⊎◌, ℕ, ◌+◌, ◌*◌, ◌<◌, ◌≤◌, min, Bool, true, false, if◌then◌else◌, List, ◌∷◌, ◌++◌, count_by}
use Rattle.std.specs.List.{list_any}
use Rattle.bao_plan.specs.declared.policy.Policy.{Policy}
use Rattle.bao_plan.specs.declared.policy.Next.{Next}
use Rattle.bao_plan.specs.declared.policy.Next.TheVariants.{Fetch, Nothing}
use Rattle.bao_plan.specs.declared.policy.Outcome.TheVariants.{LaterBy}
use Rattle.bao_plan.specs.Events.{Did, Event, IfFetch, IsRight, IsRightAnswer}
use Rattle.bao_plan.specs.Events.Event.{Asked, Ended}
use Rattle.bao_plan.specs.Histories.{IsHistory, IsReached, counts, denies, is_chance, is_end, is_news, keeps, longest_row, refuses, run}
use Rattle.bao_plan.specs.Sets.{in_range}
use Rattle.bao_plan.specs.States.{State, is_left_out, is_wanted, start}

-- The start is reached, and what a right call leads to from a state that is reached is reached. So each plan is, from `new` on, and
-- what holds of every history holds of it.
abbrev pub StartIsReached : Type 0
StartIsReached = (policy : Policy) (n : ℕ) → IsReached policy n (start policy n)

abbrev pub CallsReach : Type 0
CallsReach = (policy : Policy) (n : ℕ) (s t : State) (e : Event) → IsReached policy n s → Did s t e → IsReached policy n t

-- A chunk that a holder is asked for is one of the blob's, was never given truly by anybody, and never falsely by the holder.
abbrev pub NoWaste : Type 0
NoWaste = (policy : Policy) (n : ℕ) (before after : List Event) (h now first count c : ℕ)
    → IsHistory (start policy n) (before ++ Asked h now (Fetch first count) ∷ after) → in_range first count c ≡ true
    → (c < n) × (list_any (keeps c) before ≡ false) × (list_any (refuses h c) before ≡ false)

-- What is known to be false of a holder is exactly what it was refused for.
abbrev pub BlameIsExact : Type 0
BlameIsExact = (policy : Policy) (n : ℕ) (events : List Event) (h c : ℕ)
    → ((run (start policy n) events).holder h).refused c ≡ list_any (refuses h c) events

-- A holder is left out only after that many failures in a row, all its own.
abbrev pub LeftOutForFailures : Type 0
LeftOutForFailures = (policy : Policy) (n : ℕ) (events : List Event) (h : ℕ)
    → is_left_out policy ((run (start policy n) events).holder h) ≡ true → policy.faults ≤ longest_row h 0 events

-- A holder that asks to be asked later is left alone for that time, or for the longest that the policy allows.
abbrev pub LeftAlone : Type 0
LeftAlone = (policy : Policy) (n : ℕ) (before between after : List Event) (h first count ms moment : ℕ) (failed : Bool) (now next more : ℕ)
    → IsHistory (start policy n) (before ++ Ended h first count (LaterBy ms) moment failed ∷ between ++ Asked h now (Fetch next more) ∷ after)
    → moment + min policy.longest_pause ms ≤ now

-- Where a holder has nothing more to be asked for, each chunk below the end that is lacking is under way at it, or was refused of it, or it
-- said that it lacks it; or it is left out.
abbrev pub Enough : Type 0
Enough = (policy : Policy) (n : ℕ) (events : List Event) (h now c : ℕ)
    → IsRight (run (start policy n) events) (Asked h now Nothing) → c < (run (start policy n) events).end → (run (start policy n) events).is_open c ≡ true
    → (is_left_out policy ((run (start policy n) events).holder h) ≡ true) ⊎ (((run (start policy n) events).holder h).asked c ≡ true)
    ⊎ (list_any (refuses h c) events ≡ true) ⊎ (list_any (denies h c) events ≡ true)

-- So one holder that is never refused, lacks nothing and has fewer failures in a row is enough: where it has nothing more to
-- be asked for, and nothing is under way at it, nothing is lacking below the end, which is that of the blob unless it was limited.
abbrev pub OneIsEnough : Type 0
OneIsEnough = (policy : Policy) (n : ℕ) (events : List Event) (h now : ℕ)
    → IsRight (run (start policy n) events) (Asked h now Nothing)
    → ((c : ℕ) → ((run (start policy n) events).holder h).asked c ≡ false)
    → ((c : ℕ) → list_any (refuses h c) events ≡ false) → ((c : ℕ) → list_any (denies h c) events ≡ false)
    → longest_row h 0 events < policy.faults
    → (c : ℕ) → c < (run (start policy n) events).end → (run (start policy n) events).is_open c ≡ false

-- Where nothing is under way, a holder isn't left out, may be asked by now, and could be asked for a chunk, then some holder is
-- asked for chunks at once: no answer but a request is right for it.
abbrev pub NeverStuck : Type 0
NeverStuck = (s : State) (h now c : ℕ) → h < s.count → ((k d : ℕ) → (s.holder k).asked d ≡ false)
    → is_left_out s.policy (s.holder h) ≡ false → (s.holder h).later ≤ now → is_wanted s h c ≡ true
    → (k : ℕ) × (k < s.count) × ((answer : Next) → IsRightAnswer s k now answer → IfFetch answer (λ first count. Unit {0}))

-- No more requests end than this, however they end and whoever lies, but for those that the caller gave up: for each chunk, a
-- row of failures; and for each holder, and each time that one was forgiven, one request for each chunk, and a row of failures.
-- A holder that said that it has more may be asked for all anew.
abbrev pub Ends : Type 0
Ends = (policy : Policy) (n : ℕ) (events : List Event) → IsHistory (start policy n) events
    → count_by is_end events ≤ policy.faults * n + (count_by is_chance events * (n + policy.faults) + count_by is_news events * n)

-- Each chunk is counted once, as long as it is not lacking, and never else.
abbrev pub CountedOnce : Type 0
CountedOnce = (policy : Policy) (n : ℕ) (events : List Event) (c : ℕ) → IsHistory (start policy n) events → c < n
    → count_by (counts c) events + (if (run (start policy n) events).is_open c then 1 else 0) ≡ 1

-- Only what was given truly is no longer lacking.
abbrev pub OpenUntilKept : Type 0
OpenUntilKept = (policy : Policy) (n : ℕ) (events : List Event) (c : ℕ) → c < n
    → ((run (start policy n) events).is_open c ≡ false) → list_any (keeps c) events ≡ true
