-- The events of a plan: for each call which answer is right, and what is known after it.
use Rattle.std.specs.Prelude.{◌≡◌, ◌⊎◌, ℕ, zero, suc, ◌+◌, ◌-◌, ◌*◌, ◌/◌, ◌%◌, ◌<◌, ◌≤◌, ◌^◌, min, max, ◌==◌, Bool, true, false, not, ◌&&◌, ◌||◌, if◌then◌else◌}
use Rattle.bao_plan.specs.declared.policy.Policy.{Policy}
use Rattle.bao_plan.specs.declared.policy.Next.{Next}
use Rattle.bao_plan.specs.declared.policy.Next.TheVariants.{Fetch, WaitUntil, Nothing}
use Rattle.bao_plan.specs.declared.policy.Outcome.{Outcome}
use Rattle.bao_plan.specs.declared.policy.Outcome.TheVariants.{Over, LaterBy, Cut}
use Rattle.bao_plan.specs.Sets.{any_below, has_bit, in_mask, in_range, is_some_bit}
use Rattle.bao_plan.specs.States.{HolderState, State, is_left_out, is_ready, is_undecided, is_wanted}

-- A call with what it answered. `h` is a holder's number and `now` a moment. A mask is of the chunks of a group.
pub data Event : Type 0 where
  -- a holder is added, of which nothing is known
  Added : Event
  -- the holder is asked for what `answer` says
  Asked : (h now : ℕ) (answer : Next) → Event
  -- it gave these chunks truly, of which those `taken` were lacking
  Kept : (h group mask taken : ℕ) → Event
  -- it gave these chunks falsely
  Refused : (h group mask : ℕ) → Event
  -- it said that it lacks these chunks, or that it has them
  Lacks : (h group mask : ℕ) → Event
  Has : (h group mask : ℕ) → Event
  -- its failures are forgotten
  Forgiven : (h : ℕ) → Event
  -- only chunks below the end are asked for from now on
  Limited : (end : ℕ) → Event
  -- it has this rank from now on
  Ranked : (h rank : ℕ) → Event
  -- its request of `count` chunks from `first` on ended, which was a failure or wasn't
  Ended : (h first count : ℕ) (outcome : Outcome) (now : ℕ) (failed : Bool) → Event

-- holder h is changed, and all others are as they were
abbrev pub put : (ℕ → HolderState) → ℕ → HolderState → ℕ → HolderState
put holders h x = λ k. if k == h then x else holders k

abbrev pub with_holder : State → ℕ → HolderState → State
with_holder s h x = record s { holder = put s.holder h x }

-- a chunk that a holder gave truly, and nobody before it, ends its row of failures, unless it is left out
abbrev pub after_chunks : Policy → ℕ → HolderState → HolderState
after_chunks policy taken x = record x { in_row = if is_some_bit taken && not (is_left_out policy x) then 0 else x.in_row }

-- the pause after a first failure, doubled n times, but for the longest
abbrev pub doubled : Policy → ℕ → ℕ
doubled policy zero = min policy.longest_pause policy.pause
doubled policy (suc n) = min policy.longest_pause (2 * doubled policy n)

-- how long a holder is left alone after so many failures in a row
abbrev pub pause_of : Policy → ℕ → ℕ
pause_of policy zero = 0
pause_of policy (suc n) = doubled policy n

-- or after a request that ended so
abbrev pub pause_after : Policy → Outcome → ℕ → ℕ
pause_after policy Over in_row = pause_of policy in_row
pause_after policy (LaterBy ms) in_row = min policy.longest_pause ms
pause_after policy Cut in_row = 0

abbrev pub is_cut : Outcome → Bool
is_cut Over = false
is_cut (LaterBy ms) = false
is_cut Cut = true

-- whether a chunk of the request is decided: it is no longer lacking, or the holder doesn't have it
abbrev pub is_decided : State → ℕ → ℕ → ℕ → Bool
is_decided s h first count = any_below count (λ i. not (is_undecided s h (first + i)))

abbrev pub is_failure : State → ℕ → ℕ → ℕ → Outcome → Bool
is_failure s h first count outcome = not (is_decided s h first count) && not (is_cut outcome)

-- one more failure in a row, unless it is left out
abbrev pub row_after : Policy → HolderState → Bool → ℕ
row_after policy x failed = if failed && not (is_left_out policy x) then x.in_row + 1 else x.in_row

-- the holder when its request has ended
abbrev pub after_request : Policy → HolderState → ℕ → ℕ → Outcome → ℕ → Bool → HolderState
after_request policy x first count outcome now failed = record x {
  asked = λ c. x.asked c && not (in_range first count c);
  in_row = row_after policy x failed;
  later = max x.later (now + pause_after policy outcome (if failed then row_after policy x failed else 0));
}

-- the state when a holder is asked
abbrev pub after_asking : State → ℕ → ℕ → Next → State
after_asking s h now (Fetch first count) = record s {
  since = λ u. if u == first / 1024 then now else s.since u;
  holder = put s.holder h (record (s.holder h) { asked = λ c. (s.holder h).asked c || in_range first count c });
}
after_asking s h now (WaitUntil t) = s
after_asking s h now Nothing = s

-- the state after an event
abbrev pub happens : State → Event → State
happens s Added = record s { count = s.count + 1 }
happens s (Asked h now answer) = after_asking s h now answer
happens s (Kept h group mask taken) = record s {
  is_open = λ c. s.is_open c && not (in_mask group mask c);
  holder = put s.holder h (after_chunks s.policy taken (s.holder h));
}
happens s (Refused h group mask) = with_holder s h (record (s.holder h) { refused = λ c. (s.holder h).refused c || in_mask group mask c })
happens s (Lacks h group mask) = with_holder s h (record (s.holder h) { absent = λ c. (s.holder h).absent c || in_mask group mask c })
happens s (Has h group mask) = with_holder s h (record (s.holder h) { absent = λ c. (s.holder h).absent c && not (in_mask group mask c) })
happens s (Forgiven h) = with_holder s h (record (s.holder h) { in_row = 0 })
happens s (Limited end) = record s { end = end }
happens s (Ranked h rank) = with_holder s h (record (s.holder h) { rank = rank })
happens s (Ended h first count outcome now failed) =
    with_holder s h (after_request s.policy (s.holder h) first count outcome now failed)

-- the mask is of exactly those chunks of the group that pass the test
pub record IsMaskOf (group mask : ℕ) (test : ℕ → Bool) : Type 0 where
  pub small : mask < 2 ^ 64
  pub bits : (c : ℕ) → c / 64 ≡ group → has_bit mask (c % 64) ≡ test c

-- a request goes on up to a multiple of its greatest length, or up to a chunk that isn't ready
abbrev pub IsWhole : State → ℕ → ℕ → Bool → ℕ → ℕ → Type 0
IsWhole s h now overtakes first count = (count ≡ 1024) ⊎ ((first + count) % 1024 ≡ 0) ⊎ (is_ready s h now overtakes (first + count) ≡ false)

-- Who is asked isn't left out, nor to be left alone, and each chunk is ready. All are of one unit of 1,024. It overtakes another
-- holder only where nothing else is ready for it.
pub record IsRightFetch (s : State) (h now first count : ℕ) : Type 0 where
  pub some : 0 < count
  pub most : count ≤ 1024
  pub within : (first + count - 1) / 1024 ≡ first / 1024
  pub is_in : is_left_out s.policy (s.holder h) ≡ false
  pub later : (s.holder h).later ≤ now
  pub overtakes : Bool
  pub ready : (c : ℕ) → in_range first count c ≡ true → is_ready s h now overtakes c ≡ true
  pub whole : IsWhole s h now overtakes first count
  pub only_then : overtakes ≡ true → (c : ℕ) → is_ready s h now false c ≡ false

-- There is a chunk to ask it for, but not now.
pub record IsRightWait (s : State) (h now until : ℕ) : Type 0 where
  pub ahead : now < until
  pub is_in : is_left_out s.policy (s.holder h) ≡ false
  pub some : (c : ℕ) × (is_wanted s h c ≡ true)
  pub not_now : (s.holder h).later ≤ now → (c : ℕ) → is_ready s h now true c ≡ false

-- a fact of the request that an answer is
abbrev pub IfFetch : Next → (ℕ → ℕ → Type 0) → Type 0
IfFetch (Fetch first count) P = P first count
IfFetch (WaitUntil t) P = ⊥
IfFetch Nothing P = ⊥

abbrev pub IsRightAnswer : State → ℕ → ℕ → Next → Type 0
IsRightAnswer s h now (Fetch first count) = IsRightFetch s h now first count
IsRightAnswer s h now (WaitUntil t) = IsRightWait s h now t
IsRightAnswer s h now Nothing = (c : ℕ) → is_left_out s.policy (s.holder h) ≡ false → is_wanted s h c ≡ false

-- a request of these chunks is under way at the holder, whole
abbrev pub IsUnderWay : State → ℕ → ℕ → ℕ → Type 0
IsUnderWay s h first count = (0 < count) × ((c : ℕ) → in_range first count c ≡ true → (s.holder h).asked c ≡ true)

-- what a call answered is right
abbrev pub IsRight : State → Event → Type 0
IsRight s Added = Unit {0}
IsRight s (Asked h now answer) = (h < s.count) × IsRightAnswer s h now answer
IsRight s (Kept h group mask taken) = (h < s.count) × IsMaskOf group taken (λ c. has_bit mask (c % 64) && s.is_open c)
IsRight s (Refused h group mask) = h < s.count
IsRight s (Lacks h group mask) = h < s.count
IsRight s (Has h group mask) = h < s.count
IsRight s (Forgiven h) = h < s.count
IsRight s (Limited end) = Unit {0}
IsRight s (Ranked h rank) = h < s.count
IsRight s (Ended h first count outcome now failed) =
    (h < s.count) × IsUnderWay s h first count × (failed ≡ is_failure s h first count outcome)

-- the call answered rightly, and led from the one state to the other
pub record Did (old new : State) (event : Event) : Type 0 where
  pub right : IsRight old event
  pub after : new ≡ happens old event
