-- What a read of several loads has come to, and how its last load ends it.
use Rattle.std.proofs.lemmas.Bool.Decides.{nat_tests}
use Rattle.std.proofs.Common.{◌≡◌, ◌⊎◌, ℕ, ◌+◌, ◌*◌, ◌-◌, ◌<◌, ◌≤◌, Bool, true, false, if◌then◌else◌, List, [], ◌∷◌, ◌++◌, length, take, drop, get_or, slice_index, Option, None, Some, refl, sym, ap, subst, ◌∙◌, arith, inl, inr, length-take, length-drop, get_or-take, get_or-drop, ext_get_or, take-append-drop}
use Rattle.std.proofs.lemmas.List.{get_or_append_left}
use Rattle.b3tree.specs.Valid.{IsKeyed}
use Rattle.holders.specs.declared.fixed.Fixed.{Fixed}
use Rattle.store_core.specs.declared.history.Call.{Call}
use Rattle.store_core.specs.declared.history.Call.TheVariants.{Read}
use Rattle.store_core.specs.declared.history.Event.{Event}
use Rattle.store_core.specs.declared.view.SeatView.{SeatView}
use Rattle.store_core.specs.Histories.{IsLegal, state_after}
use Rattle.store_core.specs.Laws.{IsRead, IsSound}
use Rattle.store_core.specs.States.{State, byte_at, read_bytes}
use Rattle.store_core.specs.Stores.{AnswersRead, filled_count}
use Rattle.store_core.proofs.Bound.{byte_binds}
use Rattle.store_core.proofs.Lasting.{legal_is_sound}
use Rattle.store_core.proofs.ReadLaws.{is_read, read_is}
use Rattle.store_core.proofs.Running.{past_none}
use Rattle.store_steps.specs.Reads.{group_end, is_last, read_end, read_events}
use Rattle.store_core.specs.Knowledge.{Called, Looked, event_of, Sees}
use Rattle.store_core.proofs.Going.{called_then, looked_state, sees_none, sees_then}
use Rattle.store_steps.proofs.LastLoad.{is_last-false, is_last-true}
use Rattle.store_shared.specs.Filled.{IsBufferFilled, StopsFilling}
use Rattle.store_shared.specs.Reading.{SeatDidRead, SeatReadBinds}
use Rattle.store_shared.proofs.Filling.{filled_then}
use Rattle.store_steps.proofs.Looking.{reads_quiet}
use Rattle.store_shared.proofs.Slices.{after_there, keeps_seen, right_there}

-- what was filled in is so in what is seen later
pub filled_later : (view new : SeatView) (events : State → List Event) (at done : ℕ) (old out : List ℕ) → Looked events view new
    → IsBufferFilled (state_after view.seen) at 0 done old out → IsBufferFilled (state_after new.seen) at 0 done old out
filled_later view new events at done old out looked filled = record {
  forward = filled.forward;
  within = filled.within;
  size = filled.size;
  bytes = λ i low high. (keeps_seen view new looked.between (events (state_after (view.seen ++ looked.between))) looked.goes_on).bytes (at + i) (slice_index out i) (filled.bytes i low high);
  others = filled.others;
}

-- A load of a read: the state in what is seen is that at the load.
module _ (first view new : SeatView) (group at len : ℕ) (going : Sees first view) (looked : Looked (read_events view group at len) view new) where
  state_is : state_after new.seen ≡ state_after (view.seen ++ looked.between)
  state_is = looked_state (read_events view group at len) view new (λ s. reads_quiet view group at len s) looked

  events_are : (b : Bool) → is_last view.fixed group at len (state_after new.seen) ≡ b → read_events view group at len (state_after (view.seen ++ looked.between))
      ≡ (if b then event_of view (Read at len (read_bytes (state_after new.seen) at len)) ∷ [] else [])
  events_are b is =
      ap (λ (s : State). read_events view group at len s) (sym state_is)
      ∙ ap (λ (x : Bool). if x then event_of view (Read at len (read_bytes (state_after new.seen) at len)) ∷ [] else []) is

  pub was_last : is_last view.fixed group at len (state_after new.seen) ≡ true → Called (Read at len (read_bytes (state_after new.seen) at len)) first new
  was_last last =
      called_then first view new (read_events view group at len) going looked (Read at len (read_bytes (state_after new.seen) at len)) (λ claimed c. refl) (events_are true last)

  pub was_not : is_last view.fixed group at len (state_after new.seen) ≡ false → Sees first new
  was_not more = sees_then first view new (read_events view group at len) going looked (events_are false more)

-- The bytes of a buffer that is filled as far as it can be are those that a read there gives.
length_taken : (out : List ℕ) (n : ℕ) → n ≤ length out → length (take n out) ≡ n
length_taken out n h = omega (arith, length-take n out, h)

pub bytes_read : (s : State) (at done : ℕ) (old out : List ℕ) → IsBufferFilled s at 0 done old out → (done < length old → byte_at s (at + done) ≡ None)
    → take done out ≡ read_bytes s at (length old)
bytes_read s at done old out filled ends =
    let taken : length (take done out) ≡ done = length_taken out done (omega (arith, filled.within, filled.size)) in
    is_read s at (length old) (take done out) (record {
      within = omega (arith, taken, filled.within);
      held = λ i h. filled.bytes i (omega arith) (omega (arith, taken, h))
          ∙ ap (λ (x : ℕ). Some x) (sym (get_or-take done out i 0 (omega (arith, taken, h))));
      missing = λ h. subst (λ (n : ℕ). byte_at s (at + n) ≡ None) (sym taken) (ends (omega (arith, taken, h)));
    })

-- the rest of the buffer is as it was
rest_is : (s : State) (at done : ℕ) (old out : List ℕ) → IsBufferFilled s at 0 done old out → drop done out ≡ drop done old
rest_is s at done old out filled =
    ext_get_or 0 (drop done out) (drop done old) (length-drop done out ∙ ap (λ (n : ℕ). n - done) filled.size ∙ sym (length-drop done old)) (λ i h.
    get_or-drop done out i 0 ∙ filled.others (done + i) (inr (omega arith)) ∙ sym (get_or-drop done old i 0))

pub did_read : (first new : SeatView) (at done : ℕ) (old out : List ℕ) (missing : Option ℕ)
    → Called (Read at (length old) (read_bytes (state_after new.seen) at (length old))) first new
    → IsBufferFilled (state_after new.seen) at 0 done old out → (done < length old → byte_at (state_after new.seen) (at + done) ≡ None)
    → (length (take done out) ≡ done → AnswersRead at (length old) (take done out) missing) → SeatDidRead first new at old out missing
did_read first new at done old out missing called filled ends answers =
    let taken : length (take done out) ≡ done = length_taken out done (omega (arith, filled.within, filled.size)) in
    let bytes : take done out ≡ read_bytes (state_after new.seen) at (length old) = bytes_read (state_after new.seen) at done old out filled ends in
    record {
      bytes = take done out;
      called = subst (λ (xs : List ℕ). Called (Read at (length old) xs) first new) (sym bytes) called;
      filled =
          sym (take-append-drop done out) ∙ ap (λ (xs : List ℕ). take done out ++ xs) (rest_is (state_after new.seen) at done old out filled)
          ∙ ap (λ (n : ℕ). take done out ++ drop n old) (sym taken);
      answer = answers taken;
    }

-- a read of no bytes
pub read_nothing : (first new : SeatView) (at : ℕ) (old : List ℕ) (missing : Option ℕ)
    → IsLegal first.fixed first.seen → Looked (read_events first 0 at (length old)) first new
    → (length old ≡ 0) ⊎ (1024 * first.fixed.capacity ≤ at) → AnswersRead at (length old) [] missing → SeatDidRead first new at old old missing
read_nothing first new at old missing legal looked none answer =
    let going : Sees first first = sees_none first legal in
    let s : State = state_after new.seen in
    let empty_end : read_end first.fixed at (length old) ≤ at = elim none [ inl zero ↦ omega (arith, zero) | inr past ↦ omega (arith, past) ] in
    let last : is_last first.fixed 0 at (length old) s ≡ true = is_last-true first.fixed 0 at (length old) s (inl empty_end) in
    let same : 1024 * new.fixed.capacity ≡ 1024 * first.fixed.capacity = ap (λ (f : Fixed). 1024 * f.capacity) looked.goes_on.fixed_is in
    let sound : IsSound new.fixed s = legal_is_sound new.fixed new.seen looked.goes_on.legal in
    did_read first new at 0 old old missing (was_last first first new 0 at (length old) going looked last)
    (record { forward = omega arith; within = omega arith; size = refl; bytes = λ i low high. absurd (omega (arith, high)); others = λ i outside. refl })
    (λ some. elim none [
      | inl zero ↦ absurd (omega (arith, zero, some))
      | inr past ↦ past_none new.fixed s (at + 0) sound (omega (arith, past, same))
    ])
    (λ taken. answer)

-- A read over groups: one load of it, and what is then copied of the group.
module _ (fixed : Fixed) (first view new : SeatView) (group at from done len : ℕ) (old mid out : List ℕ) (fixed_is : view.fixed ≡ fixed) (going : Sees first view)
    (before : IsBufferFilled (state_after view.seen) at 0 from old mid) (len_is : len ≡ length mid)
    (looked : Looked (read_events view group at len) view new) (more : IsBufferFilled (state_after new.seen) at from done mid out)
    (ends : StopsFilling (state_after new.seen) (at + done) (group_end group) done (length mid)) where
  abbrev seen_state : State
  seen_state = state_after new.seen

  asked : len ≡ length old
  asked = len_is ∙ before.size

  filled_now : IsBufferFilled seen_state at 0 done old out
  filled_now = filled_then seen_state at 0 from done old mid out (filled_later view new (read_events view group at len) at from old mid looked before) more

  stops : StopsFilling seen_state (at + done) (group_end group) done (length old)
  stops = subst (λ (n : ℕ). StopsFilling seen_state (at + done) (group_end group) done n) before.size ends

  looks : Looked (read_events view group at (length old)) view new
  looks = subst (λ (n : ℕ). Looked (read_events view group at n) view new) asked looked

  limit_is : 1024 * view.fixed.capacity ≡ 1024 * fixed.capacity
  limit_is = ap (λ (f : Fixed). 1024 * f.capacity) fixed_is

  limit_new : 1024 * new.fixed.capacity ≡ 1024 * fixed.capacity
  limit_new = ap (λ (f : Fixed). 1024 * f.capacity) (looked.goes_on.fixed_is ∙ fixed_is)

  ended : (missing : Option ℕ)
      → (read_end view.fixed at (length old) ≤ at) ⊎ ((read_end view.fixed at (length old) ≤ group_end group) ⊎ (at + length (read_bytes seen_state at (length old)) < group_end group))
      → (done < length old → byte_at seen_state (at + done) ≡ None)
      → (length (take done out) ≡ done → AnswersRead at (length old) (take done out) missing) → SeatDidRead first new at old out missing
  ended missing why gap answers =
      did_read first new at done old out missing
      (was_last first view new group at (length old) going looks (is_last-true view.fixed group at (length old) seen_state why)) filled_now gap answers

  -- the buffer is full
  pub read_whole : done ≡ length old → SeatDidRead first new at old out None
  read_whole whole =
      ended None (inr (inl (omega (arith, whole, stops.within)))) (λ some. absurd (omega (arith, some, whole))) (λ taken. taken ∙ whole)

  -- there is no room for more
  read_limit : done < length old → 1024 * fixed.capacity ≤ at + done → SeatDidRead first new at old out (Some (at + done))
  read_limit less past =
      ended (Some (at + done)) (inr (inl (omega (arith, past, stops.within, limit_is))))
      (λ some. past_none new.fixed seen_state (at + done) (legal_is_sound new.fixed new.seen looked.goes_on.legal) (omega (arith, past, limit_new)))
      (λ taken. (omega (arith, taken, less), omega (arith, taken)))

  -- a position of the group isn't held
  read_gap : done < length old → at + done < group_end group → SeatDidRead first new at old out (Some (at + done))
  read_gap less inside =
      let gap : byte_at seen_state (at + done) ≡ None = elim stops.why [
        | inl full ↦ absurd (omega (arith, full, less))
        | inr other ↦ elim other [ inl end ↦ absurd (omega (arith, end, inside)) | inr none ↦ none ]
      ] in
      let bytes : take done out ≡ read_bytes seen_state at (length old) = bytes_read seen_state at done old out filled_now (λ some. gap) in
      let count : length (read_bytes seen_state at (length old)) ≡ done =
      ap (λ (xs : List ℕ). length xs) (sym bytes) ∙ length_taken out done (omega (arith, filled_now.within, filled_now.size)) in
      ended (Some (at + done)) (inr (inr (omega (arith, count, inside)))) (λ some. gap) (λ taken. (omega (arith, taken, less), omega (arith, taken)))

  pub read_less : done < length old → (at + done < group_end group) ⊎ (1024 * fixed.capacity ≤ at + done) → SeatDidRead first new at old out (Some (at + done))
  read_less less why = elim why [ inl inside ↦ read_gap less inside | inr past ↦ read_limit less past ]

  -- all is held up to the group's end, and the read goes on
  pub read_on : done < length old → group_end group ≤ at + done → at + done < 1024 * fixed.capacity → Sees first new × IsBufferFilled seen_state at 0 done old out
  read_on less end below =
      let bytes : List ℕ = read_bytes seen_state at (length old) in
      let read : IsRead seen_state at (length old) bytes = read_is seen_state at (length old) in
      let missing = read.missing in
      let got = filled_now.bytes (length bytes) (omega arith) in
      let held : done ≤ length bytes = grind (arith, nat_tests) in (
        was_not first view new group at (length old) going looks (is_last-false view.fixed group at (length old) seen_state (omega (arith, less, below, limit_is))
            (omega (arith, less, end, below, stops.within, limit_is)) (omega (arith, held, end))),
        filled_now,
      )

-- What a read filled in is the blob's, or a collision is exhibited.
answer_count : (at len : ℕ) (bytes : List ℕ) (missing : Option ℕ) → AnswersRead at len bytes missing → filled_count at len missing ≡ length bytes
answer_count at len bytes missing answer = grind (arith, nat_tests)

pub binds : (first new : SeatView) (at : ℕ) (old out : List ℕ) (missing : Option ℕ) → IsKeyed new.fixed.mode → SeatDidRead first new at old out missing
    → SeatReadBinds new at out (filled_count at (length old) missing)
binds first new at old out missing keyed did blob is i below =
    let call : Call = Read at (length old) did.bytes in
    let s : State = state_after (first.seen ++ did.called.between) in
    let bytes_are : did.bytes ≡ read_bytes s at (length old) = right_there call first new did.called in
    let inside : i < length did.bytes = omega (arith, below, answer_count at (length old) did.bytes missing did.answer) in
    let read : IsRead s at (length old) did.bytes = subst (λ (xs : List ℕ). IsRead s at (length old) xs) (sym bytes_are) (read_is s at (length old)) in
    let same : slice_index out i ≡ slice_index did.bytes i =
    ap (λ (xs : List ℕ). get_or xs i 0) did.filled ∙ get_or_append_left did.bytes (drop (length did.bytes) old) 0 i inside in
    byte_binds new.fixed new.seen blob (at + i) (slice_index out i) keyed is did.called.goes_on.legal
    (ap (λ (t : State). byte_at t (at + i)) (after_there call first new did.called) ∙ read.held i inside ∙ ap (λ (x : ℕ). Some x) (sym same))
