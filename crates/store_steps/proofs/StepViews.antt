-- What a step comes to: a new view with which the rule holds, of which the step tells.
use Rattle.std.proofs.Common.{◌≡◌, ℕ, ◌/◌, ◌^◌, ◌<◌, ◌≤◌, true, false, List, [], ◌∷◌, ◌++◌, length, slice_index, set, refl, sym, ap, subst, ◌∙◌, arith}
use mathlib.Core.Option.{some}
use lib.ListN.{get_elem?}
use Rattle.std.proofs.lemmas.List.{append-nil, set-get_or}
use Rattle.std.proofs.lemmas.List.Elements.{filter-append}
use Rattle.atomic_table.specs.declared.shared.Seat.{Seat}
use Rattle.atomic_table.specs.Table.{Allows, State as Table, keeps, stepped}
use Rattle.holders.specs.declared.fixed.Fixed.{Fixed}
use Rattle.store_core.specs.declared.history.Call.{Call}
use Rattle.store_core.specs.declared.history.Event.{Event}
use Rattle.store_core.specs.declared.view.Boundaries.{Boundaries}
use Rattle.store_core.specs.declared.view.SeatView.{SeatView}
use Rattle.store_core.specs.declared.view.StoredWord.{StoredWord}
use Rattle.store_core.specs.Events.{IsRightReply, after_call}
use Rattle.store_core.specs.Histories.{AreLegalFrom, IsLegal, events_of, is_by, run, state_after}
use Rattle.store_core.specs.Laws.{IsSound}
use Rattle.store_core.specs.Names.{Name}
use Rattle.store_core.specs.States.{State, claims, empty, is_claimed}
use Rattle.store_core.specs.Views.{mine, names_of, seat_claims, written_after}
use Rattle.store_core.proofs.Joining.{claims_continued, continued}
use Rattle.store_core.proofs.Tells.{claims-claimed}
use Rattle.store_core.proofs.Lasting.{legal-append, legal_is_sound, legal-join, run-append}
use Rattle.store_steps.specs.declared.words.Words.{Words}
use Rattle.store_steps.specs.Grips.{Gripped, first_of}
use Rattle.store_steps.specs.Kinds.{chunk_kind}
use Rattle.store_steps.specs.Layout.{cell_at, cell_place, length_place, parents_place, word_count}
use Rattle.store_steps.specs.Plays.{OfOne}
use Rattle.store_steps.specs.Rule.{AreParentsKept, AreStored, ViewFits, RuleHolds, StandFor}
use Rattle.store_steps.specs.Words.{IsGripOf}
use Rattle.store_core.specs.Knowledge.{Did, GoesOn, Looked, event_of}
use Rattle.store_steps.proofs.Calls.{claims_after-same, claims_then, least_among, own_all, shares_itself}
use Rattle.store_steps.proofs.Keeping.{its, kept_step, parents_kept}
use Rattle.store_steps.proofs.ParentsStanding.{LeavesParents, leaves_low, leaves_same}
use Rattle.store_steps.proofs.Lists.{AreBy}
use Rattle.store_steps.proofs.WrittenWords.{left}

pub record Steps (fixed : Fixed) (s : Table Unit (List SeatView)) (id i n : ℕ) (Told : SeatView → Type 0) : Type 0 where
  pub new : SeatView
  pub kept : RuleHolds fixed (stepped s i n id [] (new ∷ []) keeps)
  pub told : Told new

-- what is seen of a seat as a grip
abbrev pub grip_of : Seat (Unit {0}) (List SeatView) → Gripped
grip_of seat = record { table_id = seat.table_id; view = first_of seat.me.0 }

-- that is what the table asks of a step on these words by a grip's seat, at the code's place
pub step_asks : (words : Words) (seat : Seat (Unit {0}) (List SeatView)) {grip : Gripped} → grip_of seat ≡ grip → IsGripOf words grip → seat.me.0 ≡ first_of seat.me.0 ∷ []
    → {place i : ℕ} → i ≡ place → i < word_count words.fixed → (f : ℕ → ℕ) (Told : ℕ → SeatView → SeatView → Type 0)
    → ((s : Table Unit (List SeatView)) → RuleHolds words.fixed s → get_elem? s.views seat.id ≡ some (first_of seat.me.0 ∷ []) → slice_index s.words place < 2 ^ 64
    → Steps words.fixed s seat.id place (f (slice_index s.words place)) (λ new. Told (slice_index s.words place) (first_of seat.me.0) new))
    → (seat.table_id ≡ words.table.shared.table_id) × (i < words.table.shared.table_id.words)
    × Allows (RuleHolds words.table.shared.key) words.table.shared.table_id.slots seat.id seat.me i f (λ n later. OfOne (Told n) seat.me later)
step_asks words seat {grip} grip_is of one {place} {i} place_is within f Told steps = (
  ap (λ (g : Gripped). g.table_id) grip_is ∙ of.table_is,
  omega (arith, within, words.count),
  subst (λ (k : Fixed). Allows (RuleHolds k) words.table.shared.table_id.slots seat.id seat.me i f (λ n later. OfOne (Told n) seat.me later)) (sym words.key_is)
      (subst (λ (p : ℕ). Allows (RuleHolds words.fixed) words.table.shared.table_id.slots seat.id seat.me p f (λ n later. OfOne (Told n) seat.me later)) (sym place_is) (λ s kept homes at small.
      let t = steps s kept (at ∙ ap (λ (vs : List SeatView). some vs) one) small in (
        t.new ∷ [],
        keeps,
        tt,
        t.kept,
        λ view e.
            (t.new, refl, refl, subst (λ (v : SeatView). Told (slice_index s.words place) v t.new) (ap (λ (vs : List SeatView). first_of vs) e) t.told),
      ))),
)

-- events that a caller may have where the state stays: they are legal there and its own, and leave it
pub record AreIdle (fixed : Fixed) (s : State) (who : List Name) (own : List Event) : Type 0 where
  pub legal : AreLegalFrom fixed s own
  pub quiet : run s own ≡ s
  pub by : AreBy who own

module _ (fixed : Fixed) (s : Table Unit (List SeatView)) (k : RuleHolds fixed s) (id : ℕ) (view : SeatView) (seat : get_elem? s.views id ≡ some (view ∷ [])) where
  -- the state after the history, and how the view fits it
  abbrev pub now : State
  now = state_after k.history

  pub fitting : ViewFits fixed k.history s.words view
  fitting = k.views id 0 view (its fixed s k id view view seat refl)

  pub sound : IsSound fixed now
  sound = legal_is_sound fixed k.history k.legal

  -- what the seat has seen is legal
  pub seen_legal : IsLegal fixed view.seen
  seen_legal = (legal-append fixed empty view.seen fitting.continues.between (subst (λ (h : List Event). IsLegal fixed h) fitting.continues.is k.legal)).0

  -- what lasts, and the seat saw, is so now
  pub still : (P : State → Type 0) → ((more : List Event) → IsLegal fixed (view.seen ++ more) → P (state_after view.seen) → P (state_after (view.seen ++ more)))
      → P (state_after view.seen) → P now
  still P lasts seen =
      let on = fitting.continues in
      subst (λ (h : List Event). P (state_after h)) (sym on.is) (lasts on.between (subst (λ (h : List Event). IsLegal fixed h) on.is k.legal) seen)

  -- the view after events of its own, with all that happened before
  abbrev pub after_own : List Event → SeatView
  after_own own = record view { seen = k.history ++ own }

  -- what the seat knows of its claims is so
  pub claims_now : (c : ℕ) → claims (names_of view) now c ≡ seat_claims view c
  claims_now c = claims_continued fixed view k.history fitting.continues k.legal c

  -- it has a name
  pub some_names : 0 < length view.names
  some_names = k.names.named id 0 view (its fixed s k id view view seat refl)

  -- the same, where what it stored and is storing is this
  abbrev pub seen_then : List Event → List StoredWord → List Boundaries → List StoredWord → SeatView
  seen_then own written storing parent_words = record view { seen = k.history ++ own; written = written; storing = storing; parent_words = parent_words }

  pub goes_on : (own : List Event) (written : List StoredWord) (storing : List Boundaries) (parent_words : List StoredWord) → AreLegalFrom fixed now own → AreBy (names_of view) own
      → GoesOn view (seen_then own written storing parent_words) fitting.continues.between own
  goes_on own written storing parent_words legal by = record {
    fixed_is = refl;
    names_are = refl;
    seen_is = ap (λ (h : List Event). h ++ own) fitting.continues.is;
    others = fitting.continues.others;
    mine_is = filter-append (is_by (names_of view)) k.history own
        ∙ ap (λ (events : List Event). events ++ events_of (names_of view) own) (continued view k.history fitting.continues)
        ∙ ap (λ (events : List Event). mine view ++ events) (own_all (names_of view) own (shares_itself view.names some_names) by);
    legal = subst (λ (f : Fixed). IsLegal f (k.history ++ own)) (sym fitting.fixed_is) (legal-join fixed empty k.history own k.legal legal);
  }

  -- the words that count as stored are of chunks that it claims in this state, and stand in these words' cells
  abbrev pub CellsAreStored : List StoredWord → State → List ℕ → Type 0
  CellsAreStored written t later = AreStored chunk_kind fixed (λ c. claims (names_of view) t c) written later

  -- the cells of others' claims are left
  abbrev pub LeavesOthers : List ℕ → Type 0
  LeavesOthers later = (number : ℕ) → is_claimed now (number / 129) ≡ true → claims (names_of view) now (number / 129) ≡ false → cell_at fixed later number ≡ cell_at fixed s.words number

  -- cells of claimed chunks lie before the length word, so that what the seat stored stands there still where a word past them is written
  pub cells_past : (i n : ℕ) → length_place fixed ≤ i → (number : ℕ) → is_claimed now (number / 129) ≡ true → cell_at fixed (set s.words i n) number ≡ cell_at fixed s.words number
  cells_past i n high number claimed =
      let below = sound.claimed_below (number / 129) claimed in left s.words i n (cell_place fixed number) (λ e. omega (arith, e, below, high))

  pub stored_past : (i n : ℕ) → length_place fixed ≤ i → CellsAreStored view.written now (set s.words i n)
  stored_past i n high number value is =
      let w = fitting.written number value is in (w.0, cells_past i n high number (claims-claimed (names_of view) now (number / 129) w.0) ∙ w.1)

  -- A step with events of its own, which lead from all that happened to a state: the words stand for it.
  pub seen_step : (own : List Event) (t : State) → run now own ≡ t → AreLegalFrom fixed now own → AreBy (names_of view) own
      → (written : List StoredWord) (storing : List Boundaries) (parent_words : List StoredWord) (i n : ℕ) → StandFor fixed (set s.words i n) t
      → CellsAreStored written t (set s.words i n) → LeavesOthers (set s.words i n)
      → AreParentsKept fixed (set s.words i n) (set s.views id (seen_then own written storing parent_words ∷ [])) t.parents
      → RuleHolds fixed (stepped s i n id [] (seen_then own written storing parent_words ∷ []) keeps)
  seen_step own t leads legal by written storing parent_words i n words stand cells parents =
      let then : state_after (k.history ++ own) ≡ t = run-append empty k.history own ∙ leads in
      let new : SeatView = seen_then own written storing parent_words in
      kept_step fixed s k id view new seat refl own i n by (legal-join fixed empty k.history own k.legal legal)
      (subst (λ (u : State). StandFor fixed (set s.words i n) u) (sym then) words)
      (record {
        fixed_is = fitting.fixed_is;
        continues = record { between = []; is = sym (append-nil (k.history ++ own)); others = refl };
        written = λ number value is. let w = stand number value is in (ap (λ (u : State). claims (names_of view) u (number / 129)) then ∙ w.0, w.1);
      })
      cells
      (subst (λ (u : State). AreParentsKept fixed (set s.words i n) (set s.views id (new ∷ [])) u.parents) (sym then) parents)

  -- A call of the seat's, whose reply is right: the words stand for the state after it, the words that count as stored
  -- stand in cells of its claims, and the cells of others' claims are left.
  pub did_step : (call : Call) (i n : ℕ) → i < parents_place fixed → (after_call (names_of view) call now).parents ≡ now.parents → IsRightReply fixed now (names_of view) call
      → StandFor fixed (set s.words i n) (after_call (names_of view) call now)
      → CellsAreStored (written_after call view.written) (after_call (names_of view) call now) (set s.words i n) → LeavesOthers (set s.words i n)
      → Steps fixed s id i n (λ new. Did call view new)
  did_step call i n low same right words written cells =
      let own : List Event = event_of view call ∷ [] in
      let then : state_after (k.history ++ own) ≡ after_call (names_of view) call now = run-append empty k.history own in
      let new : SeatView = seen_then own (written_after call view.written) view.storing view.parent_words in
      record {
        new = new;
        kept = seen_step own (after_call (names_of view) call now) refl (right, tt) (refl, tt) (written_after call view.written) view.storing view.parent_words i n words written cells
            (parents_kept fixed s k id view new seat refl (set s.words i n) (leaves_low fixed s.words i n low) (after_call (names_of view) call now).parents same refl refl);
        told = record {
          between = fitting.continues.between;
          goes_on = goes_on own (written_after call view.written) view.storing view.parent_words (right, tt) (refl, tt);
          claims_are = λ c.
              ap (λ (t : State). claims (names_of view) t c) then ∙ claims_then (names_of view) call now c (least_among view.names some_names)
              ∙ claims_after-same call (λ d. claims (names_of view) now d) (seat_claims view) c (claims_now c);
          written_are = refl;
          storing_is = refl;
        };
      }

  -- A step with no event: the seat sees nothing new, and what it stored and is storing changes at most.
  pub quiet_step : (written : List StoredWord) (storing : List Boundaries) (parent_words : List StoredWord) (i n : ℕ) → StandFor fixed (set s.words i n) now
      → CellsAreStored written now (set s.words i n) → LeavesOthers (set s.words i n)
      → AreParentsKept fixed (set s.words i n) (set s.views id (record view { written = written; storing = storing; parent_words = parent_words } ∷ [])) now.parents
      → RuleHolds fixed (stepped s i n id [] (record view { written = written; storing = storing; parent_words = parent_words } ∷ []) keeps)
  quiet_step written storing parent_words i n words stand cells parents =
      let whole : k.history ++ [] ≡ k.history = append-nil k.history in
      let new : SeatView = record view { written = written; storing = storing; parent_words = parent_words } in
      kept_step fixed s k id view new seat refl [] i n tt (subst (λ (h : List Event). IsLegal fixed h) (sym whole) k.legal)
      (subst (λ (h : List Event). StandFor fixed (set s.words i n) (state_after h)) (sym whole) words)
      (subst (λ (h : List Event). ViewFits fixed h (set s.words i n) new) (sym whole) (record {
        fixed_is = fitting.fixed_is;
        continues = record { between = fitting.continues.between; is = fitting.continues.is; others = fitting.continues.others };
        written = stand;
      }))
      cells
      (subst (λ (h : List Event). AreParentsKept fixed (set s.words i n) (set s.views id (new ∷ [])) (state_after h).parents) (sym whole) parents)

  pub silent_step : (written : List StoredWord) (i n : ℕ) → LeavesParents fixed s.words (set s.words i n) → StandFor fixed (set s.words i n) now
      → CellsAreStored written now (set s.words i n) → LeavesOthers (set s.words i n) → RuleHolds fixed (stepped s i n id [] (record view { written = written } ∷ []) keeps)
  silent_step written i n leaves words stand cells = quiet_step written view.storing view.parent_words i n words stand cells
      (parents_kept fixed s k id view (record view { written = written }) seat refl (set s.words i n) leaves now.parents refl refl refl)

  -- a load that changes nothing
  pub still_step : (i : ℕ) → RuleHolds fixed (stepped s i (slice_index s.words i) id [] (view ∷ []) keeps)
  still_step i =
      let same : set s.words i (slice_index s.words i) ≡ s.words = set-get_or s.words i 0 in
      silent_step view.written i (slice_index s.words i) (leaves_same fixed s.words i) (subst (λ (words : List ℕ). StandFor fixed words now) (sym same) k.words)
      (λ other value is. let w = fitting.written other value is in (w.0, ap (λ (words : List ℕ). cell_at fixed words other) same ∙ w.1))
      (λ other c theirs. ap (λ (words : List ℕ). cell_at fixed words other) same)

  -- A load: its word is left. The seat sees all that happened, and has the events that the state gives: they leave it.
  pub look_step : (events : State → List Event) (i : ℕ) (Told : SeatView → Type 0) → AreIdle fixed now (names_of view) (events now)
      → ((new : SeatView) → Looked events view new → state_after new.seen ≡ now → Told new) → Steps fixed s id i (slice_index s.words i) Told
  look_step events i Told idle tells =
      let own : List Event = events now in
      let then : state_after (k.history ++ own) ≡ now = run-append empty k.history own ∙ idle.quiet in
      let same : set s.words i (slice_index s.words i) ≡ s.words = set-get_or s.words i 0 in
      let state : now ≡ state_after (view.seen ++ fitting.continues.between) = ap (λ (h : List Event). state_after h) fitting.continues.is in
      record {
        new = after_own own;
        kept = seen_step own now idle.quiet idle.legal idle.by view.written view.storing view.parent_words i (slice_index s.words i)
            (subst (λ (words : List ℕ). StandFor fixed words now) (sym same) k.words)
            (λ number value is. let w = fitting.written number value is in (w.0, ap (λ (words : List ℕ). cell_at fixed words number) same ∙ w.1))
            (λ number c others. ap (λ (words : List ℕ). cell_at fixed words number) same)
            (parents_kept fixed s k id view (after_own own) seat refl (set s.words i (slice_index s.words i)) (leaves_same fixed s.words i) now.parents refl refl refl);
        told = tells (after_own own) (record {
          between = fitting.continues.between;
          goes_on = subst (λ (t : State). GoesOn view (after_own own) fitting.continues.between (events t)) state (goes_on own view.written view.storing view.parent_words idle.legal idle.by);
          claims_are = λ c. ap (λ (t : State). claims (names_of view) t c) then ∙ claims_now c;
          written_are = refl;
          storing_is = refl;
        }) then;
      }

-- what a view claims lies below the capacity
pub claimed_low : (view : SeatView) → IsLegal view.fixed view.seen → (c : ℕ) → seat_claims view c ≡ true → c < view.fixed.capacity
claimed_low view legal c ours =
    (legal_is_sound view.fixed view.seen legal).claimed_below c (claims-claimed (names_of view) (state_after view.seen) c ours)
