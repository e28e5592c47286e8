-- A lone seat and a one-thread store that stands for the same, asked the same.
use Rattle.std.proofs.Common.{◌≡◌, ◌≢◌, ◌↔◌, ◌⊎◌, inl, inr, ℕ, ◌<◌, ◌≤◌, List, [], ◌∷◌, map, length, Option, None, Some, option_map, Result, IfOk, IfErr, IsOk, OnErr, Ok, Err, true, false, refl, sym, ap, subst, ◌∙◌, arith, append-nil, eq-eqb}
use Rattle.std.proofs.lemmas.Bool.{cases_Bool, cases_lt, or_left}
use Rattle.bao_check.proofs.Lists.{Contains-cons_cases}
use Rattle.bao_check.specs.declared.checked.Checked.{Checked}
use Rattle.holders.specs.declared.fixed.Fixed.{Fixed}
use Rattle.store_core.specs.declared.history.Call.{Call}
use Rattle.store_core.specs.declared.history.Call.TheVariants.{Take, Give, Commit, Settle, Read, Length, Parents, Serve}
use Rattle.store_core.specs.declared.history.Event.{Event}
use Rattle.store_core.specs.declared.history.Settling.{Settling}
use Rattle.store_core.specs.declared.history.Settling.TheVariants as settling
use Rattle.store_core.specs.declared.history.Serving.TheVariants as serving
use Rattle.store_core.specs.declared.fault.Missing.{Missing}
use Rattle.store_core.specs.declared.fault.ServeFault.{ServeFault}
use Rattle.store_core.specs.declared.fault.ServeFault.TheVariants as unserved
use Rattle.store_core.specs.declared.fault.StoreFault.{StoreFault}
use Rattle.store_core.specs.declared.fault.StoreFault.TheVariants as unstored
use Rattle.store_core.specs.declared.store.Store.{Store}
use Rattle.store_core.specs.declared.view.Named.{Named}
use Rattle.store_core.specs.declared.view.SeatView.{SeatView}
use Rattle.store_core.specs.Events.{IsRightReply, after_call}
use Rattle.store_core.specs.Histories.{state_after}
use Rattle.store_core.specs.Knowledge.{Called, LooksRound, event_of}
use Rattle.store_core.specs.Laws.{is_partial, question}
use Rattle.holders.specs.Room.{groups}
use Rattle.store_core.specs.Masks.{in_mask}
use Rattle.store_core.specs.Names.{Name, has_name, least_name, same_name}
use Rattle.holders.specs.Pieces.{piece_of}
use Rattle.store_core.specs.Slots.{caller}
use Rattle.store_core.specs.States.{State, empty}
use Rattle.store_core.specs.Stores.{DidRead, DidServe, IsEvent, IsOf, IsSame, IsUnserved, Settles, fixed_of, missing_in, state_of}
use Rattle.store_core.specs.Views.{names_of}
use Rattle.store_core.proofs.Determined.{state_determines}
use Rattle.store_core.proofs.Lasting.{run-append}
use Rattle.store_core.proofs.Tells.{same_name-refl}
use Rattle.store_shared.specs.Grips.{Gripped}
use Rattle.store_shared.specs.Reading.{SeatDidRead}
use Rattle.store_shared.specs.Serving.{SeatIsRefused}
use Rattle.store_core.specs.Knowledge.{opening_view}
use Rattle.store_core.specs.Stores.{IsNew}
use Rattle.store_shared.specs.declared.fault.NoGroup.{NoGroup}
use Rattle.store_shared.specs.declared.fault.OtherRoot.{OtherRoot}
use Rattle.store_shared.specs.Calls.{SeatSettles}
use Rattle.store_shared.specs.Partner.{IsSeat}
use Rattle.store_shared.proofs.Mirroring.{after_mirrored, right_mirrored}
use Rattle.determined_stores.specs.Alone.{AnswerAlike, StandsAlike, renamed}
use Rattle.determined_stores.proofs.Lone.{Calls, Goes, called_alone, looked_alone}
use Rattle.determined_texts.specs.Agreeing.{AgreeButFor}
use Rattle.determined_stores.proofs.Agreeing.{SettledBy, store_met}
use Rattle.determined_stores.proofs.Pairs.{met, stayed}
use Rattle.determined_stores.proofs.Replies.{Met, met_same, reads_same, slices_same}

least_of : (names : List Name) (number : ℕ) → has_name names [] ≡ true → option_map (λ (name : Name). number) (least_name names) ≡ Some number
least_of [] number has = cc
least_of (name ∷ names) number has = refl

has_least : (names : List Name) (name : Name) → least_name names ≡ Some name → has_name names name ≡ true
has_least [] name is = cc
has_least (first ∷ names) name is =
    let same : first ≡ name = cc in or_left _ _ (subst (λ (n : Name). same_name name n ≡ true) (sym same) (same_name-refl name))

-- the seat is the store's seat with the number, which each name stands for
as_seat : (store : Store) (number : ℕ) (view : SeatView) → StandsAlike store number view → IsSeat (λ c name. number) (state_after view.seen) (names_of view) number
as_seat store number view alike = record {
  least = λ c. least_of (names_of view) number alike.alone.all.first;
  own = λ c name is. alike.claimed c name is ∙ sym (eq-eqb number number refl);
}

-- who claims after a call of the seat's
claimed_after : (who : List Name) (s : State) (call : Call) → ((c : ℕ) (name : Name) → s.claim c ≡ Some name → has_name who name ≡ true) → (c : ℕ) (name : Name)
    → (after_call who call s).claim c ≡ Some name → has_name who name ≡ true
claimed_after who s (Take g w r) own c name is = elim (cases_Bool (in_mask g r c)) [
  | inl hit ↦ has_least who name (rw hit at is)
  | inr miss ↦ own c name (rw miss at is)
]
claimed_after who s (Give g m r) own c name is = elim (cases_Bool (in_mask g r c)) [
  | inl hit ↦ let no : None ≡ Some name = rw hit at is in cc
  | inr miss ↦ own c name (rw miss at is)
]
claimed_after who s (Commit g p r) own c name is = elim (cases_Bool (in_mask g r c)) [
  | inl hit ↦ let no : None ≡ Some name = rw hit at is in cc
  | inr miss ↦ own c name (rw miss at is)
]
claimed_after who s (Settle p a) own c name is = own c name is
claimed_after who s (Read at len bytes) own c name is = own c name is
claimed_after who s (Length recorded) own c name is = own c name is
claimed_after who s (Parents g p a) own c name is = own c name is
claimed_after who s (Serve start len a) own c name is = own c name is

state_then : (view later : SeatView) (call : Call) → Goes view later (event_of view call ∷ []) → state_after later.seen ≡ after_call (names_of view) call (state_after view.seen)
state_then view later call goes = ap (λ (h : List Event). state_after h) goes.seen_is ∙ run-append empty view.seen (event_of view call ∷ [])

-- the store had the seat's event
pub stands_after : (store next : Store) (number : ℕ) (view later : SeatView) (call : Call) → StandsAlike store number view → Goes view later (event_of view call ∷ [])
    → fixed_of next ≡ fixed_of store → state_of next ≡ after_call (caller number) call (state_of store) → StandsAlike next number later
stands_after store next number view later call alike goes fixed_is after =
    let names : names_of later ≡ names_of view = ap (λ (ns : List Named). map (λ (named : Named). named.name) ns) goes.names_are in
    let after_it : state_after later.seen ≡ after_call (names_of view) call (state_after view.seen) = state_then view later call goes in
    record {
      alone = goes.alone;
      claimed = λ c name is.
          subst (λ (ns : List Name). has_name ns name ≡ true) (sym names)
          (claimed_after (names_of view) (state_after view.seen) call alike.claimed c name (ap (λ (s : State). s.claim c) (sym after_it) ∙ is));
      fixed_is = fixed_is ∙ alike.fixed_is ∙ sym goes.fixed_is;
      state_is = after ∙ ap (λ (s : State). after_call (caller number) call s) alike.state_is
          ∙ after_mirrored (λ c name. number) (state_after view.seen) (names_of view) number (as_seat store number view alike) call
          ∙ ap (λ (s : State). renamed number s) (sym after_it);
    }

-- neither the seat nor the store had one
pub stands_on : (store next : Store) (number : ℕ) (view later : SeatView) → StandsAlike store number view → Goes view later [] → IsSame store next → StandsAlike next number later
stands_on store next number view later alike goes same =
    let names : names_of later ≡ names_of view = ap (λ (ns : List Named). map (λ (named : Named). named.name) ns) goes.names_are in
    let seen : later.seen ≡ view.seen = goes.seen_is ∙ append-nil view.seen in
    record {
      alone = goes.alone;
      claimed = λ c name is.
          subst (λ (ns : List Name). has_name ns name ≡ true) (sym names) (alike.claimed c name (ap (λ (h : List Event). (state_after h).claim c) (sym seen) ∙ is));
      fixed_is = same.fixed ∙ alike.fixed_is ∙ sym goes.fixed_is;
      state_is = same.state ∙ alike.state_is ∙ ap (λ (h : List Event). renamed number (state_after h)) (sym seen);
    }

-- both had one, of the same question: the replies are the same
pub both_had : (store next : Store) (number : ℕ) (view new later : SeatView) (call also : Call) → StandsAlike store number view → Called call view new → LooksRound new later
    → IsEvent store next (caller number) also → is_partial call ≡ false → question call ≡ question also → (call ≡ also) × StandsAlike next number later
both_had store next number view new later call also alike did looked had whole asked =
    let ours : Calls view later call = called_alone view new later call alike.alone did looked in
    let s : State = renamed number (state_after view.seen) in
    let here : IsRightReply view.fixed s (caller number) call =
    right_mirrored view.fixed (λ c name. number) (state_after view.seen) (names_of view) number (as_seat store number view alike) call ours.right in
    let there : IsRightReply view.fixed s (caller number) also =
    subst (λ (f : Fixed). IsRightReply f s (caller number) also) alike.fixed_is
    (subst (λ (t : State). IsRightReply (fixed_of store) t (caller number) also) alike.state_is had.right) in
    let same : call ≡ also = state_determines view.fixed s (caller number) call also here there whole asked in (
      same,
      stands_after store next number view later call alike ours.goes had.fixed (had.after ∙ ap (λ (k : Call). after_call (caller number) k (state_of store)) (sym same)),
    )

pub gives_as_store : (store next : Store) (number : ℕ) (view new later : SeatView) (group mask m n : ℕ) → StandsAlike store number view → Called (Give group mask m) view new
    → LooksRound new later → IsEvent store next (caller number) (Give group mask n) → (m ≡ n) × StandsAlike next number later
gives_as_store store next number view new later group mask m n alike did looked had =
    let b = both_had store next number view new later (Give group mask m) (Give group mask n) alike did looked had refl refl in (cc, b.1)

pub lengths_as_store : (store : Store) (number : ℕ) (view new later : SeatView) (o p : Option ℕ) → StandsAlike store number view → Called (Length o) view new
    → LooksRound new later → ((who : List Name) → IsEvent store store who (Length p)) → (o ≡ p) × StandsAlike store number later
lengths_as_store store number view new later o p alike did looked had =
    let b = both_had store store number view new later (Length o) (Length p) alike did looked (had (caller number)) refl refl in (cc, b.1)

-- calls that answer a mask, and that the store refuses for one reason alone
module _ {E : Type 0} (P : Type 0) (fault : StoreFault) (call : ℕ → Call) (whole : (m : ℕ) → is_partial (call m) ≡ false)
    (asked : (m n : ℕ) → question (call m) ≡ question (call n)) (fixes : (m n : ℕ) → call m ≡ call n → m ≡ n)
    (store next : Store) (number : ℕ) (seat new : Gripped) (later : SeatView) (alike : StandsAlike store number seat.view) where
  masks_as_store : (r : Result ℕ E) (s : Result ℕ StoreFault) → (IsOk r ↔ P) → (s ≡ Err fault ↔ (¬ P))
      → ((f : StoreFault) → s ≡ Err f → (f ≡ unstored.Memory) ⊎ (f ≡ fault))
      → IfOk r (λ m. Called (call m) seat.view new.view) → OnErr r (new ≡ seat) → LooksRound new.view later
      → IfOk s (λ m. IsEvent store next (caller number) (call m)) → OnErr s (IsSame store next)
      → AnswerAlike unstored.Memory (λ _. fault) r s (StandsAlike next number later)
  masks_as_store (Ok m) (Ok n) p q only did kept looked had same =
      let b = both_had store next number seat.view new.view later (call m) (call n) alike did looked had (whole m) (asked m n) in (fixes m n b.0, b.1)
  masks_as_store (Ok m) (Err f) p q only did kept looked had same = elim (only f refl) [
    | inl memory ↦ memory
    | inr is ↦ absurd (q.0 (ap (λ (g : StoreFault). Err g) is) (p.0 refl))
  ]
  masks_as_store (Err e) (Ok n) p q only did kept looked had same =
      let refused : Ok n ≡ Err fault = q.1 (λ yes. let no : false ≡ true = p.1 yes in cc) in cc
  masks_as_store (Err e) (Err f) p q only did kept looked had same =
      let refused : Err f ≡ Err fault = q.1 (λ yes. let no : false ≡ true = p.1 yes in cc) in
      let is : f ≡ fault = cc in
      (is, stands_on store next number seat.view later alike (looked_alone seat.view later alike.alone (stayed seat new later kept looked)) same)

-- which faults the store has
take_only : (s : Result ℕ StoreFault) → s ≢ Err unstored.OtherRoot → s ≢ Err unstored.OtherLength → (f : StoreFault) → s ≡ Err f
    → (f ≡ unstored.Memory) ⊎ (f ≡ unstored.NoGroup)
take_only s root other unstored.Memory is = inl refl
take_only s root other unstored.NoGroup is = inr refl
take_only s root other unstored.OtherRoot is = absurd (root is)
take_only s root other unstored.OtherLength is = absurd (other is)

commit_only : (s : Result ℕ StoreFault) → s ≢ Err unstored.NoGroup → s ≢ Err unstored.OtherLength → (f : StoreFault) → s ≡ Err f
    → (f ≡ unstored.Memory) ⊎ (f ≡ unstored.OtherRoot)
commit_only s group other unstored.Memory is = inl refl
commit_only s group other unstored.NoGroup is = absurd (group is)
commit_only s group other unstored.OtherRoot is = inr refl
commit_only s group other unstored.OtherLength is = absurd (other is)

-- the store has the root, mode, capacity and first chunk that the shared one has
pub store_fixed : (store : Store) (number : ℕ) (view : SeatView) (fixed : Fixed) → StandsAlike store number view → view.fixed ≡ fixed → fixed_of store ≡ fixed
store_fixed store number view fixed alike is = alike.fixed_is ∙ is

pub takes_as_store : (fixed : Fixed) (store next : Store) (number : ℕ) (seat new : Gripped) (later : SeatView) (group want : ℕ) (r : Result ℕ NoGroup) (s : Result ℕ StoreFault)
    → StandsAlike store number seat.view → seat.view.fixed ≡ fixed → (IsOk r ↔ (group < groups fixed)) → (s ≡ Err unstored.NoGroup ↔ (groups (fixed_of store) ≤ group))
    → s ≢ Err unstored.OtherRoot → s ≢ Err unstored.OtherLength → IfOk r (λ m. Called (Take group want m) seat.view new.view) → OnErr r (new ≡ seat)
    → LooksRound new.view later → IfOk s (λ m. IsEvent store next (caller number) (Take group want m)) → OnErr s (IsSame store next)
    → AnswerAlike unstored.Memory (λ _. unstored.NoGroup) r s (StandsAlike next number later)
takes_as_store fixed store next number seat new later group want r s alike is p q root other did kept looked had same =
    let same_groups : groups (fixed_of store) ≡ groups fixed = ap groups (store_fixed store number seat.view fixed alike is) in
    masks_as_store (group < groups fixed) unstored.NoGroup (λ m. Take group want m) (λ m. refl) (λ m n. refl) (λ m n e. cc) store next number seat new later alike r s p (
      (λ refused within. let past : groups (fixed_of store) ≤ group = q.0 refused in absurd (omega (arith, past, within, same_groups))),
      λ absent. q.1 (elim (cases_lt group (groups fixed)) [
        | inl within ↦ absurd (absent within)
        | inr past ↦ omega (arith, past, same_groups)
      ]),
    ) (take_only s root other) did kept looked had same

pub commits_as_store : (fixed : Fixed) (store next : Store) (number : ℕ) (seat new : Gripped) (later : SeatView) (group : ℕ) (piece : Checked) (r : Result ℕ OtherRoot)
    (s : Result ℕ StoreFault) → StandsAlike store number seat.view → seat.view.fixed ≡ fixed → (IsOk r ↔ IsOf fixed piece)
    → (s ≡ Err unstored.OtherRoot ↔ (¬ IsOf (fixed_of store) piece)) → s ≢ Err unstored.NoGroup → s ≢ Err unstored.OtherLength
    → IfOk r (λ m. Called (Commit group (piece_of fixed.base piece) m) seat.view new.view) → OnErr r (new ≡ seat) → LooksRound new.view later
    → IfOk s (λ m. IsEvent store next (caller number) (Commit group (piece_of (fixed_of store).base piece) m)) → OnErr s (IsSame store next)
    → AnswerAlike unstored.Memory (λ _. unstored.OtherRoot) r s (StandsAlike next number later)
commits_as_store fixed store next number seat new later group piece r s alike is p q absent other did kept looked had same =
    let same_fixed : fixed_of store ≡ fixed = store_fixed store number seat.view fixed alike is in
    masks_as_store (IsOf fixed piece) unstored.OtherRoot (λ m. Commit group (piece_of fixed.base piece) m) (λ m. refl) (λ m n. refl) (λ m n e. cc) store next number seat new later
    alike r s p (subst (λ (f : Fixed). s ≡ Err unstored.OtherRoot ↔ (¬ IsOf f piece)) same_fixed q) (commit_only s absent other) did kept looked
    (subst (λ (f : Fixed). IfOk s (λ m. IsEvent store next (caller number) (Commit group (piece_of f.base piece) m))) same_fixed had) same

pub reads_as_store : (store : Store) (number : ℕ) (view new later : SeatView) (at : ℕ) (old was after last : List ℕ) (r s : Result Unit Missing) → StandsAlike store number view
    → old ≡ was → SeatDidRead view new at old after (missing_in r) → LooksRound new later → DidRead store at was last (missing_in s)
    → (r ≡ s) × (after ≡ last) × StandsAlike store number later
reads_as_store store number view new later at old was after last r s alike e did looked too =
    let asked : IsEvent store store (caller number) (Read at (length old) too.bytes) =
    subst (λ (n : ℕ). IsEvent store store (caller number) (Read at n too.bytes)) (sym (ap length e)) (too.event (caller number)) in
    let b = both_had store store number view new later (Read at (length old) did.bytes) (Read at (length old) too.bytes) alike did.called looked asked refl refl in
    let bytes : did.bytes ≡ too.bytes = cc in
    let same = reads_same at old was after last did.bytes too.bytes r s e bytes did.filled too.filled did.answer too.answer in (same.0, same.1, b.1)

pub settles_as_store : (fixed : Fixed) (store next : Store) (number : ℕ) (seat new : Gripped) (later : SeatView) (piece : Checked) → StandsAlike store number seat.view → fixed_of store ≡ fixed
    → LooksRound new.view later → (r s : Settling) → SeatSettles fixed seat new piece r → (s ≡ settling.OtherRoot ↔ (¬ IsOf (fixed_of store) piece)) → Settles store next piece s
    → (r ≡ s) × StandsAlike next number later
settles_as_store fixed store next number seat new later piece alike same looked r s did root too =
    let call : Settling → Call = λ x. Settle (piece_of fixed.base piece) x in
    met_same fixed piece (new ≡ seat) (Called (call r) seat.view new.view) (IsSame store next) (SettledBy fixed store next piece s) (StandsAlike next number later) r s
    (λ kept stays. stands_on store next number seat.view later alike (looked_alone seat.view later alike.alone (stayed seat new later kept looked)) stays)
    (λ had has. let b = both_had store next number seat.view new.view later (call r) (call s) alike had looked (has (caller number)) refl refl in (cc, b.1))
    (met fixed seat new piece r did)
    (subst (λ (f : Fixed). Met f piece (IsSame store next) (SettledBy f store next piece s) s) same (store_met store next piece s root too))

pub slices_as_store : {V : Type 0} (items : V → List ℕ) (store : Store) (number : ℕ) (view new later : SeatView) (start len : ℕ) → StandsAlike store number view → LooksRound new later
    → (r s : Result V ServeFault) → IfOk r (λ x. Called (Serve start len (serving.Text (items x))) view new) → IfErr r (λ e. SeatIsRefused start len e view new)
    → IfOk s (λ y. DidServe store start len (serving.Text (items y))) → IfErr s (λ f. IsUnserved store start len f)
    → AgreeButFor unserved.Memory (λ x y. items x ≡ items y) r s × (r ≢ Err unserved.Memory → s ≢ Err unserved.Memory → StandsAlike store number later)
slices_as_store items store number view new later start len alike looked =
    slices_same items (λ x. Called (Serve start len x) view new) (λ y. DidServe store start len y) (λ e. SeatIsRefused start len e view new) (λ f. IsUnserved store start len f)
    (StandsAlike store number later)
    (λ x y did had. let b = both_had store store number view new later (Serve start len x) (Serve start len y) alike did looked (had (caller number)) refl refl in (cc, b.1))
    (λ p. p) (λ n p. p) (λ p. p) (λ n p. p)

-- so both begin
pub new_alike : (fixed : Fixed) (view : SeatView) (store : Store) (number : ℕ) → view ≡ opening_view fixed → IsNew store fixed
    → StandsAlike store number view
new_alike fixed view store number is new = subst (λ (v : SeatView). StandsAlike store number v) (sym is) (record {
  alone = record {
    all = record {
      first = refl;
      split = λ named n among below. elim (Contains-cons_cases [] (record { name = []; splits = 0 }) named among) [
        | inl same ↦ let none : n < 0 = subst (λ (x : Named). n < x.splits) same below in absurd (omega (arith, none))
        | inr never ↦ absurd (omega (arith, never.1))
      ];
    };
    own = refl;
  };
  claimed = λ c name claimed. let no : None ≡ Some name = claimed in cc;
  fixed_is = new.fixed_is;
  state_is = new.state;
})

pub both_new : {A E F : Type 0} (view : A → SeatView) (of : A → Fixed) (fixed : Fixed) (r : Result A E) (s : Result Store F) → IfOk r (λ made. of made ≡ fixed)
    → IfOk r (λ made. view made ≡ opening_view (of made)) → IfOk s (λ store. IsNew store fixed)
    → IfOk r (λ made. IfOk s (λ store. (number : ℕ) → StandsAlike store number (view made)))
both_new view of fixed (Ok made) (Ok store) is first new = λ number. new_alike fixed (view made) store number (first ∙ ap (λ (f : Fixed). opening_view f) is) new
both_new view of fixed (Ok made) (Err f) is first new = tt
both_new view of fixed (Err e) s is first new = tt
