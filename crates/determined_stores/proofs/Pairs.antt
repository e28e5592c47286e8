-- Two lone seats that have seen the same, asked the same.
use Rattle.std.proofs.Common.{◌≡◌, ◌≢◌, ◌↔◌, ℕ, ◌<◌, List, [], ◌∷◌, ◌++◌, map, length, Option, None, Some, is_some, Result, IfOk, IfErr, IsOk, OnErr, Ok, Err, true, false, refl, sym, ap, subst, ◌∙◌}
use Rattle.holders.specs.declared.fixed.Fixed.{Fixed}
use Rattle.store_core.specs.declared.history.Call.{Call}
use Rattle.store_core.specs.declared.history.Call.TheVariants.{Take, Give, Commit, Settle, Read, Length, Serve}
use Rattle.store_core.specs.declared.history.Event.{Event}
use Rattle.holders.specs.declared.piece.Piece.{Piece}
use Rattle.store_core.specs.declared.history.Settling.{Settling}
use Rattle.store_core.specs.declared.history.Settling.TheVariants as settling
use Rattle.store_core.specs.declared.history.Serving.TheVariants as serving
use Rattle.store_core.specs.declared.fault.ServeFault.{ServeFault}
use Rattle.store_core.specs.declared.fault.ServeFault.TheVariants as unserved
use Rattle.store_core.specs.declared.fault.Missing.{Missing}
use Rattle.store_core.specs.declared.view.Named.{Named}
use Rattle.store_core.specs.declared.view.SeatView.{SeatView}
use Rattle.bao_check.specs.declared.checked.Checked.{Checked}
use Rattle.store_core.specs.Events.{IsRightReply}
use Rattle.store_core.specs.Histories.{events_of, state_after}
use Rattle.store_core.specs.Knowledge.{AreAllNames, Called, EndsStoring, LooksRound, event_of}
use Rattle.store_core.specs.Laws.{is_partial, question}
use Rattle.holders.specs.Room.{groups}
use Rattle.store_core.specs.Names.{Name}
use Rattle.store_core.specs.Views.{names_of}
use Rattle.store_core.proofs.Determined.{state_determines}
use Rattle.store_shared.specs.Reading.{SeatDidRead}
use Rattle.holders.specs.Pieces.{piece_of}
use Rattle.store_core.specs.Stores.{IsOf, missing_in}
use Rattle.store_shared.specs.Grips.{Gripped}
use Rattle.store_shared.specs.Serving.{SeatIsRefused}
use Rattle.store_shared.specs.declared.fault.NoGroup.{NoGroup}
use Rattle.store_shared.specs.declared.fault.OtherRoot.{OtherRoot}
use Rattle.store_shared.specs.Calls.{SeatSettles}
use Rattle.determined_stores.specs.Alone.{AreAlike, IsLone}
use Rattle.determined_texts.specs.Agreeing.{AgreeButFor}
use Rattle.determined_stores.proofs.Lone.{Calls, Goes, called_alone, came_alone, looked_alone}
use Rattle.determined_stores.proofs.Replies.{Met, is_event, met_same, not_of, reads_same, slices_same, too_large}

pub names_alike : (one other : SeatView) → AreAlike one other → names_of other ≡ names_of one
names_alike one other alike = ap (λ (ns : List Named). map (λ named. named.name) ns) alike.names_are

pub other_alone : (one other : SeatView) → AreAlike one other → IsLone other
other_alone one other alike = record {
  all = subst (λ (ns : List Named). AreAllNames ns) (sym alike.names_are) alike.alone.all;
  own = ap (λ (ns : List Name). events_of ns other.seen) (names_alike one other alike) ∙ ap (λ (xs : List Event). events_of (names_of one) xs) alike.seen_are ∙ alike.alone.own
      ∙ sym alike.seen_are;
}

pub alike_after : (one one' other other' : SeatView) (events also : List Event) → AreAlike one other → Goes one one' events → Goes other other' also → events ≡ also → AreAlike one' other'
alike_after one one' other other' events also alike ours theirs same = record {
  alone = ours.alone;
  fixed_are = theirs.fixed_is ∙ alike.fixed_are ∙ sym ours.fixed_is;
  names_are = theirs.names_are ∙ alike.names_are ∙ sym ours.names_are;
  seen_are = theirs.seen_is ∙ ap (λ (xs : List Event). xs ++ also) alike.seen_are ∙ ap (λ (xs : List Event). one.seen ++ xs) (sym same) ∙ sym ours.seen_is;
}

-- a right reply of the one is right for the other
right_there : (one other : SeatView) (call : Call) → AreAlike one other → IsRightReply other.fixed (state_after other.seen) (names_of other) call
    → IsRightReply one.fixed (state_after one.seen) (names_of one) call
right_there one other call alike right =
    subst (λ (ns : List Name). IsRightReply one.fixed (state_after one.seen) ns call) (names_alike one other alike)
    (subst (λ (xs : List Event). IsRightReply one.fixed (state_after xs) (names_of other) call) alike.seen_are
    (subst (λ (f : Fixed). IsRightReply f (state_after other.seen) (names_of other) call) alike.fixed_are right))

event_alike : (one other : SeatView) (call : Call) → AreAlike one other → event_of other call ≡ event_of one call
event_alike one other call alike = ap (λ (ns : List Name). record { who = ns; call = call }) (names_alike one other alike)

-- both make one call
pub same_after : (one new one' other next other' : SeatView) (call also : Call) → AreAlike one other → Called call one new → LooksRound new one' → Called also other next
    → LooksRound next other' → call ≡ also → AreAlike one' other'
same_after one new one' other next other' call also alike did looked too round same =
    let ours : Calls one one' call = called_alone one new one' call alike.alone did looked in
    let theirs : Calls other other' also = called_alone other next other' also (other_alone one other alike) too round in
    alike_after one one' other other' (event_of one call ∷ []) (event_of other also ∷ []) alike ours.goes theirs.goes
    (ap (λ (k : Call). event_of one k ∷ []) same ∙ ap (λ (e : Event). e ∷ []) (sym (event_alike one other also alike)))

pub both : (one new one' other next other' : SeatView) (call also : Call) → AreAlike one other → Called call one new → LooksRound new one' → Called also other next
    → LooksRound next other' → is_partial call ≡ false → question call ≡ question also → (call ≡ also) × AreAlike one' other'
both one new one' other next other' call also alike did looked too round whole asked =
    let ours : Calls one one' call = called_alone one new one' call alike.alone did looked in
    let theirs : Calls other other' also = called_alone other next other' also (other_alone one other alike) too round in
    let reply : call ≡ also = state_determines one.fixed (state_after one.seen) (names_of one) call also ours.right (right_there one other also alike theirs.right) whole asked in (
      reply,
      same_after one new one' other next other' call also alike did looked too round reply,
    )

-- neither calls
pub neither : (one one' other other' : SeatView) → AreAlike one other → LooksRound one one' → LooksRound other other' → AreAlike one' other'
neither one one' other other' alike looked round =
    alike_after one one' other other' [] [] alike (looked_alone one one' alike.alone looked) (looked_alone other other' (other_alone one other alike) round) refl

one_no_group : (e f : NoGroup) → e ≡ f
one_no_group e f = refl

one_other_root : (e f : OtherRoot) → e ≡ f
one_other_root e f = refl

-- a seat that stays as it is and looks round
pub stayed : (old new : Gripped) (later : SeatView) → new ≡ old → LooksRound new.view later → LooksRound old.view later
stayed old new later same looked = subst (λ (g : Gripped). LooksRound g.view later) same looked

-- calls that answer a mask, and refuse for one reason that both have or neither
module _ {E : Type 0} (P Q : Type 0) (call : ℕ → Call) (whole : (m : ℕ) → is_partial (call m) ≡ false) (asked : (m n : ℕ) → question (call m) ≡ question (call n))
    (fixes : (m n : ℕ) → call m ≡ call n → m ≡ n) (one_fault : (e f : E) → e ≡ f) (to : P → Q) (back : Q → P) where
  masks_alike : (one new : Gripped) (one' : SeatView) (other next : Gripped) (other' : SeatView) (r s : Result ℕ E) → AreAlike one.view other.view → (IsOk r ↔ P) → (IsOk s ↔ Q)
      → IfOk r (λ m. Called (call m) one.view new.view) → OnErr r (new ≡ one) → LooksRound new.view one' → IfOk s (λ m. Called (call m) other.view next.view)
      → OnErr s (next ≡ other) → LooksRound next.view other' → (r ≡ s) × AreAlike one' other'
  masks_alike one new one' other next other' (Ok m) (Ok n) alike p q did kept looked too stays round =
      let b = both one.view new.view one' other.view next.view other' (call m) (call n) alike did looked too round (whole m) (asked m n) in
      (ap (λ (k : ℕ). Ok k) (fixes m n b.0), b.1)
  masks_alike one new one' other next other' (Ok m) (Err f) alike p q did kept looked too stays round = let no : false ≡ true = q.1 (to (p.0 refl)) in cc
  masks_alike one new one' other next other' (Err e) (Ok n) alike p q did kept looked too stays round = let no : false ≡ true = p.1 (back (q.0 refl)) in cc
  masks_alike one new one' other next other' (Err e) (Err f) alike p q did kept looked too stays round = (
    ap (λ (g : E). Err g) (one_fault e f),
    neither one.view one' other.view other' alike (stayed one new one' kept looked) (stayed other next other' stays round),
  )

pub one_fixed : (a b : Fixed) (one other : SeatView) → AreAlike one other → one.fixed ≡ a → other.fixed ≡ b → a ≡ b
one_fixed a b one other alike p q = sym p ∙ sym alike.fixed_are ∙ q

-- both stores count a piece's chunks from the same one
pub one_piece : (a b : Fixed) (one other : SeatView) (piece : Checked) → AreAlike one other → one.fixed ≡ a → other.fixed ≡ b → piece_of b.base piece ≡ piece_of a.base piece
one_piece a b one other piece alike p q = ap (λ (f : Fixed). piece_of f.base piece) (sym (one_fixed a b one other alike p q))

pub takes_alike : (a b : Fixed) (one new : Gripped) (one' : SeatView) (other next : Gripped) (other' : SeatView) (group want : ℕ) (r s : Result ℕ NoGroup) → AreAlike one.view other.view
    → one.view.fixed ≡ a → other.view.fixed ≡ b → (IsOk r ↔ (group < groups a)) → (IsOk s ↔ (group < groups b))
    → IfOk r (λ m. Called (Take group want m) one.view new.view) → OnErr r (new ≡ one) → LooksRound new.view one'
    → IfOk s (λ m. Called (Take group want m) other.view next.view) → OnErr s (next ≡ other) → LooksRound next.view other' → (r ≡ s) × AreAlike one' other'
takes_alike a b one new one' other next other' group want r s alike f g p q did kept looked too stays round =
    let same : a ≡ b = one_fixed a b one.view other.view alike f g in
    masks_alike (group < groups a) (group < groups b) (λ m. Take group want m) (λ m. refl) (λ m n. refl) (λ m n e. cc) one_no_group
    (λ h. subst (λ (x : Fixed). group < groups x) same h) (λ h. subst (λ (x : Fixed). group < groups x) (sym same) h) one new one' other next other' r s alike p q did kept looked
    too stays round

pub commits_alike : (a b : Fixed) (one new : Gripped) (one' : SeatView) (other next : Gripped) (other' : SeatView) (group : ℕ) (piece : Checked) (r s : Result ℕ OtherRoot)
    → AreAlike one.view other.view → one.view.fixed ≡ a → other.view.fixed ≡ b → (IsOk r ↔ IsOf a piece) → (IsOk s ↔ IsOf b piece)
    → IfOk r (λ m. Called (Commit group (piece_of a.base piece) m) one.view new.view) → OnErr r (new ≡ one) → LooksRound new.view one'
    → IfOk s (λ m. Called (Commit group (piece_of b.base piece) m) other.view next.view) → OnErr s (next ≡ other) → LooksRound next.view other' → (r ≡ s) × AreAlike one' other'
commits_alike a b one new one' other next other' group piece r s alike f g p q did kept looked too stays round =
    let same : a ≡ b = one_fixed a b one.view other.view alike f g in
    masks_alike (IsOf a piece) (IsOf b piece) (λ m. Commit group (piece_of a.base piece) m) (λ m. refl) (λ m n. refl) (λ m n e. cc) one_other_root
    (λ h. subst (λ (x : Fixed). IsOf x piece) same h) (λ h. subst (λ (x : Fixed). IsOf x piece) (sym same) h) one new one' other next other' r s alike p q did kept looked
    (subst (λ (x : Fixed). IfOk s (λ m. Called (Commit group (piece_of x.base piece) m) other.view next.view)) (sym same) too) stays round

pub gives_alike : (one new one' other next other' : SeatView) (group mask m n : ℕ) → AreAlike one other → Called (Give group mask m) one new → LooksRound new one'
    → Called (Give group mask n) other next → LooksRound next other' → (m ≡ n) × AreAlike one' other'
gives_alike one new one' other next other' group mask m n alike did looked too round =
    let b = both one new one' other next other' (Give group mask m) (Give group mask n) alike did looked too round refl refl in (cc, b.1)

pub lengths_alike : (one new one' other next other' : SeatView) (o p : Option ℕ) → AreAlike one other → Called (Length o) one new → LooksRound new one'
    → Called (Length p) other next → LooksRound next other' → (o ≡ p) × AreAlike one' other'
lengths_alike one new one' other next other' o p alike did looked too round =
    let b = both one new one' other next other' (Length o) (Length p) alike did looked too round refl refl in (cc, b.1)

pub reads_alike : (one new one' other next other' : SeatView) (at : ℕ) (old was after last : List ℕ) (r s : Result Unit Missing) → AreAlike one other → old ≡ was
    → SeatDidRead one new at old after (missing_in r) → LooksRound new one' → SeatDidRead other next at was last (missing_in s) → LooksRound next other'
    → (r ≡ s) × (after ≡ last) × AreAlike one' other'
reads_alike one new one' other next other' at old was after last r s alike e did looked too round =
    let asked : Called (Read at (length old) too.bytes) other next = subst (λ (n : ℕ). Called (Read at n too.bytes) other next) (sym (ap length e)) too.called in
    let b = both one new one' other next other' (Read at (length old) did.bytes) (Read at (length old) too.bytes) alike did.called looked asked round refl refl in
    let bytes : did.bytes ≡ too.bytes = cc in
    let same = reads_same at old was after last did.bytes too.bytes r s e bytes did.filled too.filled did.answer too.answer in (same.0, same.1, b.1)

-- what a settled length met in a seat's store
pub met : (fixed : Fixed) (old new : Gripped) (piece : Checked) (answer : Settling) → SeatSettles fixed old new piece answer
    → Met fixed piece (new ≡ old) (Called (Settle (piece_of fixed.base piece) answer) old.view new.view) answer
met fixed old new piece settling.OtherRoot did = not_of did.0 did.1 refl
met fixed old new piece settling.TooLarge did = too_large did.0 did.1 did.2 refl
met fixed old new piece settling.Settled did = is_event (λ not. not did.0.of) did.0.fits did.1
met fixed old new piece settling.Known did = is_event (λ not. not did.0.of) did.0.fits did.1
met fixed old new piece settling.Differs did = is_event (λ not. not did.0.of) did.0.fits did.1

pub settles_alike : (a b : Fixed) (one new : Gripped) (one' : SeatView) (other next : Gripped) (other' : SeatView) (piece : Checked) (r s : Settling) → AreAlike one.view other.view
    → a ≡ b → SeatSettles a one new piece r → LooksRound new.view one' → SeatSettles b other next piece s → LooksRound next.view other' → (r ≡ s) × AreAlike one' other'
settles_alike a b one new one' other next other' piece r s alike same did looked too round =
    let call : Settling → Call = λ x. Settle (piece_of a.base piece) x in
    met_same a piece (new ≡ one) (Called (call r) one.view new.view) (next ≡ other) (Called (call s) other.view next.view) (AreAlike one' other') r s
    (λ kept stays. neither one.view one' other.view other' alike (stayed one new one' kept looked) (stayed other next other' stays round))
    (λ had has. let b = both one.view new.view one' other.view next.view other' (call r) (call s) alike had looked has round refl refl in (cc, b.1))
    (met a one new piece r did) (met a other next piece s (subst (λ (f : Fixed). SeatSettles f other next piece s) (sym same) too))

pub slices_alike : {V : Type 0} (items : V → List ℕ) (one new one' other next other' : SeatView) (start len : ℕ) → AreAlike one other → LooksRound new one' → LooksRound next other'
    → (r s : Result V ServeFault) → IfOk r (λ x. Called (Serve start len (serving.Text (items x))) one new) → IfErr r (λ e. SeatIsRefused start len e one new)
    → IfOk s (λ y. Called (Serve start len (serving.Text (items y))) other next) → IfErr s (λ f. SeatIsRefused start len f other next)
    → AgreeButFor unserved.Memory (λ x y. items x ≡ items y) r s × (r ≢ Err unserved.Memory → s ≢ Err unserved.Memory → AreAlike one' other')
slices_alike items one new one' other next other' start len alike looked round =
    slices_same items (λ x. Called (Serve start len x) one new) (λ y. Called (Serve start len y) other next) (λ e. SeatIsRefused start len e one new)
    (λ f. SeatIsRefused start len f other next) (AreAlike one' other')
    (λ x y did too. let b = both one new one' other next other' (Serve start len x) (Serve start len y) alike did looked too round refl refl in (cc, b.1))
    (λ p. p) (λ n p. p) (λ p. p) (λ n p. p)

-- steps and calls that always answer
pub grants_alike : (one new one' other next other' : SeatView) (group want m n : ℕ) → AreAlike one other → Called (Take group want m) one new → LooksRound new one'
    → Called (Take group want n) other next → LooksRound next other' → (m ≡ n) × AreAlike one' other'
grants_alike one new one' other next other' group want m n alike did looked too round =
    let b = both one new one' other next other' (Take group want m) (Take group want n) alike did looked too round refl refl in (cc, b.1)

pub records_alike : (one new one' other next other' : SeatView) (piece its : Piece) (r s : Settling) → AreAlike one other → its ≡ piece → Called (Settle piece r) one new
    → LooksRound new one' → Called (Settle its s) other next → LooksRound next other' → (r ≡ s) × AreAlike one' other'
records_alike one new one' other next other' piece its r s alike same did looked too round =
    let also : Called (Settle piece s) other next = subst (λ (p : Piece). Called (Settle p s) other next) same too in
    let b = both one new one' other next other' (Settle piece r) (Settle piece s) alike did looked also round refl refl in (cc, b.1)

-- a word of what a seat has seen held
pub one_word : (o : Option (List ℕ)) (word : List ℕ → ℕ) (m n : ℕ) → is_some o ≡ true → ((bytes : List ℕ) → o ≡ Some bytes → m ≡ word bytes)
    → ((bytes : List ℕ) → o ≡ Some bytes → n ≡ word bytes) → m ≡ n
one_word None word m n held p q = cc
one_word (Some bytes) word m n held p q = p bytes refl ∙ sym (q bytes refl)

-- calls that store parents, and after which none are being stored
pub ends_alike : (one new one' other next other' : SeatView) (call also : Call) → AreAlike one other → call ≡ also → EndsStoring call one new → LooksRound new one'
    → EndsStoring also other next → LooksRound next other' → AreAlike one' other'
ends_alike one new one' other next other' call also alike same did looked too round =
    let ours = came_alone one new one' did.between (event_of one call ∷ []) alike.alone did.goes_on looked in
    let theirs = came_alone other next other' too.between (event_of other also ∷ []) (other_alone one other alike) too.goes_on round in
    alike_after one one' other other' (event_of one call ∷ []) (event_of other also ∷ []) alike ours.goes theirs.goes
    (ap (λ (k : Call). event_of one k ∷ []) same ∙ ap (λ (e : Event). e ∷ []) (sym (event_alike one other also alike)))
