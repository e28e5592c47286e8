-- Where chunks and the length come from, and that each held chunk was committed once.
use Rattle.std.proofs.lemmas.Grind.{common_steps}
use Rattle.std.proofs.Common.{rules, ◌≡◌, ◌⊎◌, ℕ, ◌+◌, Bool, true, if◌then◌else◌, List, [], ◌∷◌, Some, arith, inl, inr, count_by}
use Rattle.std.proofs.lemmas.Bool.Decides.{nat_tests}
use Rattle.std.proofs.lemmas.Bool.{cases_Bool}
use Rattle.std.proofs.lemmas.List.Sums.{sum_by-cons}
use Rattle.bao_check.proofs.Lists.{Contains-head, Contains-tail}
use Rattle.holders.specs.declared.fixed.Fixed.{Fixed}
use Rattle.store_core.specs.declared.history.Call.{Call}
use Rattle.store_core.specs.declared.history.Call.TheVariants.{Commit, Settle}
use Rattle.store_core.specs.declared.history.Event.{Event}
use Rattle.holders.specs.declared.piece.Piece.{Piece}
use Rattle.store_core.specs.declared.history.Settling.{Settling}
use Rattle.store_core.specs.declared.history.Settling.TheVariants.{Settled}
use Rattle.store_core.specs.Events.{IsRightReply, after, after_call, recorded_after}
use Rattle.store_core.specs.Histories.{AreLegalFrom, run}
use Rattle.store_core.specs.Laws.{CommittedOnce, HeldIsCommitted, IsCommitted, IsSettled, IsSound, RecordIsSettled, commits}
use Rattle.store_core.specs.Masks.{in_mask}
use Rattle.store_core.specs.Names.{Name}
use Rattle.holders.specs.Pieces.{holds_chunk, length_of}
use Rattle.store_core.specs.States.{State, empty, is_held}
use Rattle.store_core.proofs.Tells.{claims-claimed, masked}
use Rattle.store_core.proofs.Lasting.{committed-claimed, sound_call, sound_empty}

-- what is held after a call was held before, or the call commits it
commit_held : (fixed : Fixed) (s : State) (who : List Name) (call : Call) (events : List Event) → IsRightReply fixed s who call
    → (c : ℕ) (bytes : List ℕ) → (after_call who call s).held c ≡ Some bytes
    → (s.held c ≡ Some bytes) ⊎ IsCommitted fixed (record { who = who; call = call } ∷ events) c bytes
commit_held fixed s who (Commit g piece r) events right c bytes h = elim (cases_Bool (in_mask g r c)) [
  | inl hit ↦ inr (search (rules, Contains-head events (record { who = who; call = Commit g piece r }), right.0, hit, (rw hit at h)))
  | inr miss ↦ inl (rw miss at h)
]
commit_held fixed s who call events right c bytes h = inl h

pub committed_from : (fixed : Fixed) (s : State) (events : List Event) → AreLegalFrom fixed s events
    → (c : ℕ) (bytes : List ℕ) → (run s events).held c ≡ Some bytes → (s.held c ≡ Some bytes) ⊎ IsCommitted fixed events c bytes
committed_from fixed s [] legal c bytes h = inl h
committed_from fixed s (e ∷ events) legal c bytes h = elim (committed_from fixed (after s e) events legal.1 c bytes h) [
  | inl before ↦ commit_held fixed s e.who e.call events legal.0 c bytes before
  | inr later ↦ inr (search (rules, Contains-tail))
]

pub held_is_committed : HeldIsCommitted
held_is_committed fixed history c bytes legal h = elim (committed_from fixed empty history legal c bytes h) [
  | inl none ↦ cc
  | inr there ↦ there
]

-- a recorded length was so before, or the call settles it
settle_record : (fixed : Fixed) (s : State) (who : List Name) (piece : Piece) (answer : Settling) (events : List Event) → IsRightReply fixed s who (Settle piece answer)
    → (l : ℕ) → recorded_after answer (length_of piece) s.recorded ≡ Some l
    → (s.recorded ≡ Some l) ⊎ IsSettled fixed (record { who = who; call = Settle piece answer } ∷ events) l
settle_record fixed s who piece Settled events right l h =
    let is : length_of piece ≡ l = cc in
    inr (search (rules, Contains-head events (record { who = who; call = Settle piece Settled }), right.0, right.1, right.2, is))
settle_record fixed s who piece answer events right l h = inl h

call_record : (fixed : Fixed) (s : State) (who : List Name) (call : Call) (events : List Event) → IsRightReply fixed s who call
    → (l : ℕ) → (after_call who call s).recorded ≡ Some l → (s.recorded ≡ Some l) ⊎ IsSettled fixed (record { who = who; call = call } ∷ events) l
call_record fixed s who call events right l h = grind (arith, nat_tests, settle_record)

pub settled_from : (fixed : Fixed) (s : State) (events : List Event) → AreLegalFrom fixed s events
    → (l : ℕ) → (run s events).recorded ≡ Some l → (s.recorded ≡ Some l) ⊎ IsSettled fixed events l
settled_from fixed s [] legal l h = inl h
settled_from fixed s (e ∷ events) legal l h = elim (settled_from fixed (after s e) events legal.1 l h) [
  | inl before ↦ call_record fixed s e.who e.call events legal.0 l before
  | inr later ↦ inr (search (rules, Contains-tail))
]

pub record_is_settled : RecordIsSettled
record_is_settled fixed history l legal h = elim (settled_from fixed empty history legal l h) [ inl none ↦ cc | inr there ↦ there ]

-- one where the test holds, and none where it doesn't
abbrev pub one_if : Bool → ℕ
one_if b = if b then 1 else 0

-- what a Commit stores the piece holds
holds : (fixed : Fixed) (s : State) (who : List Name) (g : ℕ) (piece : Piece) (r c : ℕ) → IsRightReply fixed s who (Commit g piece r) → in_mask g r c ≡ true → holds_chunk piece c ≡ true
holds fixed s who g piece r c right hit = grind (arith, nat_tests, masked)

-- a call commits a chunk that wasn't held, and no other becomes held
pub counted_commit : (fixed : Fixed) (s : State) (who : List Name) (g : ℕ) (piece : Piece) (r c : ℕ) → IsSound fixed s → IsRightReply fixed s who (Commit g piece r)
    → one_if (in_mask g r c) + one_if (is_held s c) ≡ one_if (is_held (after_call who (Commit g piece r) s) c)
counted_commit fixed s who g piece r c sound right = grind (arith, nat_tests, committed-claimed, claims-claimed, holds)

counted_call : (fixed : Fixed) (s : State) (who : List Name) (call : Call) (c : ℕ) → IsSound fixed s → IsRightReply fixed s who call
    → one_if (commits c call) + one_if (is_held s c) ≡ one_if (is_held (after_call who call s) c)
counted_call fixed s who call c sound right = grind (arith, nat_tests, counted_commit)

counted_from : (fixed : Fixed) (s : State) (events : List Event) (c : ℕ) → IsSound fixed s → AreLegalFrom fixed s events
    → count_by (λ e. commits c e.call) events + one_if (is_held s c) ≡ one_if (is_held (run s events) c)
counted_from fixed s [] c sound legal = omega arith
counted_from fixed s (e ∷ events) c sound legal = grind (arith, common_steps, nat_tests, sound_call, counted_call, sum_by-cons, counted_from fixed (after s e) events c)

pub committed_once : CommittedOnce
committed_once fixed history c legal =
    let all = counted_from fixed empty history c (sound_empty fixed) legal in omega (arith, all)
