-- Parents that a store holds: they stay, and come from pieces that claim the recorded length.
use Rattle.std.proofs.Common.{rules, arith, ◌≡◌, ◌⊎◌, ℕ, true, List, [], ◌∷◌, Some, inl, inr}
use Rattle.std.proofs.lemmas.Bool.Decides.{nat_tests}
use Rattle.std.specs.Prelude.{Contains}
use Rattle.std.proofs.lemmas.Bool.{cases_Bool}
use Rattle.bao_check.proofs.Lists.{Contains-head, Contains-tail}
use Rattle.holders.specs.declared.fixed.Fixed.{Fixed}
use Rattle.store_core.specs.declared.history.Call.{Call}
use Rattle.store_core.specs.declared.history.Call.TheVariants.{Parents}
use Rattle.store_core.specs.declared.history.Event.{Event}
use Rattle.holders.specs.declared.piece.Piece.{Piece}
use Rattle.store_core.specs.declared.history.Storing.{Storing}
use Rattle.store_core.specs.declared.history.Storing.TheVariants.{OtherLength, Stored}
use Rattle.store_core.specs.Events.{IsRightReply, after, after_call, parents_after}
use Rattle.store_core.specs.Histories.{AreLegalFrom, run}
use Rattle.store_core.specs.Laws.{ParentIsStored, ParentLasts}
use Rattle.store_core.specs.Masks.{in_mask}
use Rattle.store_core.specs.Names.{Name}
use Rattle.holders.specs.Pieces.{IsAcceptedPiece, length_of, parent_bytes}
use Rattle.store_core.specs.States.{State, empty}
use Rattle.store_core.proofs.Lasting.{legal-append, recorded_from, run-append}

-- a parent that is held isn't stored again
parent_call : (fixed : Fixed) (s : State) (who : List Name) (call : Call) → IsRightReply fixed s who call
    → (m : ℕ) (bytes : List ℕ) → s.parents m ≡ Some bytes → (after_call who call s).parents m ≡ Some bytes
parent_call fixed s who call right m bytes h = grind (arith, nat_tests)

pub parents_from : (fixed : Fixed) (s : State) (events : List Event) → AreLegalFrom fixed s events
    → (m : ℕ) (bytes : List ℕ) → s.parents m ≡ Some bytes → (run s events).parents m ≡ Some bytes
parents_from fixed s [] legal m bytes h = h
parents_from fixed s (e ∷ events) legal m bytes h =
    parents_from fixed (after s e) events legal.1 m bytes (parent_call fixed s e.who e.call legal.0 m bytes h)

pub parent_lasts : ParentLasts
parent_lasts fixed history more m bytes legal h = grind (arith, nat_tests, legal-append, run-append, parents_from)

-- a parent that some of the events stored, from a state on
record StoredFrom (fixed : Fixed) (s : State) (events : List Event) (m : ℕ) (bytes : List ℕ) : Type 0 where
  who : List Name
  group : ℕ
  piece : Piece
  mask : ℕ
  there : Contains events (record { who = who; call = Parents group piece (Stored mask) })
  accepted : IsAcceptedPiece fixed piece
  stored : in_mask group mask m ≡ true
  has : parent_bytes piece m ≡ Some bytes
  length_is : (run s events).recorded ≡ Some (length_of piece)

store_parent : (fixed : Fixed) (s : State) (who : List Name) (group : ℕ) (piece : Piece) (answer : Storing) (events : List Event) → IsRightReply fixed s who (Parents group piece answer)
    → AreLegalFrom fixed (after_call who (Parents group piece answer) s) events
    → (m : ℕ) (bytes : List ℕ) → parents_after answer group piece s.parents m ≡ Some bytes
    → (s.parents m ≡ Some bytes) ⊎ StoredFrom fixed s (record { who = who; call = Parents group piece answer } ∷ events) m bytes
store_parent fixed s who group piece OtherLength events right legal m bytes h = inl h
store_parent fixed s who group piece (Stored mask) events right legal m bytes h = elim (cases_Bool (in_mask group mask m)) [
  | inl hit ↦ inr (search (
    rules,
    Contains-head events (record { who = who; call = Parents group piece (Stored mask) }),
    right.0,
    hit,
    (rw hit at h),
    recorded_from fixed (after_call who (Parents group piece (Stored mask)) s) events legal (length_of piece) right.1.0,
  ))
  | inr miss ↦ inl (rw miss at h)
]

-- what is held after a call was held before, or the call stores it
call_parent : (fixed : Fixed) (s : State) (who : List Name) (call : Call) (events : List Event) → IsRightReply fixed s who call → AreLegalFrom fixed (after_call who call s) events
    → (m : ℕ) (bytes : List ℕ) → (after_call who call s).parents m ≡ Some bytes
    → (s.parents m ≡ Some bytes) ⊎ StoredFrom fixed s (record { who = who; call = call } ∷ events) m bytes
call_parent fixed s who call events right legal m bytes h = grind (arith, nat_tests, store_parent)

stored_from : (fixed : Fixed) (s : State) (events : List Event) → AreLegalFrom fixed s events
    → (m : ℕ) (bytes : List ℕ) → (run s events).parents m ≡ Some bytes → (s.parents m ≡ Some bytes) ⊎ StoredFrom fixed s events m bytes
stored_from fixed s [] legal m bytes h = inl h
stored_from fixed s (e ∷ events) legal m bytes h = elim (stored_from fixed (after s e) events legal.1 m bytes h) [
  | inl before ↦ call_parent fixed s e.who e.call events legal.0 legal.1 m bytes before
  | inr later ↦ inr (search (rules, Contains-tail))
]

pub parent_is_stored : ParentIsStored
parent_is_stored fixed history m bytes legal h = elim (stored_from fixed empty history legal m bytes h) [ inl none ↦ cc | inr k ↦ search rules ]
