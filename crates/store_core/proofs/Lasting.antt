-- What a history keeps: sound states, chunks held, the recorded length and the claims of those who don't call.
use Rattle.std.proofs.lemmas.Bool.Decides.{nat_tests}
use Rattle.std.proofs.Common.{arith, ◌≡◌, ℕ, true, false, List, [], ◌∷◌, ◌++◌, Some, refl}
use Rattle.holders.specs.declared.fixed.Fixed.{Fixed}
use Rattle.store_core.specs.declared.history.Call.{Call}
use Rattle.store_core.specs.declared.history.Call.TheVariants.{Commit}
use Rattle.store_core.specs.declared.history.Event.{Event}
use Rattle.holders.specs.declared.piece.Piece.{Piece}
use Rattle.store_core.specs.Events.{IsRightReply, after, after_call}
use Rattle.store_core.specs.Histories.{AreLegalFrom, AreOfOthers, is_by, run}
use Rattle.store_core.specs.Laws.{ClaimsLast, HeldLasts, IsSound, LegalIsSound, RecordLasts}
use Rattle.store_core.specs.Masks.{in_mask}
use Rattle.store_core.specs.Names.{Name, share_name}
use Rattle.store_core.specs.States.{State, claims, empty}
use Rattle.store_core.proofs.Tells.{claims-claimed, claims_apart, masked}

-- the state after two lists is that of the second from that of the first
pub run-append : (s : State) (first second : List Event) → run s (first ++ second) ≡ run (run s first) second
run-append s [] second = refl
run-append s (e ∷ first) second = run-append (after s e) first second

-- a history's beginning is legal, and what follows is so after it
pub legal-append : (fixed : Fixed) (s : State) (first second : List Event) → AreLegalFrom fixed s (first ++ second)
    → AreLegalFrom fixed s first × AreLegalFrom fixed (run s first) second
legal-append fixed s [] second legal = (tt, legal)
legal-append fixed s (e ∷ first) second legal = grind (arith, nat_tests, legal-append fixed (after s e) first second)

pub legal-join : (fixed : Fixed) (s : State) (first second : List Event) → AreLegalFrom fixed s first → AreLegalFrom fixed (run s first) second
    → AreLegalFrom fixed s (first ++ second)
legal-join fixed s [] second begun goes_on = goes_on
legal-join fixed s (e ∷ first) second begun goes_on = (begun.0, legal-join fixed (after s e) first second begun.1 goes_on)

-- what a Commit stores is claimed before
pub committed-claimed : (fixed : Fixed) (s : State) (who : List Name) (g : ℕ) (piece : Piece) (r c : ℕ) → IsRightReply fixed s who (Commit g piece r)
    → in_mask g r c ≡ true → claims who s c ≡ true
committed-claimed fixed s who g piece r c right hit = grind (arith, nat_tests, masked)

-- a call keeps a state sound
pub sound_call : (fixed : Fixed) (s : State) (who : List Name) (call : Call) → IsSound fixed s → IsRightReply fixed s who call → IsSound fixed (after_call who call s)
sound_call fixed s who call sound right = grind (arith, nat_tests)

pub sound_from : (fixed : Fixed) (s : State) (events : List Event) → IsSound fixed s → AreLegalFrom fixed s events → IsSound fixed (run s events)
sound_from fixed s [] sound legal = sound
sound_from fixed s (e ∷ events) sound legal = sound_from fixed (after s e) events (sound_call fixed s e.who e.call sound legal.0) legal.1

pub sound_empty : (fixed : Fixed) → IsSound fixed empty
sound_empty fixed = record { apart = λ c h. cc; held_below = λ c h. let none : false ≡ true = h in cc; claimed_below = λ c h. let none : false ≡ true = h in cc }

pub legal_is_sound : LegalIsSound
legal_is_sound fixed history legal = sound_from fixed empty history (sound_empty fixed) legal

-- what is held stays
held_call : (fixed : Fixed) (s : State) (who : List Name) (call : Call) → IsSound fixed s → IsRightReply fixed s who call
    → (c : ℕ) (bytes : List ℕ) → s.held c ≡ Some bytes → (after_call who call s).held c ≡ Some bytes
held_call fixed s who call sound right c bytes h = grind (arith, nat_tests, claims-claimed, committed-claimed)

pub held_from : (fixed : Fixed) (s : State) (events : List Event) → IsSound fixed s → AreLegalFrom fixed s events
    → (c : ℕ) (bytes : List ℕ) → s.held c ≡ Some bytes → (run s events).held c ≡ Some bytes
held_from fixed s [] sound legal c bytes h = h
held_from fixed s (e ∷ events) sound legal c bytes h =
    held_from fixed (after s e) events (sound_call fixed s e.who e.call sound legal.0) legal.1 c bytes (held_call fixed s e.who e.call sound legal.0 c bytes h)

pub held_lasts : HeldLasts
held_lasts fixed history more c bytes legal h = grind (arith, nat_tests, legal-append, run-append, held_from, legal_is_sound)

-- a recorded length stays
recorded_call : (fixed : Fixed) (s : State) (who : List Name) (call : Call) → IsRightReply fixed s who call
    → (l : ℕ) → s.recorded ≡ Some l → (after_call who call s).recorded ≡ Some l
recorded_call fixed s who call right l h = grind (arith, nat_tests)

pub recorded_from : (fixed : Fixed) (s : State) (events : List Event) → AreLegalFrom fixed s events
    → (l : ℕ) → s.recorded ≡ Some l → (run s events).recorded ≡ Some l
recorded_from fixed s [] legal l h = h
recorded_from fixed s (e ∷ events) legal l h = recorded_from fixed (after s e) events legal.1 l (recorded_call fixed s e.who e.call legal.0 l h)

pub record_lasts : RecordLasts
record_lasts fixed history more l legal h = grind (arith, nat_tests, legal-append, run-append, recorded_from)

-- a caller's claims stay while others call
claims_call : (fixed : Fixed) (s : State) (who : List Name) (call : Call) (names : List Name) → share_name names who ≡ false → IsRightReply fixed s who call
    → (c : ℕ) → claims names (after_call who call s) c ≡ claims names s c
claims_call fixed s who call names apart right c = grind (arith, nat_tests, masked, claims_apart, committed-claimed)

-- of other callers all along: the first event is, and so are the rest
pub others_parts : (names : List Name) (e : Event) (events : List Event) → AreOfOthers names (e ∷ events) → (is_by names e ≡ false) × AreOfOthers names events
others_parts names e events h = grind (arith, nat_tests)

pub claims_from : (fixed : Fixed) (s : State) (events : List Event) (names : List Name) → AreLegalFrom fixed s events → AreOfOthers names events
    → (c : ℕ) → claims names (run s events) c ≡ claims names s c
claims_from fixed s [] names legal others c = refl
claims_from fixed s (e ∷ events) names legal others c = grind (arith, nat_tests, others_parts, claims_call, claims_from fixed (after s e) events names)

pub claims_last : ClaimsLast
claims_last fixed history more names c legal others = grind (arith, nat_tests, legal-append, run-append, claims_from)
