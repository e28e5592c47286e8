-- A step on a word of parents: what is known of chunks and of the length stays.
use Rattle.std.proofs.Common.{◌≡◌, ℕ, ◌≤◌, List, [], ◌∷◌, ◌++◌, set, refl, ap, ◌∙◌, arith}
use mathlib.Core.Option.{some}
use lib.ListN.{get_elem?}
use Rattle.atomic_table.specs.Table.{State as Table, keeps, stepped}
use Rattle.holders.specs.declared.fixed.Fixed.{Fixed}
use Rattle.store_core.specs.declared.history.Call.{Call}
use Rattle.store_core.specs.declared.history.Call.TheVariants.{Parents}
use Rattle.store_core.specs.declared.history.Event.{Event}
use Rattle.holders.specs.declared.piece.Piece.{Piece}
use Rattle.store_core.specs.declared.history.Storing.{Storing}
use Rattle.store_core.specs.declared.view.Boundaries.{Boundaries}
use Rattle.store_core.specs.declared.view.SeatView.{SeatView}
use Rattle.store_core.specs.declared.view.StoredWord.{StoredWord}
use Rattle.store_core.specs.Events.{IsRightReply, after_call, parents_after}
use Rattle.store_core.specs.Histories.{state_after}
use Rattle.store_core.specs.States.{State, claims, empty}
use Rattle.store_core.specs.Views.{names_of}
use Rattle.store_core.proofs.Lasting.{run-append}
use Rattle.store_steps.specs.Layout.{parents_place}
use Rattle.store_steps.specs.Rule.{AreParentsKept, RuleHolds}
use Rattle.store_core.specs.Knowledge.{EndsStoring, event_of}
use Rattle.store_steps.proofs.WrittenWords.{aside_stands}
use Rattle.store_steps.proofs.StepViews.{Steps, cells_past, claims_now, fitting, goes_on, quiet_step, seen_step, seen_then, sound, stored_past}

module _ (fixed : Fixed) (s : Table Unit (List SeatView)) (k : RuleHolds fixed s) (id : ℕ) (view : SeatView) (seat : get_elem? s.views id ≡ some (view ∷ []))
    (i n : ℕ) (high : parents_place fixed ≤ i) where
  abbrev now : State
  now = state_after k.history

  -- a step with no event, after which the seat is storing these
  pub aside_step : (storing : List Boundaries) (parent_words : List StoredWord)
      → AreParentsKept fixed (set s.words i n) (set s.views id (record view { storing = storing; parent_words = parent_words } ∷ [])) now.parents
      → RuleHolds fixed (stepped s i n id [] (record view { storing = storing; parent_words = parent_words } ∷ []) keeps)
  aside_step storing parent_words parents = quiet_step fixed s k id view seat view.written storing parent_words i n
      (aside_stands fixed s.words now k.words (sound fixed s k id view seat) now.parents i n high) (stored_past fixed s k id view seat i n (omega (arith, high)))
      (λ number claimed others. cells_past fixed s k id view seat i n (omega (arith, high)) number claimed) parents

  -- a step at which parents are stored, or aren't: the seat is storing none then
  pub parents_step : (group : ℕ) (piece : Piece) (answer : Storing) → IsRightReply fixed now (names_of view) (Parents group piece answer)
      → AreParentsKept fixed (set s.words i n)
      (set s.views id (record view { seen = k.history ++ event_of view (Parents group piece answer) ∷ []; storing = []; parent_words = [] } ∷ []))
      (λ m. parents_after answer group piece now.parents m)
      → Steps fixed s id i n (λ new. EndsStoring (Parents group piece answer) view new × (new.written ≡ view.written))
  parents_step group piece answer right parents =
      let call : Call = Parents group piece answer in
      let own : List Event = event_of view call ∷ [] in
      let then : state_after (k.history ++ own) ≡ after_call (names_of view) call now = run-append empty k.history own in
      record {
        new = seen_then fixed s k id view seat own view.written [] [];
        kept = seen_step fixed s k id view seat own (after_call (names_of view) call now) refl (right, tt) (refl, tt) view.written [] [] i n
            (aside_stands fixed s.words now k.words (sound fixed s k id view seat) (λ m. parents_after answer group piece now.parents m) i n high)
            (stored_past fixed s k id view seat i n (omega (arith, high)))
            (λ number claimed others. cells_past fixed s k id view seat i n (omega (arith, high)) number claimed) parents;
        told = (
          record {
            between = (fitting fixed s k id view seat).continues.between;
            goes_on = goes_on fixed s k id view seat own view.written [] [] (right, tt) (refl, tt);
            claims_are = λ c. ap (λ (t : State). claims (names_of view) t c) then ∙ claims_now fixed s k id view seat c;
            none = refl;
          },
          refl,
        );
      }
