-- Seats of shared stores that are alone: two that have seen the same, and one beside a one-thread store.
use Rattle.std.specs.Prelude.{◌≡◌, ℕ, true, [], ◌∷◌, Some, option_map, Result}
use Rattle.store_core.specs.declared.fault.StoreFault.{StoreFault}
use Rattle.store_core.specs.declared.fault.StoreFault.TheVariants as faults
use Rattle.store_core.specs.declared.store.Store.{Store}
use Rattle.store_core.specs.declared.view.SeatView.{SeatView}
use Rattle.store_core.specs.Histories.{state_after}
use Rattle.store_core.specs.Knowledge.{AreAllNames}
use Rattle.store_core.specs.Names.{Name, has_name}
use Rattle.store_core.specs.States.{State}
use Rattle.store_core.specs.Stores.{fixed_of, state_of}
use Rattle.store_core.specs.Views.{mine, names_of}
use Rattle.store_shared.specs.declared.fault.ParentsFault.{ParentsFault}
use Rattle.store_shared.specs.declared.fault.ParentsFault.TheVariants as unstored
use Rattle.determined_texts.specs.Agreeing.{AgreeBy}

-- The seat has all names that there are, and each call that it has seen is its own.
pub record IsLone (view : SeatView) : Type 0 where
  pub all : AreAllNames view.names
  pub own : mine view ≡ view.seen

-- Both are alone, each in a store of the same root, mode, capacity and first chunk. They have the same names and have seen the same.
pub record AreAlike (one other : SeatView) : Type 0 where
  pub alone : IsLone one
  pub fixed_are : other.fixed ≡ one.fixed
  pub names_are : other.names ≡ one.names
  pub seen_are : other.seen ≡ one.seen

-- all that two seats know but what they have seen
pub record HaveTheSame (one other : SeatView) : Type 0 where
  pub fixed_are : one.fixed ≡ other.fixed
  pub names_are : one.names ≡ other.names
  pub written_are : one.written ≡ other.written
  pub storing_are : one.storing ≡ other.storing
  pub parent_words_are : one.parent_words ≡ other.parent_words

-- the state in which each chunk that is claimed is claimed by the seat with this number
abbrev pub renamed : ℕ → State → State
renamed number s = record s { claim = λ c. option_map (λ (name : Name). number ∷ []) (s.claim c) }

-- The seat is alone, and claims each chunk that is claimed. The one-thread store has the same root, mode, capacity and first
-- chunk, and stands for the state after what the seat has seen, in which the seat with this number is the one that claims.
pub record StandsAlike (store : Store) (number : ℕ) (view : SeatView) : Type 0 where
  pub alone : IsLone view
  pub claimed : (c : ℕ) (name : Name) → (state_after view.seen).claim c ≡ Some name → has_name (names_of view) name ≡ true
  pub fixed_is : fixed_of store ≡ view.fixed
  pub state_is : state_of store ≡ renamed number (state_after view.seen)

-- the one-thread store's fault for parents that a shared one refuses
abbrev pub store_fault : ParentsFault → StoreFault
store_fault unstored.OtherRoot = faults.OtherRoot
store_fault unstored.OtherLength = faults.OtherLength

-- The answer of one and that of the other, which may be of another type: both answer the same, or refuse for the same
-- reason, and something holds of what they leave. The other alone may be out of memory.
abbrev pub AnswerAlike : {X E F : Type 0} → F → (E → F) → Result X E → Result X F → Type 0 → Type 0
AnswerAlike memory same r s P = AgreeBy (λ x y. (x ≡ y) × P) (λ e f. (f ≡ same e) × P) (λ e. ⊥) (λ f. f ≡ memory) r s
