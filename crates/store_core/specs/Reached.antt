-- States that a history of a store reaches.
use Rattle.std.specs.Prelude.{◌≡◌, List}
use Rattle.holders.specs.declared.fixed.Fixed.{Fixed}
use Rattle.store_core.specs.declared.history.Event.{Event}
use Rattle.store_core.specs.Histories.{IsLegal, state_after}
use Rattle.store_core.specs.States.{State}

-- some legal history leads to the state
pub record IsReached (fixed : Fixed) (s : State) : Type 0 where
  pub history : List Event
  pub legal : IsLegal fixed history
  pub is : state_after history ≡ s
