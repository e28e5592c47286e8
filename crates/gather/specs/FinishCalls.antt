-- What finishing a blob asks of a shared store.
use Rattle.std.specs.Prelude.{◌⊎◌, ℕ, List, Option, Some}
use Rattle.store_core.specs.declared.history.Call.TheVariants.{Length, Read}
use Rattle.store_core.specs.declared.view.SeatView.{SeatView}
use Rattle.store_core.specs.Knowledge.{Called}

-- the length was asked for
pub record AsksLength (old new : SeatView) : Type 0 where
  pub recorded : Option ℕ
  pub length : Called (Length recorded) old new

-- the length was asked for, and then all bytes below it
pub record AsksBytes (old new : SeatView) : Type 0 where
  pub len : ℕ
  pub then : SeatView
  pub length : Called (Length (Some len)) old then
  pub bytes : List ℕ
  pub read : Called (Read 0 len bytes) then new

-- of the seat's calls these are new, and no other
abbrev pub Asks : SeatView → SeatView → Type 0
Asks old new = AsksLength old new ⊎ AsksBytes old new
