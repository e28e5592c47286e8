-- The order of finished calls.
use Rattle.std.specs.Prelude.{◌≡◌, ◌⊎◌, List, ◌++◌}
use Rattle.store_core.specs.declared.history.Call.{Call}
use Rattle.store_core.specs.declared.history.Event.{Event}
use Rattle.store_core.specs.declared.view.SeatView.{SeatView}
use Rattle.store_core.specs.Knowledge.{Called}
use Rattle.store_core.specs.Views.{Continues}

-- Of two seats, what one has seen begins what the other has seen, and has all calls of its own that are there.
abbrev pub AreInOneLine : SeatView → SeatView → Type 0
AreInOneLine first second = Continues first second.seen ⊎ Continues second first.seen

-- A seat makes a call while another makes none. Then all that the other has seen, its finished calls among it, comes before
-- that call in the history that the first has seen.
abbrev pub AreInRealTime : Type 0
AreInRealTime = (other old new : SeatView) (call : Call) → AreInOneLine other old → Called call old new → AreInOneLine other new
    → (more : List Event) × (new.seen ≡ other.seen ++ more)
