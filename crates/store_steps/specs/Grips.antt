-- Seats of a store's words, and what they have seen.
use Rattle.std.specs.Prelude.{List, [], ◌∷◌}
use Rattle.atomic_table.specs.Seated.{TableId}
use Rattle.b3tree.specs.Modes.{plain}
use Rattle.store_core.specs.declared.view.SeatView.{SeatView}

-- the table that a grip is a seat of, and what it knows
pub record Gripped : Type 0 where
  pub table_id : TableId
  pub view : SeatView

-- a view that nobody has
abbrev pub no_view : SeatView
no_view = record { fixed = record { root = record { 0 = [] }; mode = plain; capacity = 0; base = 0 }; names = []; seen = []; written = []; storing = []; parent_words = [] }

-- the first of a seat's views
abbrev pub first_of : List SeatView → SeatView
first_of [] = no_view
first_of (view ∷ views) = view
