use Rattle.std.proofs.Common.{sym, ◌∙◌}
use Rattle.determined_stores.proofs.rooms.boundary_groups_determined.Goals as goal

pub returns : goal.returns
returns c = λ group below. c.boundary_groups.ensures group below ∙ sym (c.boundary_groups-2.ensures group below)
