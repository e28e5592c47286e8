use Rattle.std.proofs.Common.{subst, sym}
use Rattle.store_shared.specs.Seats.{Gripped}
use Rattle.store_shared.specs.Calls.{HasSliceHeld}
use Rattle.store_shared.proofs.ServedSlices.{held_is_served}
use Rattle.store_shared.proofs.assembly.Assembly.serve_slice.Goals as goal

pub returns-clause-held : goal.returns-clause-held
returns-clause-held c = λ has.
    held_is_served c.args.start c.args.len c.seat.inside.grip.view c.serve_slice.new.grip.view c.serve_slice.result c.serve_slice.ensures.refused
    (subst (λ (x : Gripped). HasSliceHeld x.view c.args.start c.args.len) (sym c.seat.view_is) has)
