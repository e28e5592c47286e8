use Rattle.std.proofs.Common.{ap, sym, ◌∙◌}
use Rattle.holders.specs.declared.fixed.Fixed.{Fixed}
use Rattle.holders.specs.Room.{groups}
use Rattle.store_shared.specs.Seats.{Gripped}
use Rattle.store_shared.proofs.Claiming.{part_second}
use Rattle.store_shared.proofs.assembly.Assembly.split.Goals as goal

pub invariant_of-result-in-Ok-part : goal.invariant_of-result-in-Ok-part
invariant_of-result-in-Ok-part c =
    part_second c.seat.inside.grip.view c.in-Ok-part.first.view c.in-Ok-part.second.view c.groups.result c.in-Ok.none.items
    (c.groups.ensures ∙ ap (λ (f : Fixed). groups f) (sym (ap (λ (x : Gripped). x.view.fixed) c.seat.view_is ∙ c.requires.of.knows.fixed_is)))
    c.in-Ok-part.ensures.parts (c.in-Ok.ensures.items_if_clones_equal (λ y h. h))
