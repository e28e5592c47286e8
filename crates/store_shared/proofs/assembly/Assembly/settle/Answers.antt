use Rattle.std.proofs.Common.{◌≡◌, ◌∙◌, ℕ, true, subst, sym}
use Rattle.bao_check.specs.declared.checked.Checked.{Checked}
use Rattle.bao_check.specs.Tail.{tail_piece}
use Rattle.holders.specs.declared.fixed.Fixed.{Fixed}
use Rattle.holders.specs.Room.{has_room}
use Rattle.store_core.proofs.SlotStates.{is_of_piece}
use Rattle.store_shared.specs.Seats.{Gripped}
use Rattle.store_shared.specs.Calls.{MaySettle, SeatSettles}
use Rattle.store_shared.proofs.Asking.{called, settled}
use Rattle.store_shared.proofs.assembly.Assembly.settle.Goals as goal

pub returns-clause-settles : goal.returns-clause-settles
returns-clause-settles c =
    let piece : Checked = tail_piece c.args.tail.now in
    let fixed : Fixed = c.fixed-fixed.result in
    let here : Fixed = c.args.self.now.words.fixed in
    let is = c.is_of.ensures.0 c.if-not-is_of.false in
    let may : MaySettle fixed piece = record {
      of = is_of_piece fixed piece c.root.result c.mode.result c.root.ensures c.mode.ensures is.0 is.1;
      fits = subst (λ (n : ℕ). has_room fixed n ≡ true) c.length.ensures.value (sym c.has_room.ensures ∙ c.if-not-has_room.false);
    } in
    subst (λ (old : Gripped). SeatSettles here old c.settle.new.grip piece c.settle.result) c.seat.view_is
    (settled here c.seat.inside.grip c.settle.new.grip piece c.settle.result (subst (λ (f : Fixed). MaySettle f piece) c.fixed-fixed.ensures may)
    (called _ c.seat.inside.grip.view c.settle.new.grip.view c.settle.ensures.did))
