use Rattle.std.proofs.Common.{◌∙◌, sym}
use Rattle.bao_check.specs.Tail.{tail_piece}
use Rattle.store_core.proofs.SlotStates.{accepted_piece, is_of_piece, reached_by, settle_done}
use Rattle.store_core.proofs.store.Store.settle.Goals as goal

pub invariant_of-self-clause-reached : goal.invariant_of-self-clause-reached
invariant_of-self-clause-reached c =
    let s = c.args.self.now in
    let piece = tail_piece c.args.tail.now in
    let is = c.is_of.ensures.0 c.if-not-is_of.false in
    reached_by (settle_done s.fixed s.slots.items s.recorded s.parents.items piece c.length-length.result
    (accepted_piece s.fixed piece c.is_last.ensures.bytes c.is_last.ensures.accepted (is_of_piece s.fixed piece c.root.result c.mode.result c.root.ensures c.mode.ensures is.0 is.1))
    c.is_last.ensures.last c.length-length.ensures.value (sym c.has_room.ensures ∙ c.if-not-has_room.false) c.in-None.is) s.reached
