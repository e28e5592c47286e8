use Rattle.std.proofs.Common.{◌++◌, List, ℕ, subst, sym, take_all}
use Rattle.b3tree.proofs.BlockWords.{AreBytes-append}
use Rattle.b3tree.specs.Valid.{AreBytes}
use Rattle.bao_windows.proofs.Slots.{slot_more}
use Rattle.bao_windows.proofs.Taken.{next_slot, took_more}
use Rattle.bao_windows.specs.declared.window.Slot.{Slot}
use Rattle.bao_windows.specs.Windows.{window_bytes}
use Rattle.bao_windows.specs.Written.{HasTaken}
use Rattle.bao_windows.proofs.output.take_in.Goals as goal

pub take_slot-requires : goal.take_slot-requires
take_slot-requires c = next_slot c.args.window.now c.loop-slot.slot-index c.slot-item.result c.args.hasher.now c.loop-slot.hasher c.loop-slot-test.true c.slot-item.is c.requires c.loop-slot.invariant.took

pub loop-slot-preserved : goal.loop-slot-preserved
loop-slot-preserved c =
    let window : List Slot = c.args.window.now in
    let i : ℕ = c.loop-slot.slot-index in
    let slot : Slot = c.slot-item.result in
    record {
      took = took_more window i slot c.args.hasher.now c.loop-slot.hasher c.take_slot.new.hasher c.loop-slot-test.true c.slot-item.is c.loop-slot.invariant.took c.take_slot.ensures;
      are = subst (λ (xs : List ℕ). AreBytes xs) (sym (slot_more window i slot c.loop-slot-test.true c.slot-item.is))
          (AreBytes-append _ slot.bytes.items c.loop-slot.invariant.are (subst (λ (xs : List ℕ). AreBytes xs) c.as_slice.ensures.value c.bytes_are.ensures));
    }

pub returns-clause-took : goal.returns-clause-took
returns-clause-took c = λ mode at total valued s size taken.
    subst (λ (w : List Slot). HasTaken mode total c.loop-slot.hasher (s ++ window_bytes w)) (take_all c.loop-slot.slot-index c.args.window.now c.loop-slot-test.false)
    ((c.loop-slot.invariant.took mode at total valued).1 s size taken)
