use Rattle.std.proofs.Common.{◌+◌, ℕ, List, take, drop, subst}
use Rattle.bao_text.specs.Faults.{WroteOnly}
use Rattle.bao_windows.proofs.Slots.{parted_at}
use Rattle.bao_windows.proofs.Writing.{part_written}
use Rattle.bao_windows.specs.declared.window.Slot.{Slot}
use Rattle.bao_windows.specs.Windows.{window_bytes}
use Rattle.bao_windows.proofs.output.write_slots.Goals as goal

pub returns-in-Err-clause-begun : goal.returns-in-Err-clause-begun
returns-in-Err-clause-begun g c =
    let window : List Slot = c.args.window.now in
    let i : ℕ = c.loop-slot.slot-index in
    let slot : Slot = c.slot-item.result in
    part_written _ (g.W.Write.contents c.loop-slot.out) _ (window_bytes (take i window)) slot.bytes.items (window_bytes (drop (i + 1) window)) (window_bytes window) c.in-Err.field-0
    (parted_at window i slot c.loop-slot-test.true c.slot-item.is) c.loop-slot.invariant
    (subst (λ (xs : List ℕ). WroteOnly (g.W.Write.contents c.loop-slot.out) (g.W.Write.contents c.write_text.new.out) xs c.in-Err.field-0) c.as_slice.ensures.value c.in-Err.ensures.err)
