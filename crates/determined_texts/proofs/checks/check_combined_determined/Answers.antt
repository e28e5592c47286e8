use Rattle.std.proofs.Common.{◌-◌, ◌^◌}
use Rattle.determined_texts.proofs.OneFault.{slices_agree}
use Rattle.determined_texts.proofs.checks.check_combined_determined.Goals as goal

pub returns : goal.returns
returns c =
    let one = c.check_combined.ensures in
    let other = c.check_combined-2.ensures in
    slices_agree c.args.mode.now c.args.root.now.0 0 (2 ^ 64 - 1) c.args.text.now c.check_combined.result c.check_combined-2.result one.accepted other.accepted one.piece other.piece one.fault other.fault
