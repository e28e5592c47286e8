use Rattle.determined_texts.proofs.OneFault.{slices_agree}
use Rattle.determined_texts.proofs.checks.check_slice_determined.Goals as goal

pub returns : goal.returns
returns c =
    let one = c.check_slice.ensures in
    let other = c.check_slice-2.ensures in
    slices_agree c.args.mode.now c.args.root.now.0 c.args.start c.args.len c.args.text.now c.check_slice.result c.check_slice-2.result one.accepted other.accepted one.piece other.piece one.fault other.fault
