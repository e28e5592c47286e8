use Rattle.bao_check.specs.Waiting.{CheckTask}
use Rattle.determined_texts.proofs.Fed.{none_taken}
use Rattle.determined_texts.proofs.feeding.checking_of_slice_determined.Goals as goal

pub returns : goal.returns
returns c task taken =
    let of : CheckTask = record { mode = c.args.mode.now; root = c.args.root.now.0; start = c.args.start; len = c.args.len } in
    let one = c.of_slice-one.ensures.taken in
    let other = c.of_slice-other.ensures.taken in
    (none_taken c.of_slice-one.result c.of_slice-other.result of one other task taken, none_taken c.of_slice-other.result c.of_slice-one.result of other one task taken)
