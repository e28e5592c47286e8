use Rattle.std.proofs.Common.{◌-◌, ◌^◌}
use Rattle.bao_check.specs.Waiting.{CheckTask}
use Rattle.determined_texts.proofs.Fed.{none_taken}
use Rattle.determined_texts.proofs.feeding.checking_of_combined_determined.Goals as goal

pub returns : goal.returns
returns c task taken =
    let of : CheckTask = record { mode = c.args.mode.now; root = c.args.root.now.0; start = 0; len = 2 ^ 64 - 1 } in
    let one = c.of_combined-one.ensures.taken in
    let other = c.of_combined-other.ensures.taken in
    (none_taken c.of_combined-one.result c.of_combined-other.result of one other task taken, none_taken c.of_combined-other.result c.of_combined-one.result of other one task taken)
