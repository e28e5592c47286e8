use Rattle.std.proofs.Common.{◌++◌}
use Rattle.determined_texts.proofs.Fed.{finishes_agree}
use Rattle.determined_texts.proofs.feeding.finish_determined.Goals as goal

pub returns : goal.returns
returns c task taken a b = finishes_agree task (taken ++ c.args.rest.now) c.finish.result c.finish-2.result (c.finish.ensures task taken a) (c.finish-2.ensures task taken b)
