use Rattle.bao_check.specs.Waiting.{IsAcceptedAs}
use Rattle.determined_texts.proofs.Fed.{one_flag}
use Rattle.determined_texts.proofs.feeding.is_done_determined.Goals as goal

pub returns : goal.returns
returns c task taken a b = one_flag c.is_done.result c.is_done-2.result (IsAcceptedAs task taken) (c.is_done.ensures task taken a) (c.is_done-2.ensures task taken b)
