use Rattle.store_shared.proofs.OneLine.{in_real_time}
use Rattle.store_shared.proofs.law.calls_in_real_time.Goals as goal

pub returns : goal.returns
returns c = in_real_time
