use Rattle.bao_check.proofs.Laws as laws
use Rattle.bao_check.proofs.law.written_accepted.Goals as goal

pub returns : goal.returns
returns c = laws.written_accepted
