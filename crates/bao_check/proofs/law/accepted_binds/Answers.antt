use Rattle.bao_check.proofs.Laws as laws
use Rattle.bao_check.proofs.law.accepted_binds.Goals as goal

pub returns : goal.returns
returns c = laws.accepted_binds
