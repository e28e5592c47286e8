use Rattle.bao_check.proofs.BareFound as laws
use Rattle.bao_check.proofs.law.bare_accepted.Goals as goal

pub returns : goal.returns
returns c = laws.bare_accepted
