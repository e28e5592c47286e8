use Rattle.bao_check.proofs.Binding as laws
use Rattle.bao_check.proofs.law.certificate_binds.Goals as goal

pub returns : goal.returns
returns c = laws.certificate_binds
