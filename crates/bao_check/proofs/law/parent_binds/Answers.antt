use Rattle.bao_check.proofs.NodeBinding as binding
use Rattle.bao_check.proofs.law.parent_binds.Goals as goal

pub returns : goal.returns
returns c = binding.parent_binds
