use Rattle.bao_script.proofs.Binding as binding
use Rattle.bao_script.proofs.law.scripts_bind.Goals as goal

pub returns : goal.returns
returns c = binding.scripts_bind
