use Rattle.bao_command.proofs.Telling.{no_refusal, of_file_or}
use Rattle.bao_command.proofs.commands.hash.Goals as goal

pub returns-clause-due : goal.returns-clause-due
returns-clause-due g c = of_file_or _ c.told.result c.told.ensures.file

pub returns-clause-refused : goal.returns-clause-refused
returns-clause-refused g c = no_refusal ⊥ c.told.result c.told.ensures.file
