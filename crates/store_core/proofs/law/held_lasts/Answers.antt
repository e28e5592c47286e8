use Rattle.store_core.proofs.Lasting as lasting
use Rattle.store_core.proofs.law.held_lasts.Goals as goal

pub returns-clause-held : goal.returns-clause-held
returns-clause-held c = lasting.held_lasts

pub returns-clause-recorded : goal.returns-clause-recorded
returns-clause-recorded c = lasting.record_lasts
