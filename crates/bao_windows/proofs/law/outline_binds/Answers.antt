use Rattle.bao_windows.proofs.Outlines as outlines
use Rattle.bao_windows.proofs.law.outline_binds.Goals as goal

pub returns : goal.returns
returns c = outlines.outline_binds
