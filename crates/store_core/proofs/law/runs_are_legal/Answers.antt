use Rattle.store_core.proofs.OneRun as one
use Rattle.store_core.proofs.Running as running
use Rattle.store_core.proofs.law.runs_are_legal.Goals as goal

pub returns-clause-legal : goal.returns-clause-legal
returns-clause-legal c = running.runs_are_legal

pub returns-clause-one : goal.returns-clause-one
returns-clause-one c = one.runs_are_one
