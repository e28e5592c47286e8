use Rattle.store_core.proofs.Lasting as lasting
use Rattle.store_core.proofs.Tells as tests
use Rattle.store_core.proofs.law.claims_apart.Goals as goal

pub returns-clause-apart : goal.returns-clause-apart
returns-clause-apart c = tests.claims_apart

pub returns-clause-sound : goal.returns-clause-sound
returns-clause-sound c = lasting.legal_is_sound

pub returns-clause-last : goal.returns-clause-last
returns-clause-last c = lasting.claims_last
