use Rattle.store_core.proofs.Bound as bound
use Rattle.store_core.proofs.law.held_binds.Goals as goal

pub returns-clause-chunk : goal.returns-clause-chunk
returns-clause-chunk c = bound.held_binds

pub returns-clause-byte : goal.returns-clause-byte
returns-clause-byte c = bound.byte_binds

pub returns-clause-length : goal.returns-clause-length
returns-clause-length c = bound.record_binds
