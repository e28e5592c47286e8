use Rattle.store_core.proofs.ReadLaws as reads
use Rattle.store_core.proofs.law.read_means.Goals as goal

pub returns : goal.returns
returns c = reads.read_means
