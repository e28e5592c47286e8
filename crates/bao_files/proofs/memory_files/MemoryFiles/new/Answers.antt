use Rattle.bao_files.proofs.HeldFiles.{empty_held}
use Rattle.bao_files.proofs.memory_files.MemoryFiles.new.Goals as goal

pub returns : goal.returns
returns c = λ path. empty_held c.new.result path c.new.ensures.empty
