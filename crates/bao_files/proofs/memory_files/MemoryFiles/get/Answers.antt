use Rattle.std.proofs.Common.{ap, sym, ◌∙◌}
use Rattle.std.specs.Option.{option_copied}
use Rattle.bao_files.specs.Disks.{Stored}
use Rattle.bao_files.specs.HeldFiles.{state_of}
use Rattle.bao_files.proofs.memory_files.MemoryFiles.get.Goals as goal

pub returns-in-Some-clause-some : goal.returns-in-Some-clause-some
returns-in-Some-clause-some c =
    ap state_of (sym c.get.ensures.value ∙ ap option_copied c.in-Some.is) ∙ ap Stored (sym c.as_slice.ensures.value)

pub returns-in-None-clause-none : goal.returns-in-None-clause-none
returns-in-None-clause-none c = λ _. ap state_of (sym c.get.ensures.value ∙ ap option_copied c.in-None.is)
