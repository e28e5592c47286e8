-- Faults of gathering: which aren't the holders', and the number of each.
use Rattle.std.specs.Prelude.{ℕ}
use Rattle.bao_windows.specs.declared.fault.GatherFault.TheVariants as gather
use Rattle.bao_windows.specs.declared.fault.GatherFault.{GatherFault}
use Rattle.bao_windows.specs.declared.fault.GatherFault.TheVariants.{TooLarge, Unfinished, NotTheRoot, Memory, Starved}

-- memory was refused
abbrev pub IsExcused : GatherFault → Type 0
IsExcused TooLarge = ⊥
IsExcused Unfinished = ⊥
IsExcused NotTheRoot = ⊥
IsExcused Memory = Unit {0}
IsExcused Starved = Unit {0}

abbrev pub number_of_gather : GatherFault → ℕ
number_of_gather gather.TooLarge = 805
number_of_gather gather.Unfinished = 901
number_of_gather gather.NotTheRoot = 902
number_of_gather gather.Memory = 903
number_of_gather gather.Starved = 911
