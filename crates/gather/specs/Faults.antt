-- The number of each fault.
use Rattle.std.specs.Prelude.{ℕ}
use Rattle.gather.specs.declared.fault.FinishFault.{FinishFault}
use Rattle.gather.specs.declared.fault.FinishFault.TheVariants.{Unfinished, NotTheRoot, Memory}

abbrev pub number_of : FinishFault → ℕ
number_of Unfinished = 901
number_of NotTheRoot = 902
number_of Memory = 903
