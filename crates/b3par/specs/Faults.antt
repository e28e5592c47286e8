-- The numbers of the faults.
use Rattle.std.specs.Prelude.{ℕ}
use Rattle.b3par.specs.declared.fault.ReadFault.{ReadFault}
use Rattle.b3par.specs.declared.fault.ReadFault.TheVariants.{Memory, Reader}

abbrev pub number_of : ReadFault → ℕ
number_of Memory = 311
number_of Reader = 312
