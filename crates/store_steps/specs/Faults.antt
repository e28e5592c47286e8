-- The numbers of the faults.
use Rattle.std.specs.Prelude.{ℕ}
use Rattle.store_steps.specs.declared.fault.NewFault.{NewFault}
use Rattle.store_steps.specs.declared.fault.NewFault.TheVariants.{Memory, Capacity}

abbrev pub number_of : NewFault → ℕ
number_of Memory = 801
number_of Capacity = 802
