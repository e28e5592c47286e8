-- The number of each fault.
use Rattle.std.specs.Prelude.{ℕ}
use Rattle.store_core.specs.declared.fault.ReplayFault.{ReplayFault}
use Rattle.store_core.specs.declared.fault.ReplayFault.TheVariants as unreplayed
use Rattle.store_core.specs.declared.fault.ServeFault.{ServeFault}
use Rattle.store_core.specs.declared.fault.ServeFault.TheVariants as refused
use Rattle.store_core.specs.declared.fault.StepFault.{StepFault}
use Rattle.store_core.specs.declared.fault.StepFault.TheVariants as untaken
use Rattle.store_core.specs.declared.fault.StoreFault.{StoreFault}
use Rattle.store_core.specs.declared.fault.StoreFault.TheVariants.{Memory, NoGroup, OtherLength, OtherRoot}

abbrev pub number_of : StoreFault → ℕ
number_of Memory = 701
number_of NoGroup = 803
number_of OtherRoot = 804
number_of OtherLength = 807

abbrev pub serve_number_of : ServeFault → ℕ
serve_number_of refused.NoLength = 808
serve_number_of (refused.Lacking node) = 809
serve_number_of refused.Memory = 810

abbrev pub replay_number_of : ReplayFault → ℕ
replay_number_of unreplayed.Memory = 701
replay_number_of (unreplayed.Illegal step) = 702
replay_number_of unreplayed.Capacity = 802

abbrev pub step_number_of : StepFault → ℕ
step_number_of untaken.Memory = 701
step_number_of untaken.Illegal = 702
