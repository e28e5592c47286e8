-- The numbers of the faults, and which faults precede the run of a script's steps.
use Rattle.std.specs.Prelude.{ℕ, Option, None, Some}
use Rattle.bao_check.specs.Faults.{number_of as check_number_of}
use Rattle.bao_script.specs.declared.fault.ReplayScriptFault.{ReplayScriptFault}
use Rattle.bao_script.specs.declared.fault.ReplayScriptFault.TheVariants.{Refused, Illegal, Capacity, Cutting, Replaying, Memory}

-- the fault is lack of memory
abbrev pub IsWant : ReplayScriptFault → Type 0
IsWant (Refused line fault) = ⊥
IsWant (Illegal line) = ⊥
IsWant Capacity = ⊥
IsWant Cutting = Unit {0}
IsWant Replaying = ⊥
IsWant Memory = Unit {0}

-- the fault precedes the steps: lack of memory, or a slice that isn't accepted
abbrev pub IsEarly : ReplayScriptFault → Type 0
IsEarly (Refused line fault) = Unit {0}
IsEarly (Illegal line) = ⊥
IsEarly Capacity = ⊥
IsEarly Cutting = Unit {0}
IsEarly Replaying = ⊥
IsEarly Memory = Unit {0}

-- the fault can occur while the steps run
abbrev pub IsLate : ReplayScriptFault → Type 0
IsLate (Refused line fault) = ⊥
IsLate (Illegal line) = Unit {0}
IsLate Capacity = ⊥
IsLate Cutting = ⊥
IsLate Replaying = Unit {0}
IsLate Memory = Unit {0}

-- the number of the fault, if its message has one
abbrev pub script_number_of : ReplayScriptFault → Option ℕ
script_number_of (Refused line fault) = Some (check_number_of fault)
script_number_of (Illegal line) = Some 702
script_number_of Capacity = Some 802
script_number_of Cutting = Some 401
script_number_of Replaying = Some 701
script_number_of Memory = None
