-- What a handle's check in pieces has accepted, and what C sees of it.
use Rattle.std.specs.Prelude.{ℕ, ◌<◌, List, length, IfSome, Option}
use Rattle.bao_check.specs.declared.checking.Checking.{Checking}
use Rattle.bao_check.specs.declared.fault.CheckFault.{CheckFault}
use Rattle.bao_check.specs.Accepted.{slice_nodes}
use Rattle.bao_check.specs.Checking.{HasDecodedAs, HasTakenAs, IsNodeFault, wanted}
use Rattle.bao_check.specs.Waiting.{CheckTask}
use Rattle.berylwool.specs.declared.owned.Held.{Held}
use Rattle.berylwool.specs.Handles.{HasFeed}
use Rattle.berylwool.specs.Status.{IsRefused, IsStatusOf}

-- the handle checks an encoding as this slice, and has accepted these bytes of it
abbrev pub HasFed : Option Held → CheckTask → List ℕ → Type 0
HasFed held task taken = HasFeed (λ check. HasTakenAs check task taken) held

-- the handle checks an encoding as this slice, and has accepted these bytes of it, with these bytes of the blob
-- among them
abbrev pub HasDecoded : Option Held → CheckTask → List ℕ → List ℕ → Type 0
HasDecoded held task taken blob = HasFeed (λ check. HasDecodedAs check task taken blob) held

-- this holds for whatever the check is of, and the bytes that it has accepted
abbrev pub OfTaken : (CheckTask → List ℕ → Type 0) → Checking → Type 0
OfTaken so check = (task : CheckTask) (taken : List ℕ) → HasTakenAs check task taken → so task taken

-- these are fewer bytes than the next node has, if there is one
abbrev pub IsBelowNode : List ℕ → Checking → Type 0
IsBelowNode rest check = IfSome (wanted check) (λ size. length rest < size)

-- the status and the offset are those of the fault for which the encoding's last node is refused
abbrev pub IsNodeRefused : CheckTask → List ℕ → ℕ → ℕ → Type 0
IsNodeRefused task text status at = (fault : CheckFault) × IsStatusOf fault status at × IsNodeFault task text fault

-- the status and the offset are those of the encoding's first fault
abbrev pub IsTextRefused : CheckTask → List ℕ → ℕ → ℕ → Type 0
IsTextRefused task text status at = IsRefused task.mode task.root text (slice_nodes text task.start task.len) status at
