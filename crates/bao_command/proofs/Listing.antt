-- What a fault leaves of the list.
use Rattle.std.proofs.Common.{◌≡◌, ◌≢◌, ◌⊎◌, ℕ, List, Result, Ok, Err, IfErr, inl, inr, refl, ◌∙◌}
use Rattle.b3tree.specs.declared.mode.Mode.{Mode}
use Rattle.bao_files.specs.Disks.{FileState, KeepsFiles}
use Rattle.bao_windows.specs.declared.fault.GatherFault.TheVariants.{Unfinished}
use Rattle.bao_tasks.specs.GatheredFaults.{LooksUnfinished}
use Rattle.bao_tasks.specs.declared.gathered_fault.GatheredFault.{GatheredFault}
use Rattle.bao_tasks.specs.declared.gathered_fault.GatheredFault.TheVariants.{Gather}
use Rattle.bao_tasks.specs.declared.missing.Lack.{Lack}
use Rattle.bao_tasks.specs.declared.missing.Lack.TheVariants.{Unasked}
use Rattle.bao_request.specs.declared.tasks.Request.{Request}
use Rattle.bao_command.specs.declared.fault.Fault.{Fault}
use Rattle.bao_command.specs.Gaps.{LeavesListFor, LeavesListOf}
use Rattle.bao_command.specs.ModeWords.{HasMode}
use Rattle.bao_command.specs.Tasks.{IsOfFile}
use Rattle.bao_command.specs.Works.{Leaves}

-- a fault of a file leaves it in any case
pub list_of_file : (at after : List ℕ → FileState) (Has : Fault → Type 0) (result : Result Unit Fault) → IfErr result IsOfFile
    → IfErr result (λ fault. KeepsFiles at after ⊎ IsOfFile fault ⊎ Has fault)
list_of_file at after Has (Ok done) of = tt
list_of_file at after Has (Err fault) of = inr (inl of)

-- so does a task that has none
pub no_list : (at after : List ℕ → FileState) (Did : List ℕ → Type 0) (result : Result Unit Fault) → IfErr result (Leaves at after Did)
    → IfErr result (λ fault. KeepsFiles at after ⊎ IsOfFile fault)
no_list at after Did (Ok done) leaves = tt
no_list at after Did (Err fault) (inl kept) = inl kept
no_list at after Did (Err fault) (inr did) = inr did.0

pub no_list_kept : (at : List ℕ → FileState) (result : Result Unit Fault) → IfErr result (λ fault. KeepsFiles at at ⊎ IsOfFile fault)
no_list_kept at (Ok done) = tt
no_list_kept at (Err fault) = inl (λ path. refl)

-- what a task leaves of it the request does
pub list_for : (sure : Type 0) (at after : List ℕ → FileState) (request : Request) (mode : Mode) (result : Result Unit Fault) → HasMode at request mode
    → IfErr result (LeavesListOf sure at after mode request.task) → IfErr result (LeavesListFor sure at after request)
list_for sure at after request mode (Ok done) has left = tt
list_for sure at after request mode (Err fault) has left = inr (mode, has, left)

pub list_before : (sure : Type 0) (at : List ℕ → FileState) (request : Request) (result : Result Unit Fault) → IfErr result (LeavesListFor sure at at request)
list_before sure at request (Ok done) = tt
list_before sure at request (Err fault) = inl (λ path. refl)

-- nothing was looked for unless the blob stayed unfinished
pub not_looked : (result : Result ℕ GatheredFault) (fault : GatheredFault) (old new : Lack) → result ≡ Err fault → LooksUnfinished result old new → old ≡ Unasked
    → fault ≢ Gather Unfinished → new ≡ Unasked
not_looked result fault old new is (inl left) none other = absurd (other cc)
not_looked result fault old new is (inr (inl same)) none other = same ∙ none
not_looked result fault old new is (inr (inr unasked)) none other = unasked
