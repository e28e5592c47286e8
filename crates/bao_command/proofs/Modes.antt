-- What a fault of the mode's words leaves, and what a file with a key gives.
use Rattle.std.proofs.Common.{◌≡◌, ◌≢◌, ℕ, List, Bor, Option, None, IfErr, IsErrAnd, Result, Ok, Err, inl, inr, sym, ap, subst, ◌∙◌}
use Rattle.std.proofs.KnownBytes.{Keeps-refl}
use Rattle.bao_files.specs.Disks.{FileState}
use Rattle.bao_files.specs.declared.fault.FileFault.TheVariants as files
use Rattle.bao_command.specs.declared.fault.Fault.{Fault}
use Rattle.bao_command.specs.declared.fault.Fault.TheVariants.{Key, KeyAndContext, KeyFile, KeyFileAndOthers, File, Gather}
use Rattle.bao_command.specs.Effects.{IsRelisted}
use Rattle.bao_tasks.specs.declared.gathered_fault.GatheredFault.{GatheredFault}
use Rattle.bao_command.specs.ModeWords.{IsModeFault}
use Rattle.bao_command.specs.Status.{status_of}
use Rattle.bao_command.specs.Tasks.{Answers, LeavesOf}
use Rattle.bao_request.specs.declared.tasks.Request.{Request}
use Rattle.bao_command.proofs.Telling.{file_refuses_none, usage_refuses_none}

module _ (request : Request) (at : List ℕ → FileState) (old : Option (List ℕ)) where
  -- nothing is printed then
  pub mode_leaves : (fault : Fault) → IsModeFault request.key_file fault → LeavesOf request at at old old fault
  mode_leaves fault (inl is) = subst (LeavesOf request at at old old) (sym is) (Keeps-refl old)
  mode_leaves fault (inr (inl is)) = subst (LeavesOf request at at old old) (sym is) (Keeps-refl old)
  mode_leaves fault (inr (inr (inl is))) = subst (LeavesOf request at at old old) (sym is) (Keeps-refl old)
  mode_leaves fault (inr (inr (inr (inl is)))) = subst (LeavesOf request at at old old) (sym is) (Keeps-refl old)
  mode_leaves fault (inr (inr (inr (inr (inl is))))) = subst (LeavesOf request at at old old) (sym is) (Keeps-refl old)
  mode_leaves fault (inr (inr (inr (inr (inr read))))) = subst (LeavesOf request at at old old) (sym read.1.1) (Keeps-refl old)

  -- so it answers the request
  pub mode_answer : (result : Result Unit Fault) (fault : Fault) → IsErrAnd result (λ e. e ≡ fault) → IsModeFault request.key_file fault
      → Answers request at at old old result
  mode_answer (Ok done) fault is of = absurd is
  mode_answer (Err e) fault is of = subst (LeavesOf request at at old old) (sym is) (mode_leaves fault of)

-- and refuses nothing
pub mode_refuses_none : (named : Option (Bor (List ℕ))) (fault : Fault) → IsModeFault named fault → status_of fault ≢ 1
mode_refuses_none named fault (inl is) one = usage_refuses_none (ap status_of (sym is) ∙ one)
mode_refuses_none named fault (inr (inl is)) one = usage_refuses_none (ap status_of (sym is) ∙ one)
mode_refuses_none named fault (inr (inr (inl is))) one = usage_refuses_none (ap status_of (sym is) ∙ one)
mode_refuses_none named fault (inr (inr (inr (inl is)))) one = usage_refuses_none (ap status_of (sym is) ∙ one)
mode_refuses_none named fault (inr (inr (inr (inr (inl is))))) one = file_refuses_none files.Memory (ap status_of (sym is) ∙ one)
mode_refuses_none named fault (inr (inr (inr (inr (inr read))))) one = file_refuses_none (files.Read read.0) (ap status_of (sym read.1.1) ∙ one)

-- nor is it one of gathering
mode_gathers_none : (named : Option (Bor (List ℕ))) (fault : Fault) (cause : GatheredFault) → IsModeFault named fault → fault ≡ Gather cause None → ⊥
mode_gathers_none named fault cause (inl is) other = let no : Key ≡ Gather cause None = sym is ∙ other in cc
mode_gathers_none named fault cause (inr (inl is)) other = let no : KeyAndContext ≡ Gather cause None = sym is ∙ other in cc
mode_gathers_none named fault cause (inr (inr (inl is))) other = let no : KeyFile ≡ Gather cause None = sym is ∙ other in cc
mode_gathers_none named fault cause (inr (inr (inr (inl is)))) other = let no : KeyFileAndOthers ≡ Gather cause None = sym is ∙ other in cc
mode_gathers_none named fault cause (inr (inr (inr (inr (inl is))))) other = let no : File files.Memory ≡ Gather cause None = sym is ∙ other in cc
mode_gathers_none named fault cause (inr (inr (inr (inr (inr read))))) other = let no : File (files.Read read.0) ≡ Gather cause None = sym read.1.1 ∙ other in cc

pub mode_relists_none : (at after : List ℕ → FileState) (list named : Option (Bor (List ℕ))) (result : Result Unit Fault) (fault : Fault) → IsErrAnd result (λ e. e ≡ fault)
    → IsModeFault named fault → IfErr result (IsRelisted at after list)
mode_relists_none at after list named (Ok done) fault is of = tt
mode_relists_none at after list named (Err e) fault is of = λ cause other apart. absurd (mode_gathers_none named fault cause of (sym is ∙ other))
