-- What was printed, as the program tells it, and what its faults leave.
use Rattle.std.proofs.Common.{◌≡◌, ◌≢◌, ◌⊎◌, ℕ, List, Bor, Option, None, Result, Ok, Err, IfErr, IsErrAnd, OnOk, inl, inr, arith, sym, ap, ◌∙◌}
use Rattle.std.specs.Io.KnownBytes.{Appends}
use Rattle.bao_files.specs.Disks.{FileState, KeepsFiles}
use Rattle.bao_files.specs.Printed as file
use Rattle.bao_files.specs.declared.fault.FileFault.{FileFault}
use Rattle.bao_files.specs.declared.fault.FileFault.TheVariants as files
use Rattle.bao_command.specs.declared.fault.Fault.{Fault}
use Rattle.bao_command.specs.declared.fault.Fault.TheVariants.{File, Gather, Root, TooManyFiles}
use Rattle.bao_command.specs.Effects.{IsRelisted}
use Rattle.bao_command.specs.Printed.{CommandPrints, OnPrinted, told_of}
use Rattle.bao_command.specs.Status.{file_status_of, status_of}
use Rattle.bao_command.specs.Tasks.{IfPassed, IsOfFile}
use Rattle.bao_command.specs.Works.{Leaves}

-- a line that was printed, as a fault of the program
pub told_prints : (line : List ℕ) (old new : Option (List ℕ)) (printed : Result Unit FileFault) → file.Prints line old new printed → CommandPrints line old new (told_of printed)
told_prints line old new (Ok done) prints = prints
told_prints line old new (Err fault) prints = prints

pub on_printed : {P : Type 0} (result : Result Unit Fault) → P → OnPrinted result P
on_printed (Ok done) p = p
on_printed (Err fault) p = λ _. p

pub both_printed : (P Q : Type 0) (result : Result Unit Fault) → OnPrinted result P → OnPrinted result Q → OnPrinted result (P × Q)
both_printed P Q (Ok done) p q = (p, q)
both_printed P Q (Err fault) p q = λ is. (p is, q is)

-- what holds of a line that was printed
pub on_line : {P : Type 0} (line : List ℕ) (old new : Option (List ℕ)) (result : Result Unit Fault) → CommandPrints line old new result → (Appends old new line → P) → OnOk result P
on_line line old new (Ok done) prints step = step prints
on_line line old new (Err fault) prints step = tt

pub on_ok : {P : Type 0} (result : Result Unit Fault) → P → OnOk result P
on_ok (Ok done) p = p
on_ok (Err fault) p = tt

-- what was done before a line was printed
pub leaves_after : (at after : List ℕ → FileState) (Did : List ℕ → Type 0) (result : Result Unit Fault) → IfErr result IsOfFile → (bytes : List ℕ) → Did bytes → IfErr result (Leaves at after Did)
leaves_after at after Did (Ok done) of bytes did = tt
leaves_after at after Did (Err fault) of bytes did = inr (of, (bytes, did))

-- a fault of a file is no refusal
pub file_refuses_none : (fault : FileFault) → file_status_of fault ≢ 1
file_refuses_none (files.Read path) is = let bad : 3 ≡ 1 = is in omega arith
file_refuses_none (files.Write path) is = let bad : 3 ≡ 1 = is in omega arith
file_refuses_none files.Output is = let bad : 3 ≡ 1 = is in omega arith
file_refuses_none files.Encoding is = let bad : 4 ≡ 1 = is in omega arith
file_refuses_none files.Memory is = let bad : 4 ≡ 1 = is in omega arith

-- nor is one of the arguments
pub usage_refuses_none : status_of Root ≢ 1
usage_refuses_none is = let bad : 2 ≡ 1 = is in omega arith

pub of_file_refuses_none : (fault : Fault) → IsOfFile fault → status_of fault ≢ 1
of_file_refuses_none fault of is = file_refuses_none of.0 (ap status_of (sym of.1) ∙ is)

pub no_refusal : (P : Type 0) (result : Result Unit Fault) → IfErr result IsOfFile → IfErr result (λ fault. status_of fault ≡ 1 → P)
no_refusal P (Ok done) of = tt
no_refusal P (Err fault) of = λ is. absurd (of_file_refuses_none fault of is)

-- nor one of the arguments
pub file_is_no_usage : (fault : FileFault) → file_status_of fault ≢ 2
file_is_no_usage (files.Read path) is = let bad : 3 ≡ 2 = is in omega arith
file_is_no_usage (files.Write path) is = let bad : 3 ≡ 2 = is in omega arith
file_is_no_usage files.Output is = let bad : 3 ≡ 2 = is in omega arith
file_is_no_usage files.Encoding is = let bad : 4 ≡ 2 = is in omega arith
file_is_no_usage files.Memory is = let bad : 4 ≡ 2 = is in omega arith

pub of_file_is_no_usage : (fault : Fault) → IsOfFile fault → status_of fault ≢ 2
of_file_is_no_usage fault of is = file_is_no_usage of.0 (ap status_of (sym of.1) ∙ is)

pub no_usage : (P : Type 0) (result : Result Unit Fault) → IfErr result IsOfFile → IfErr result (λ fault. status_of fault ≡ 2 → P)
no_usage P (Ok done) of = tt
no_usage P (Err fault) of = λ is. absurd (of_file_is_no_usage fault of is)

-- so that one of the arguments came before anything was done
pub usage_keeps : (at after : List ℕ → FileState) (Did : List ℕ → Type 0) (result : Result Unit Fault) → IfErr result (Leaves at after Did)
    → IfErr result (λ fault. status_of fault ≡ 2 → KeepsFiles at after)
usage_keeps at after Did (Ok done) leaves = tt
usage_keeps at after Did (Err fault) (inl kept) = λ is. kept
usage_keeps at after Did (Err fault) (inr did) = λ is. absurd (of_file_is_no_usage fault did.0 is)

-- it is one of a file, whatever else it may be
pub of_file_or : (P : Fault → Type 0) (result : Result Unit Fault) → IfErr result IsOfFile → IfErr result (λ fault. IsOfFile fault ⊎ P fault)
of_file_or P (Ok done) of = tt
of_file_or P (Err fault) of = inl of

-- nor is one with another status
pub other_status : (P : Type 0) (result : Result Unit Fault) (fault : Fault) → IsErrAnd result (λ e. e ≡ fault) → status_of fault ≢ 1 → IfErr result (λ e. status_of e ≡ 1 → P)
other_status P (Ok done) fault is none = tt
other_status P (Err e) fault is none = λ one. absurd (none (ap status_of (sym is) ∙ one))

-- it is no fault of gathering
pub not_relisted : (at after : List ℕ → FileState) (list : Option (Bor (List ℕ))) (result : Result Unit Fault) → IfErr result IsOfFile → IfErr result (IsRelisted at after list)
not_relisted at after list (Ok done) of = tt
not_relisted at after list (Err fault) of = λ cause is apart. absurd (let no : File of.0 ≡ Gather cause None = sym of.1 ∙ is in cc)

-- what holds in any case
pub always_passed : (P : Type 0) (result : Result Unit Fault) → P → IfPassed result P
always_passed P (Ok done) p = p
always_passed P (Err fault) p = λ one. p

-- or since more files are refused with 2
pub few_passed : (P Many : Type 0) (result : Result Unit Fault) → ¬ P → (Many → IsErrAnd result (λ fault. fault ≡ TooManyFiles)) → IfPassed result ((¬ P) × ¬ Many)
few_passed P Many (Ok done) past many = (past, λ is. many is)
few_passed P Many (Err fault) past many = λ one. (past, λ is. let bad : 2 ≡ 1 = sym (ap status_of (many is)) ∙ one in omega arith)

pub range_passed : (P Many Fits : Type 0) (result : Result Unit Fault) → ¬ Many → (Fits → ¬ P) → IfErr result (λ fault. status_of fault ≢ 1) → OnOk result Fits → IfPassed result ((¬ P) × ¬ Many)
range_passed P Many Fits (Ok done) few step none fits = (step fits, few)
range_passed P Many Fits (Err fault) few step none fits = λ one. absurd (none one)

pub passed_of : (P Q : Type 0) (result : Result Unit Fault) → (P → Q) → IfPassed result P → IfPassed result Q
passed_of P Q (Ok done) step p = step p
passed_of P Q (Err fault) step p = λ one. step (p one)

pub never_passed : (P : Type 0) (result : Result Unit Fault) (fault : Fault) → IsErrAnd result (λ e. e ≡ fault) → status_of fault ≢ 1 → IfPassed result P
never_passed P (Ok done) fault is none = absurd is
never_passed P (Err e) fault is none = λ one. absurd (none (ap status_of (sym is) ∙ one))
