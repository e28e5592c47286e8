-- A hash as a part of extended output.
use Rattle.std.specs.Prelude.{◌≡◌, ℕ, List, Option, None, Some, Result, Ok, Err, IfSome}
use Rattle.std.proofs.Common.{ap, sym, subst, ◌∙◌}
use Rattle.b3tree.specs.declared.mode.Mode.{Mode}
use Rattle.b3tree.specs.Hashing.{stream}
use Rattle.bao_files.specs.declared.fault.FileFault.{FileFault}
use Rattle.bao_files.specs.declared.fault.FileFault.TheVariants.{Read, Write, Output, Encoding, Memory}
use Rattle.bao_files.specs.Printed.{OnOutput, OnOutputFault, Prints, digits_line}

-- the 32 bytes at 0 are those at `at`, where that is 0
pub prints_hash : (mode : Mode) (s digits : List ℕ) (at len : ℕ) (old new : Option (List ℕ)) (result : Result Unit FileFault)
    → at ≡ 0 → len ≡ 32 → digits ≡ stream mode s 0 32 → Prints (digits_line digits) old new result
    → Prints (digits_line (stream mode s at len)) old new result
prints_hash mode s digits at len old new result at_is len_is is printed =
    subst (λ (d : List ℕ). Prints (digits_line d) old new result)
    (is ∙ sym (ap (λ (a : ℕ). stream mode s a 32) at_is) ∙ sym (ap (λ (l : ℕ). stream mode s at l) len_is)) printed

-- the same where the bytes may be known
pub prints_known : (mode : Mode) (known : Option (List ℕ)) (remaining : Option (List ℕ)) (digits : List ℕ) (at len : ℕ)
    (old new : Option (List ℕ)) (result : Result Unit FileFault) → at ≡ 0 → len ≡ 32
    → IfSome known (λ s. digits ≡ stream mode s 0 32) → Prints (digits_line digits) old new result
    → IfSome known (λ s. remaining ≡ Some s → Prints (digits_line (stream mode s at len)) old new result)
prints_known mode None remaining digits at len old new result at_is len_is is printed = tt
prints_known mode (Some s) remaining digits at len old new result at_is len_is is printed =
    λ same. prints_hash mode s digits at len old new result at_is len_is is printed

-- what is so in any case
on_fault : {P : Type 0} (fault : FileFault) → P → OnOutputFault fault P
on_fault (Read path) p = tt
on_fault (Write path) p = tt
on_fault Output p = p
on_fault Encoding p = tt
on_fault Memory p = tt

pub on_output : {P : Type 0} (result : Result Unit FileFault) → P → OnOutput result P
on_output (Ok done) p = p
on_output (Err fault) p = on_fault fault p
