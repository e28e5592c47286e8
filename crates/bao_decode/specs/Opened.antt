-- What is known of a file that was opened, and of one that wasn't.
use Rattle.std.specs.Borrow.{Bor}
use Rattle.std.specs.Prelude.{◌≡◌, ◌⊎◌, ℕ, List, Option, Some, IfSome, ⊤}
use Rattle.bao_files.specs.Disks.{FileState, Unknown, Absent, Stored}
use Rattle.bao_files.specs.declared.fault.FileFault.TheVariants.{Memory, Read}
use Rattle.bao_decode.specs.declared.decode_fault.DecodeFault.{DecodeFault}
use Rattle.bao_decode.specs.declared.decode_fault.DecodeFault.TheVariants.{File}
use Rattle.bao_decode.specs.declared.origin.Origin.{Origin}
use Rattle.bao_decode.specs.declared.origin.Origin.TheVariants.{Placed, Held}

-- these are the bytes of a file of which nothing was read yet, as far as they are known
abbrev pub IsUnread : Option (List ℕ) → Option (List ℕ) → List ℕ → Type 0
IsUnread contents remaining bytes = IfSome contents (λ s. remaining ≡ Some s → bytes ≡ s)

-- the bytes that are read by position are those of a file that is there, if it is known what is
abbrev pub OpensWith : FileState → Option (List ℕ) → Type 0
OpensWith Unknown contents = ⊤
OpensWith Absent contents = ⊥
OpensWith (Stored s) contents = contents ≡ Some s

-- the bytes that a file has, where they are known, or those that are held of it
abbrev pub origin_contents : {I : Type 0} → (I → Option (List ℕ)) → Origin I → Option (List ℕ)
origin_contents contents (Placed file) = contents file
origin_contents contents (Held bytes) = Some bytes.items

-- no read of it answers a fault
abbrev pub is_origin_faultless : {I : Type 0} → (I → Type 0) → Origin I → Type 0
is_origin_faultless faultless (Placed file) = faultless file
is_origin_faultless faultless (Held bytes) = Unit {0}

-- the file at this path can't be read, or there was no memory to find that out
abbrev pub IsNotThere : Bor (List ℕ) → DecodeFault → Type 0
IsNotThere path fault = (fault ≡ File Memory) ⊎ (fault ≡ File (Read path))
