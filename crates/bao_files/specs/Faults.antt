-- the numbers of the faults whose text has one
use Rattle.std.specs.Prelude.{ℕ, Option, None, Some}
use Rattle.bao_files.specs.declared.fault.FileFault.{FileFault}
use Rattle.bao_files.specs.declared.fault.FileFault.TheVariants.{Read, Write, Output, Encoding, Memory}

abbrev pub number_of : FileFault → Option ℕ
number_of (Read path) = None
number_of (Write path) = None
number_of Output = None
number_of Encoding = Some 401
number_of Memory = None
