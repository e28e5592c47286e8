-- the lines that `--verbose` prints
use Rattle.std.specs.Prelude.{ℕ, ◌-◌, List, ◌++◌, codes}
use Rattle.std.specs.Fmt.{decimal}
use Rattle.bao_tasks.specs.declared.missing.MissingParts.{MissingParts}
use Rattle.bao_tasks.specs.declared.missing.Span.{Span}
use Rattle.bao_tasks.specs.declared.worth.Worth.{Worth}

-- how many groups of a file are refused
abbrev pub worth_line : List ℕ → Worth → List ℕ
worth_line file worth =
    codes "bao_gather: " ++ (file ++ (codes ": " ++ (decimal worth.refused ++ (codes " of " ++ (decimal worth.groups ++ codes " groups of 64 KiB refused\n")))))

-- a range that no file has: its first and its last byte
abbrev pub part_line : Span → List ℕ
part_line part = codes "bao_gather: missing: bytes " ++ (decimal part.at ++ (codes " to " ++ (decimal (part.end - 1) ++ codes "\n")))

-- how many bytes no file has, of how many, and in how many ranges
abbrev pub parts_line : MissingParts → List ℕ
parts_line parts =
    codes "bao_gather: missing: " ++ (decimal parts.bytes ++ (codes " of " ++ (decimal parts.looked ++ (codes " bytes, ranges: " ++ (decimal parts.count ++ codes "\n")))))

-- no file certifies the length by which these are known
abbrev pub claimed_line : MissingParts → List ℕ
claimed_line parts = codes "bao_gather: missing: the length isn't certified yet: " ++ (decimal parts.total ++ codes " bytes are claimed\n")

-- only the first bytes of the blob were looked for
abbrev pub unlooked_line : MissingParts → List ℕ
unlooked_line parts =
    codes "bao_gather: missing: not looked for: bytes from " ++ (decimal parts.looked ++ (codes " on, of " ++ (decimal parts.total ++ codes "\n")))

-- a file ends too early, goes on past the end, or is damaged at one of its own bytes
abbrev pub short_line : List ℕ → ℕ → List ℕ
short_line file at = codes "bao_gather: " ++ (file ++ (codes ": too short: ends within what begins at its byte " ++ (decimal at ++ codes "\n")))

abbrev pub long_line : List ℕ → ℕ → List ℕ
long_line file at = codes "bao_gather: " ++ (file ++ (codes ": too long: bytes follow its first " ++ (decimal at ++ codes "\n")))

abbrev pub damage_line : List ℕ → ℕ → List ℕ
damage_line file at = codes "bao_gather: " ++ (file ++ (codes ": damaged at its byte " ++ (decimal at ++ codes "\n")))

-- it is damaged in the chunk with these bytes of the blob, or in a parent over them
abbrev pub chunk_line : List ℕ → Span → List ℕ
chunk_line file bytes =
    codes "bao_gather: " ++ (file ++ (codes ": damaged at bytes " ++ (decimal bytes.at ++ (codes " to " ++ (decimal (bytes.end - 1) ++ codes " of the blob\n")))))

abbrev pub parent_line : List ℕ → Span → List ℕ
parent_line file bytes =
    codes "bao_gather: " ++ (file ++ (codes ": damaged parent over bytes " ++ (decimal bytes.at ++ (codes " to " ++ (decimal (bytes.end - 1) ++ codes " of the blob\n")))))
