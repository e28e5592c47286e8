-- A list of ranges of a blob, a line each.
use Rattle.std.specs.Prelude.{ℕ, ◌-◌, List, ◌++◌, codes}
use Rattle.std.specs.List.{flat_map}
use Rattle.std.specs.Fmt.{decimal}
use Rattle.bao_tasks.specs.declared.missing.Span.{Span}

-- the offset and the length of a range
abbrev pub line_of_part : Span → List ℕ
line_of_part part = decimal part.at ++ (codes " " ++ (decimal (part.end - part.at) ++ codes "\n"))

-- the lines of all ranges, in order
abbrev pub lines_of_parts : List Span → List ℕ
lines_of_parts parts = flat_map line_of_part parts
