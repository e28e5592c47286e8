-- What a line says, as the code has it.
use Rattle.std.specs.Prelude.{◌≡◌, ℕ, List, ◌++◌, Option, None, Some, option_to_list, string_bytes}
use Rattle.bao_sums.specs.declared.parsing.SumLine.{SumLine}
use Rattle.bao_sums.specs.Sums.{Says, Sum}

abbrev pub sum_of : SumLine → Sum
sum_of line = record { digest = line.digest.0; path = string_bytes line.path }

abbrev pub found_sum : Option SumLine → Option Sum
found_sum None = None
found_sum (Some line) = Some (sum_of line)

-- what a line says has been added, if it is such a line
abbrev pub AddsLine : List ℕ → List Sum → List Sum → Type 0
AddsLine line old new = (found : Option Sum) × Says line found × (new ≡ old ++ option_to_list found)
