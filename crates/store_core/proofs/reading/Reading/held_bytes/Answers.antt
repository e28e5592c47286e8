use Rattle.std.proofs.lemmas.Bool.Decides.{nat_tests}
use Rattle.std.proofs.Common.{arith, ◌-◌}
use Rattle.std.proofs.lemmas.List.{with_items_is}
use Rattle.store_core.proofs.Loading.{read_all, read_part}
use Rattle.store_core.proofs.reading.Reading.held_bytes.Goals as goal

pub returns-in-Ok-clause-value : goal.returns-in-Ok-clause-value
returns-in-Ok-clause-value c = grind (arith, nat_tests, with_items_is, read_all)

pub returns-in-Err-clause-value : goal.returns-in-Err-clause-value
returns-in-Err-clause-value c = grind (arith, nat_tests, with_items_is, read_part)
