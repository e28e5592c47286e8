use Rattle.store_shared.specs.Seats.{IsSeatOf}
use Rattle.tests_libraries.proofs.threads.readers.watch.Given as goal

abbrev pub invariant-loop-round : goal.invariant-loop-round
invariant-loop-round g l = IsSeatOf l.assembly l.seat
