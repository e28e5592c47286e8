use Rattle.store_shared.specs.Seats.{IsSeatOf}
use Rattle.tests_libraries.proofs.threads.claims.claim_each.Given as goal

abbrev pub invariant-loop-j : goal.invariant-loop-j
invariant-loop-j l = IsSeatOf l.store l.seat
