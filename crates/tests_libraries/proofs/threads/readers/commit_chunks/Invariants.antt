use Rattle.store_shared.specs.Seats.{IsSeatOf}
use Rattle.tests_libraries.proofs.threads.readers.commit_chunks.Given as goal

abbrev pub invariant-loop-chunk : goal.invariant-loop-chunk
invariant-loop-chunk g l = IsSeatOf l.assembly l.seat
