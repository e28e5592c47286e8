use Rattle.std.proofs.Common.{◌≡◌, ◌*◌, ◌≤◌}
use Rattle.crossbeam_deque.specs.Handles.{worker_capacity, worker_index, worker_view}
use Rattle.b3par.specs.Jobs.{job_count, jobs_below}
use Rattle.b3par.proofs.pool.put_jobs.Given as goal

abbrev pub invariant-jobs : goal.invariant-jobs
invariant-jobs l = record {
  index : worker_index l.owner ≡ l.number;
  put : worker_view l.owner ≡ jobs_below l.cutting.chunks l.cutting.len l.number;
  room : job_count (1024 * l.cutting.chunks) l.cutting.len ≤ worker_capacity l.owner;
}
