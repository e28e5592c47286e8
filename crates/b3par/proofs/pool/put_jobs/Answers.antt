use Rattle.std.proofs.Common.{◌++◌, ◌∷◌, [], ◌+◌, ap, ◌∙◌, sym, arith}
use Rattle.std.proofs.lemmas.List.FromFn.{map-range_with_len_more}
use Rattle.b3par.specs.Jobs.{job_with}
use Rattle.b3par.proofs.pool.put_jobs.Goals as goal

pub jobs-preserved : goal.jobs-preserved
jobs-preserved c = record {
  index = c.in-Ok.ensures.rule.1 ∙ ap (λ n. n + 1) c.jobs.invariant.index;
  put =
      c.in-Ok.ensures.rule.0.0
      ∙ (λ i. c.jobs.invariant.put i ++ c.job.ensures.value i ∷ [])
      ∙ sym (map-range_with_len_more (job_with c.args.cutting.now.chunks c.args.cutting.now.len) 0 c.jobs.number c.jobs.number (omega arith));
  room = omega (arith, c.jobs.invariant.room, c.push_as.ensures.same.3);
}
