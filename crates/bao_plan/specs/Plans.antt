-- What a plan of the code stands for.
use Rattle.std.specs.Prelude.{length, slice_index}
use Rattle.bao_plan.specs.declared.plan.Plan.{Plan}
use Rattle.bao_plan.specs.Holders.{seen_at}
use Rattle.bao_plan.specs.Sets.{contains}
use Rattle.bao_plan.specs.States.{State}

abbrev pub state_of : Plan → State
state_of p = record {
  policy = p.policy;
  chunks = p.chunks;
  end = p.end;
  is_open = λ c. contains p.missing.runs.items c;
  since = λ u. slice_index p.since.items u;
  count = length p.holders.items;
  holder = λ h. seen_at p.holders.items h;
}
