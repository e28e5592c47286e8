use Rattle.std.proofs.Common.{ℕ, ◌-◌, ◌<◌, ◌≤◌}
use Rattle.bao_text.specs.Cut.{slice_len}
use Rattle.berylwool.proofs.fronts.front_len.Given as goal

-- the largest such part is among these
pub record Between (total start len at part most : ℕ) : Type 0 where
  pub order : part ≤ most
  pub within : most ≤ len
  pub before : slice_len total start part ≤ at
  pub beyond : (more : ℕ) → most < more → more ≤ len → at < slice_len total start more

abbrev pub invariant-search : goal.invariant-search
invariant-search l = Between l.total l.start l.len l.at l.part l.most

abbrev pub decreases-search : goal.decreases-search
decreases-search l = l.most - l.part
