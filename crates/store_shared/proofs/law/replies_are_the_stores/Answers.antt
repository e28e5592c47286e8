use Rattle.store_shared.proofs.Mirroring as mirroring
use Rattle.store_shared.proofs.Uniting as uniting
use Rattle.store_shared.proofs.law.replies_are_the_stores.Goals as goal

pub returns : goal.returns
returns c = record {
  replies = mirroring.replies_are_the_stores;
  joined = uniting.joined_counts_as_one;
  others = uniting.others_count_as_before;
}
