use Rattle.std.proofs.Common.{nat_lt}
use Rattle.store_core.proofs.Tells.{mask_unique}
use Rattle.determined_stores.proofs.values.mask_below_determined.Goals as goal

pub returns : goal.returns
returns c = mask_unique c.args.group c.mask_below.result c.mask_below-2.result (λ k. nat_lt k c.args.end) c.mask_below.ensures c.mask_below-2.ensures
