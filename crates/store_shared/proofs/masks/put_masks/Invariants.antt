use Rattle.store_shared.proofs.Claiming.{ArePut}
use Rattle.store_shared.proofs.masks.put_masks.Given as goal

abbrev pub invariant-loop-k : goal.invariant-loop-k
invariant-loop-k l = ArePut l.initial.masks l.others l.k l.masks
