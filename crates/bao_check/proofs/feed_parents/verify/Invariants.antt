use Rattle.bao_check.specs.Verified.{AreGoodFirst}
use Rattle.bao_check.proofs.feed_parents.verify.Given as goal

abbrev pub invariant-parents : goal.invariant-parents
invariant-parents l = AreGoodFirst l.mode l.root.0 l.text l.k
