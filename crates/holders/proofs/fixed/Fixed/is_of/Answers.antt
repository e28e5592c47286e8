use Rattle.holders.proofs.SameRoot.{is_of}
use Rattle.holders.proofs.fixed.Fixed.is_of.Goals as goal

pub returns-then-eq : goal.returns-then-eq
returns-then-eq c = is_of c.args.root.now c.args.self.now.root c.args.mode.now c.args.self.now.mode c.eq.result c.eq-then-eq.result c.if-eq.true c.eq.ensures c.eq-then-eq.ensures
