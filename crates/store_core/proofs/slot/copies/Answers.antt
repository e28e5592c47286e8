use Rattle.std.proofs.lemmas.Bool.Decides.{nat_tests}
use Rattle.std.proofs.Common.{arith}
use Rattle.store_core.proofs.Choosing.{copies_more}
use Rattle.store_core.proofs.slot.copies.Goals as goal

pub loop-j-preserved : goal.loop-j-preserved
loop-j-preserved c =
    let more = copies_more c.args.base c.args.piece.now c.args.group c.args.mask c.loop-j.j c.loop-j.ready.items c.push.new.self.items c.if-has_bit.slot c.loop-j.invariant in
    grind (arith, nat_tests, more)
