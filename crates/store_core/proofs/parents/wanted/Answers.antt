use Rattle.std.proofs.lemmas.Bool.Decides.{nat_tests}
use Rattle.std.proofs.Common.{arith}
use Rattle.holders.specs.Pieces.{holds_parent, piece_of}
use Rattle.store_core.proofs.Choosing.{bit_of, up_to_none}
use Rattle.store_core.proofs.parents.wanted.Goals as goal

pub loop-j-init : goal.loop-j-init
loop-j-init c = up_to_none c.args.group _

pub loop-j-preserved : goal.loop-j-preserved
loop-j-preserved c =
    let has = bit_of c.args.group c.held_in-has.result c.loop-j.j (λ m. holds_parent (piece_of 0 c.args.piece.now) m) c.held_in-has.ensures (omega arith) in
    grind (arith, nat_tests, has)
