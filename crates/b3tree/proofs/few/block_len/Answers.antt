use Rattle.std.proofs.Common.{◌*◌, drop, arith, length-drop, length-take}
use Rattle.b3tree.proofs.few.block_len.Goals as goal

pub returns : goal.returns
returns c = λ chunk size.
    let taken = length-take 64 (drop (64 * c.args.k) chunk) in
    let rest = length-drop (64 * c.args.k) chunk in
    omega (arith, taken, rest, c.saturating_sub.ensures, c.min.ensures)
