use Rattle.std.proofs.Common.{◌≡◌, ◌-◌, ◌*◌, List, ℕ, length, drop, min, arith, length-drop}
use Rattle.std.proofs.lemmas.List.{take_min}
use Rattle.b3tree.proofs.chunk.block.Goals as goal

pub returns-clause-bytes : goal.returns-clause-bytes
returns-clause-bytes c =
    let rest : List ℕ = drop (64 * c.args.k) c.args.chunk.now in
    let size : length rest ≡ length c.args.chunk.now - 64 * c.args.k = length-drop (64 * c.args.k) c.args.chunk.now in
    let len : c.min-end.result - 64 * c.args.k ≡ min 64 (length rest) = omega arith in
    rw len (take_min 64 rest)
