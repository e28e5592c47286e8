use Rattle.std.proofs.Common.{[], ◌∷◌, ◌++◌, refl, arith}
use Rattle.bao_check.proofs.Feeding.{part_parted, part_taken}
use Rattle.bao_check.proofs.waiting.push_halves.Goals as goal

pub overflow_add-parent : goal.overflow_add-parent
overflow_add-parent c =
    let p = part_parted c.args.choice.now c.args.waiting.now.items c.args.parent.now c.left_len-left_len.result c.requires.parts c.requires.parent c.left_len-left_len.ensures.value
    c.left_len-left_len.ensures.largest in
    omega (arith, p.middle)

pub push_wanted-requires-clause-fits : goal.push_wanted-requires-clause-fits
push_wanted-requires-clause-fits c =
    let p = part_parted c.args.choice.now c.args.waiting.now.items c.args.parent.now c.left_len-left_len.result c.requires.parts c.requires.parent c.left_len-left_len.ensures.value
    c.left_len-left_len.ensures.largest in
    (omega (arith, p.room), p.middle, p.far_levels)

pub push_wanted-requires-clause-parts : goal.push_wanted-requires-clause-parts
push_wanted-requires-clause-parts c =
    (part_taken c.args.choice.now (c.args.waiting.now.items ++ c.args.parent.now ∷ []) c.args.waiting.now.items c.args.parent.now c.requires.parts refl).waiting
