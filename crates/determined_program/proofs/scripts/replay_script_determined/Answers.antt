use Rattle.std.proofs.Common.{map}
use Rattle.holders.specs.declared.fixed.Fixed.{Fixed}
use Rattle.determined_program.proofs.ScriptRuns.{runs_agree}
use Rattle.determined_program.proofs.scripts.replay_script_determined.Goals as goal

pub returns : goal.returns
returns c =
    let fixed : Fixed = record { root = c.args.root; mode = c.args.mode; capacity = c.args.capacity; base = 0 } in
    let one = c.replay_script-one.ensures in
    let other = c.replay_script-other.ensures in
    runs_agree (λ text. text.items) fixed (map (λ file. file.items) c.args.files.now) c.args.script.now c.replay_script-one.result c.replay_script-other.result
    (record { printed = one.printed; illegal = one.illegal; refused = one.refused; capacity = one.capacity; within = one.within; illegal_within = one.illegal_within })
    (record { printed = other.printed; illegal = other.illegal; refused = other.refused; capacity = other.capacity; within = other.within; illegal_within = other.illegal_within })
