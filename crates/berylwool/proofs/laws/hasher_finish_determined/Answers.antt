use Rattle.std.proofs.Common.{◌∙◌, ℕ, ap, sym}
use Rattle.b3tree.specs.Hashing.{stream}
use Rattle.berylwool.proofs.laws.hasher_finish_determined.Goals as goal

pub returns-clause-output : goal.returns-clause-output
returns-clause-output c = λ first second mode s one other.
    c.bw_hasher_finish.ensures.output first mode s one ∙ ap (λ (n : ℕ). stream mode s c.args.at n) c.requires
    ∙ sym (c.bw_hasher_finish-2.ensures.output second mode s other)
