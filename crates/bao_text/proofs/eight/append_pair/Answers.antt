use Rattle.std.proofs.Common.{◌≡◌, ◌+◌, ◌-◌, ◌∙◌, arith}
use Rattle.std.proofs.lemmas.List.{append_assoc}
use Rattle.bao_text.proofs.eight.append_pair.Goals as goal

pub returns-in_ok-extend : goal.returns-in_ok-extend
returns-in_ok-extend c =
    let size : c.args.at + 2048 - c.args.at ≡ 2048 = omega arith in
    c.in_ok-extend.ensures.ok ∙ rw (c.in_ok-append_parent.ensures, c.if-choice.true, size) (simp append_assoc)
