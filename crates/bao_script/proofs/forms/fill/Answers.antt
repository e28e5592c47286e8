use Rattle.std.proofs.Common.{◌≡◌, length, refl, arith}
use Rattle.bao_script.proofs.Written.{two_written}
use Rattle.bao_script.proofs.forms.fill.Goals as goal

pub returns : goal.returns
returns c =
    let len : length c.args.words.now ≡ 2 = omega arith in
    (refl, two_written c.args.words.now _ 32 32 len c.in_ok-number_32.ensures c.in_ok-number_32-2.ensures)
