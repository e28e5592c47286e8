use Rattle.std.proofs.Common.{◌≡◌, length, refl, arith}
use Rattle.bao_script.proofs.Written.{three_written}
use Rattle.bao_script.proofs.forms.load.Goals as goal

pub returns : goal.returns
returns c =
    let len : length c.args.words.now ≡ 3 = omega arith in
    (refl, three_written c.args.words.now _ 32 64 32 len c.in_ok-number_32.ensures c.in_ok-number_64.ensures c.in_ok-number_32-2.ensures)
