use Rattle.std.proofs.Common.{◌≡◌, length, refl, arith}
use Rattle.bao_script.proofs.Written.{four_written}
use Rattle.bao_script.proofs.forms.hash.Goals as goal

pub returns : goal.returns
returns c =
    let len : length c.args.words.now ≡ 4 = omega arith in
    (refl, four_written c.args.words.now _ 32 64 64 64 len c.in_ok-number_32.ensures c.in_ok-number_64.ensures c.in_ok-number_64-2.ensures c.in_ok-number_64-3.ensures)
