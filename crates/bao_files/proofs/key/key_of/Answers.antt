use Rattle.bao_files.proofs.KeyTexts.{given}
use Rattle.bao_files.proofs.key.key_of.Goals as goal

pub returns : goal.returns
returns c =
    given c.args.bytes.now c.without_line_end.result.now c.decoded.result c.without_line_end.ensures.cut c.without_line_end.ensures.rest c.decoded.ensures.value c.decoded.ensures.found
