use Rattle.determined_program.proofs.Refused.{readings_agree}
use Rattle.determined_program.proofs.scripts.parse_determined.Goals as goal

pub returns : goal.returns
returns c =
    readings_agree c.args.files c.args.text.now c.parse-one.result c.parse-other.result c.parse-one.ensures.script c.parse-other.ensures.script
    c.parse-one.ensures.refused c.parse-other.ensures.refused
