use Rattle.bao_script.proofs.Ascii.{says_in_utf8}
use Rattle.bao_script.proofs.forms.read_line.Goals as goal

pub returns-in_default : goal.returns-in_default
returns-in_default c line says = c.in_default.ensures.cases.0 (says_in_utf8 c.args.files c.args.line.now line says)
