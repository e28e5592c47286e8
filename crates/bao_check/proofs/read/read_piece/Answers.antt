use Rattle.std.proofs.Common.{arith}
use Rattle.bao_check.proofs.read.read_piece.Goals as goal

pub returns-in_err-read_checked : goal.returns-in_err-read_checked
returns-in_err-read_checked g c = grind (arith)
