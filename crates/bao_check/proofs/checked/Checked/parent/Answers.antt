use Rattle.std.proofs.Common.{sym, ◌∙◌}
use Rattle.bao_check.proofs.BesidePieces.{piece_parent}
use Rattle.bao_check.proofs.checked.Checked.parent.Goals as goal

pub returns-in-Beside-clause-value : goal.returns-in-Beside-clause-value
returns-in-Beside-clause-value c =
    c.parent.ensures.value ∙ piece_parent c.args.self.now _ _ c.in-Beside.is c.args.m c.in-Some.at (sym c.parent_at.ensures.value ∙ c.in-Some.is)
