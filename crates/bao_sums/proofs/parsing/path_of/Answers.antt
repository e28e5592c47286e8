use Rattle.std.proofs.Common.{◌∙◌, sym}
use Rattle.bao_files.proofs.Results.{with_right}
use Rattle.bao_sums.proofs.Escapes.{plain_path}
use Rattle.bao_sums.proofs.parsing.path_of.Goals as goal

pub returns-else-parts : goal.returns-else-parts
returns-else-parts c path marked written =
    with_right c.from_slice.result _ (λ bytes is. is ∙ written ∙ plain_path path (sym marked ∙ c.if-parts.false)) c.from_slice.ensures.items
