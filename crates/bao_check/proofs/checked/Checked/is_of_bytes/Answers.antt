use Rattle.bao_check.proofs.BesideBytes.{beside_bytes}
use Rattle.bao_check.specs.Outline.{outline_text}
use Rattle.bao_check.proofs.checked.Checked.is_of_bytes.Goals as goal

pub returns-in-Beside : goal.returns-in-Beside
returns-in-Beside c =
    rw c.in-Beside.is
    (beside_bytes (outline_text c.in-Beside.outline.now) c.args.self.now.start c.args.self.now.len c.in-Beside.chunks.now c.is_of_bytes.ensures c.bytes_are-in-Beside.ensures)
