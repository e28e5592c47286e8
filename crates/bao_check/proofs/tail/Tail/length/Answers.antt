use Rattle.std.proofs.Common.{◌≡◌, ◌+◌, ◌-◌, ℕ, sym, ap, ◌∙◌, arith}
use Rattle.bao_text.specs.Choice.{chunk_count}
use Rattle.bao_text.specs.Cut.{claimed}
use Rattle.bao_check.specs.Checked.{piece_mode, piece_root, piece_text}
use Rattle.bao_check.specs.Tail.{tail_piece}
use Rattle.bao_check.proofs.Certified.{certified}
use Rattle.bao_check.proofs.Tails.{last_certificate}
use Rattle.bao_check.proofs.tail.Tail.length.Goals as goal

pub returns-clause-ends : goal.returns-clause-ends
returns-clause-ends c = λ bytes there.
    let piece = tail_piece c.args.self.now in
    let total : ℕ = c.claimed-length.result in
    let is : total ≡ claimed (piece_text piece) = c.claimed-length.ensures in
    let found = certified (piece_mode piece) (piece_root piece) (piece_text piece) piece.start piece.len piece.accepted (chunk_count total - 1) bytes there in
    let last : chunk_count total - 1 + 1 ≡ chunk_count (claimed (piece_text piece)) = omega (arith, ap chunk_count is) in
    found.ends last ∙ sym is

pub returns-clause-certificate : goal.returns-clause-certificate
returns-clause-certificate c = grind (arith, last_certificate)
