use Rattle.std.proofs.Common.{ℕ, ◌+◌, ◌≤◌, string_bytes, ap, ◌∙◌, arith}
use Rattle.bao_script.proofs.Exits.{same_error}
use Rattle.bao_script.proofs.Running.{lines_more, lines_stop, own_pieces, pieces_more}
use Rattle.bao_script.proofs.run.run_lines.Goals as goal

pub loop-line-preserved : goal.loop-line-preserved
loop-line-preserved c =
    let own = c.piece_count-piece.ensures in
    let most : c.piece_count-piece.result ≤ 1 = own_pieces _ _ own in (
      ap (λ (n : ℕ). c.loop-line.piece + n) own ∙ pieces_more c.args.lines.now c.loop-line.line-index c.loop-line.piece _ c.loop-line-test.true c.loop-line.invariant.0,
      omega (arith, c.loop-line.invariant.1, most),
      λ fixed m stands. lines_more fixed c.args.pieces.now m c.args.lines.now c.loop-line.line-index c.loop-line.piece
          (string_bytes c.args.out.now) (string_bytes c.loop-line.out) (string_bytes c.run_line.new.out) c.loop-line.run c.run_line.new.run _
          c.loop-line-test.true c.loop-line.invariant.0 (c.loop-line.invariant.2 fixed m stands)
          (λ n at. c.in_ok-run_line.ensures.ok fixed n at),
    )

pub returns-in_err-run_line-clause-illegal : goal.returns-in_err-run_line-clause-illegal
returns-in_err-run_line-clause-illegal c = λ fixed m number stands h.
    let was = same_error c.from_residual.result c.in_err-run_line.field-0.0 _ c.from_residual.ensures.1 h in
    lines_stop fixed c.args.pieces.now m c.args.lines.now c.loop-line.line-index c.loop-line.piece number (string_bytes c.args.out.now) (string_bytes c.loop-line.out) c.loop-line.run _
    c.loop-line-test.true c.loop-line.invariant.0 (c.loop-line.invariant.2 fixed m stands) (λ n at. c.in_err-run_line.ensures.illegal fixed n number at was)
