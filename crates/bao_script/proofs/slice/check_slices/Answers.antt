use Rattle.bao_script.proofs.Exits.{same_error}
use Rattle.bao_script.proofs.Slicing.{piece_more, refused_at}
use Rattle.bao_script.proofs.slice.check_slices.Goals as goal

pub loop-slice-preserved : goal.loop-slice-preserved
loop-slice-preserved c =
    piece_more c.args.mode.now c.args.root.now.0 c.args.slices.now c.loop-slice.slice-index c.slice-item.result c.loop-slice.pieces.items c.push.new.self.items c.in_ok-piece.piece
    c.loop-slice-test.true c.slice-item.is c.loop-slice.invariant c.in_ok-piece.ensures.piece c.in_ok-push.ensures.items

pub returns-in_err-piece-clause-refused : goal.returns-in_err-piece-clause-refused
returns-in_err-piece-clause-refused c number fault h =
    let refused = c.in_err-piece.ensures.refused number fault (same_error c.from_residual.result c.in_err-piece.field-0.0 _ c.from_residual.ensures.1 h) in
    refused_at c.args.mode.now c.args.root.now.0 c.args.slices.now c.loop-slice.slice-index c.slice-item.result c.loop-slice.pieces.items number fault
    c.loop-slice-test.true c.slice-item.is c.loop-slice.invariant refused.0 refused.1
