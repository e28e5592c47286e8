use Rattle.std.proofs.Common.{◌≡◌, ◌++◌, ℕ, List, [], take, IfErr, IfSome, Err, refl, sym, ap, subst, ◌∙◌, arith}
use Rattle.std.proofs.KnownBytes.{Appends-nil, Appends-trans}
use Rattle.std.proofs.lemmas.Result.{err_from_is_err_and}
use Rattle.bao_decode.specs.declared.copy_pass.PassFault.{PassFault}
use Rattle.bao_decode.specs.CopyPass.{PassStops}
use Rattle.bao_decode.proofs.CopyPasses.{begun_all, begun_more, begun_none, output_known, stops_known, wrote_part}
use Rattle.bao_decode.proofs.copy_pass.copy_pass.Goals as goal

pub pieces-init : goal.pieces-init
pieces-init g c = record {
  room = refl;
  within = omega arith;
  begun = ([], begun_none (g.S.Source.contents c.args.copy.now) c.args.outline.now, Appends-nil (g.W.Write.contents c.args.out.now));
}

pub returns-in_err-len-clause-err : goal.returns-in_err-len-clause-err
returns-in_err-len-clause-err g c =
    let contents = g.S.Source.contents c.args.copy.now in
    let faultless = g.S.Source.faultless c.args.copy.now in
    let outline = c.args.outline.now in
    let old = g.W.Write.contents c.args.out.now in
    let new = g.W.Write.contents c.pieces.out in
    let fault : PassFault = c.in_err-len.field-0.0 in
    let p = err_from_is_err_and c.from_residual.result c.from_residual.ensures.1 in
    let is : c.from_residual.result ≡ Err fault = p.1 ∙ ap Err p.2 in
    let begun = c.pieces.invariant.begun in
    let stops : IfSome contents (λ s. PassStops outline faultless s old new fault) =
    stops_known contents faultless outline c.pieces.next begun.0 old new fault (omega (arith, c.pieces-test.true, c.chunk_count-chunks.ensures, c.claimed.ensures)) begun.1 begun.2
    c.in_err-len.ensures.fault in
    subst (λ r. IfErr r (λ f. IfSome contents (λ s. PassStops outline faultless s old new f))) (sym is) stops

pub returns-in-Err-clause-err : goal.returns-in-Err-clause-err
returns-in-Err-clause-err g c =
    let contents = g.S.Source.contents c.args.copy.now in
    let faultless = g.S.Source.faultless c.args.copy.now in
    let outline = c.args.outline.now in
    let old = g.W.Write.contents c.args.out.now in
    let mid = g.W.Write.contents c.pieces.out in
    let new = g.W.Write.contents c.write_text.new.out in
    let begun = c.pieces.invariant.begun in
    let part : List ℕ = take c.in_ok-len.len c.read_piece.new.buf in
    output_known contents faultless outline c.pieces.next c.min-count.result begun.0 part old mid new
    (omega (arith, c.min-count.ensures, c.pieces-test.true)) (omega (arith, c.min-count.ensures, c.chunk_count-chunks.ensures, c.claimed.ensures, c.pieces-test.true))
    begun.1 c.in_ok-len.ensures.piece begun.2 (wrote_part mid new part c.in-Err.field-0 c.in-Err.ensures.err)

pub pieces-preserved : goal.pieces-preserved
pieces-preserved g c =
    let contents = g.S.Source.contents c.args.copy.now in
    let outline = c.args.outline.now in
    let old = g.W.Write.contents c.args.out.now in
    let mid = g.W.Write.contents c.pieces.out in
    let new = g.W.Write.contents c.write_text.new.out in
    let begun = c.pieces.invariant.begun in
    let part : List ℕ = take c.in_ok-len.len c.read_piece.new.buf in
    record {
      room = c.read_piece.ensures.size ∙ c.pieces.invariant.room;
      within = omega (arith, c.min-count.ensures, c.pieces-test.true);
      begun = (
        begun.0 ++ part,
        begun_more contents outline c.pieces.next c.min-count.result begun.0 part
            (omega (arith, c.min-count.ensures, c.pieces-test.true)) (omega (arith, c.min-count.ensures, c.chunk_count-chunks.ensures, c.claimed.ensures, c.pieces-test.true))
            begun.1 c.in_ok-len.ensures.piece,
        Appends-trans old mid new begun.0 part begun.2 c.in-Ok.ensures.text,
      );
    }

pub returns-clause-ok : goal.returns-clause-ok
returns-clause-ok g c =
    let contents = g.S.Source.contents c.args.copy.now in
    let outline = c.args.outline.now in
    let begun = c.pieces.invariant.begun in
    let all = begun_all contents outline c.pieces.next begun.0 begun.1 (omega (arith, c.pieces.invariant.within, c.pieces-test.false, c.chunk_count-chunks.ensures, c.claimed.ensures)) in
    (begun.0, all.0, c.claimed-2.ensures ∙ all.1, begun.2)
