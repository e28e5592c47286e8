use Rattle.std.proofs.Common.{◌≡◌, Err, IfErr, refl, sym, ap, subst, ◌∙◌, arith}
use Rattle.std.proofs.lemmas.Result.{err_from_is_err_and}
use Rattle.bao_decode.specs.CopyPass.{StopsShort}
use Rattle.bao_decode.proofs.EncodingPasses.{short_known}
use Rattle.bao_decode.proofs.cut.claimed_length.Goals as goal

pub returns-in_err-count-clause-fault : goal.returns-in_err-count-clause-fault
returns-in_err-count-clause-fault g c =
    let contents = g.S.Source.contents c.args.encoding.now in
    let faultless = g.S.Source.faultless c.args.encoding.now in
    let fault = c.in_err-count.field-0.0 in
    let p = err_from_is_err_and c.from_residual.result c.from_residual.ensures.1 in
    let is : c.from_residual.result ≡ Err fault = p.1 ∙ ap Err p.2 in
    subst (λ r. IfErr r (StopsShort contents faultless)) (sym is) (subst (StopsShort contents faultless) (sym c.in_err-count.ensures.fault.0) c.in_err-count.ensures.fault.1)

pub returns-then-count-lt-LENGTH_LEN-clause-fault : goal.returns-then-count-lt-LENGTH_LEN-clause-fault
returns-then-count-lt-LENGTH_LEN-clause-fault g c =
    let less = c.if-count-lt-LENGTH_LEN.true in
    (refl, short_known (g.S.Source.contents c.args.encoding.now) c.in_ok-count.count (omega (arith, less)) (c.in_ok-count.ensures.end (omega (arith, less, c.fill_most.ensures.size))))
