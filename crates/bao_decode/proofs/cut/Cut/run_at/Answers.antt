use Rattle.std.proofs.Common.{rules, ◌≡◌, ◌-◌, ℕ, [], subst, arith}
use Rattle.std.proofs.lemmas.Result.{IfErr-weaker, IfOk-weaker}
use Rattle.bao_decode.specs.Cutting.{GoesOn, cut_as}
use Rattle.bao_decode.proofs.Cuttings.{found_goes, found_none, header_goes, ok_none, ok_some, paired}
use Rattle.bao_decode.proofs.cut.Cut.run_at.Goals as goal

pub returns-then-at-lt-HEADER_LEN-clause-some : goal.returns-then-at-lt-HEADER_LEN-clause-some
returns-then-at-lt-HEADER_LEN-clause-some g c = λ s.
    let it = c.args.self.now in
    let from : c.args.at ≡ c.from-at.result = search rules in
    subst (λ (k : ℕ). GoesOn s (cut_as it.total it.start it.len s) c.args.at k (8 - k)) from (header_goes it.total it.start it.len s c.args.at (omega (arith, from, c.if-at-lt-HEADER_LEN.true)))

pub returns-clause-some : goal.returns-clause-some
returns-clause-some g c =
    let it = c.args.self.now in
    let from : c.from-at.result ≡ c.args.at = search rules in
    ok_some _ c.find.result c.ok.result c.ok.ensures.value
    (IfOk-weaker c.find.result _ _ (λ run both s. found_goes c.of_slice-choice.result it.total it.start it.len s c.args.at c.from-at.result run.at run.len c.of_slice-choice.ensures from
    (omega (arith, c.if-at-lt-HEADER_LEN.false)) both.1.0 (both.0 s [] [])) (paired _ _ c.find.result c.find.ensures.found c.find.ensures.within))

pub returns-clause-none : goal.returns-clause-none
returns-clause-none g c =
    let it = c.args.self.now in
    let from : c.from-at.result ≡ c.args.at = search rules in
    ok_none _ c.find.result c.ok.result c.ok.ensures.value
    (IfErr-weaker c.find.result _ _ (λ rest after s. found_none c.of_slice-choice.result it.total it.start it.len s c.args.at c.from-at.result rest c.of_slice-choice.ensures from
    (omega (arith, c.if-at-lt-HEADER_LEN.false)) (after [])) c.find.ensures.after)
