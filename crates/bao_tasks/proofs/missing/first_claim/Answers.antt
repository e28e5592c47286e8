use Rattle.std.proofs.Common.{ℕ, Option, length, refl, subst, arith}
use Rattle.std.proofs.lemmas.Option.{slice_get_read, slice_get_within}
use Rattle.bao_tasks.specs.Missing.{JudgesClaim}
use Rattle.bao_tasks.specs.Worth.{IsSaidOf}
use Rattle.bao_tasks.proofs.Claims.{claims_more}
use Rattle.bao_tasks.proofs.missing.first_claim.Goals as goal

pub returns-in-Some : goal.returns-in-Some
returns-in-Some g c =
    let sources = c.args.sources.now in
    let at : ℕ = c.loop-source.source-index in
    let item = c.source-item.result in
    record {
      place = at;
      source = item;
      there = slice_get_read sources (length sources) at item refl c.loop-source-test.true c.source-item.is;
      claims = subst (λ (o : Option ℕ). IsSaidOf (g.S.Source.contents item) (g.S.Source.faultless item) (λ text. JudgesClaim c.args.wanted.now text o)) c.in-Some.is c.in_ok-total.ensures;
      before = c.loop-source.invariant;
    }

pub loop-source-preserved : goal.loop-source-preserved
loop-source-preserved g c =
    let sources = c.args.sources.now in
    let at : ℕ = c.loop-source.source-index in
    let item = c.source-item.result in
    claims_more g.S.Source.contents g.S.Source.faultless c.args.wanted.now sources at item (slice_get_read sources (length sources) at item refl c.loop-source-test.true c.source-item.is)
    (subst (λ (o : Option ℕ). IsSaidOf (g.S.Source.contents item) (g.S.Source.faultless item) (λ text. JudgesClaim c.args.wanted.now text o)) c.in-None.is c.in_ok-total.ensures) c.loop-source.invariant

pub returns : goal.returns
returns g c = λ k source found.
    c.loop-source.invariant k source (omega (arith, slice_get_within c.args.sources.now k source found, c.loop-source-test.false)) found
