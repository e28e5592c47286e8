use Rattle.std.proofs.Common.{◌≡◌, ℕ, Bool, Some, length, slice_get, refl, subst, arith}
use Rattle.std.proofs.lemmas.Option.{slice_get_read, slice_get_within}
use Rattle.bao_tasks.specs.Missing.{HasUnit}
use Rattle.bao_tasks.specs.Worth.{IsSaidOf, JudgesGroup}
use Rattle.bao_tasks.proofs.Gaps.{lacked_more}
use Rattle.bao_tasks.proofs.missing.is_lacked.Goals as goal

pub returns-then-not-branch : goal.returns-then-not-branch
returns-then-not-branch g c =
    let sources = c.args.sources.now in
    let at : ℕ = c.loop-source.source-index in
    let item = c.source-item.result in
    let found : slice_get sources at ≡ Some item = slice_get_read sources (length sources) at item refl c.loop-source-test.true c.source-item.is in
    let had = subst (λ (b : Bool). IsSaidOf (g.S.Source.contents item) (g.S.Source.faultless item) (λ bytes. JudgesGroup b (HasUnit c.args.wanted.now c.args.unit bytes)))
    c.if-not-branch.true c.in_ok-lacks_unit.ensures in
    (at, item, found, had)

pub loop-source-preserved : goal.loop-source-preserved
loop-source-preserved g c =
    let sources = c.args.sources.now in
    let at : ℕ = c.loop-source.source-index in
    let item = c.source-item.result in
    let found : slice_get sources at ≡ Some item = slice_get_read sources (length sources) at item refl c.loop-source-test.true c.source-item.is in
    let lacks = subst (λ (b : Bool). IsSaidOf (g.S.Source.contents item) (g.S.Source.faultless item) (λ bytes. JudgesGroup b (HasUnit c.args.wanted.now c.args.unit bytes)))
    c.if-not-branch.false c.in_ok-lacks_unit.ensures in
    lacked_more g.S.Source.contents g.S.Source.faultless c.args.wanted.now sources c.args.unit at item found lacks c.loop-source.invariant

pub returns : goal.returns
returns g c = λ i source found.
    c.loop-source.invariant i source (omega (arith, slice_get_within c.args.sources.now i source found, c.loop-source-test.false)) found
