use Rattle.std.proofs.Common.{arith, below_more}
use Rattle.bao_windows.specs.Available.{RefusesEnd}
use Rattle.bao_windows.proofs.length.certified_length.Goals as goal

pub loop-place-preserved : goal.loop-place-preserved
loop-place-preserved g c =
    below_more (λ place. RefusesEnd g.S.Source.contents g.S.Source.faultless c.args.wanted.now c.args.sources.now place) c.loop-place.place c.loop-place.invariant
    (c.in-Ok-None.ensures.refused c.in-Ok-None.field-0-is)

pub returns-clause-missing : goal.returns-clause-missing
returns-clause-missing g c = λ _ place below. c.loop-place.invariant place (omega (arith, below, c.loop-place-test.false))
