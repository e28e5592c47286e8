use Rattle.std.proofs.Common.{ℕ, ◌<◌}
use Rattle.bao_windows.specs.Available.{RefusesEnd}
use Rattle.bao_windows.proofs.length.certified_length.Given as goal

abbrev pub invariant-loop-place : goal.invariant-loop-place
invariant-loop-place g l = (place : ℕ) → place < l.place → RefusesEnd g.S.Source.contents g.S.Source.faultless l.wanted l.sources place
