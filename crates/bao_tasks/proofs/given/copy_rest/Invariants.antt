use Rattle.std.proofs.Common.{ℕ, List}
use Rattle.std.specs.Io.KnownBytes.{Appends, Consumes}
use Rattle.bao_tasks.proofs.given.copy_rest.Given as goal

abbrev pub invariant-copies : goal.invariant-copies
invariant-copies g l = (moved : List ℕ) × Consumes (g.I.Read.remaining l.initial.input) (g.I.Read.remaining l.input) moved
    × Appends (g.W.Write.contents l.initial.draft) (g.W.Write.contents l.draft) moved
