use Rattle.std.proofs.Common.{◌≡◌, All, length}
use Rattle.b3tree.specs.declared.mode.Mode.{Mode}
use Rattle.bao_text.specs.declared.choice.Choice.{Choice}
use Rattle.b3par.specs.Jobs.{AllThere, IsJobAnswer}
use Rattle.b3par.proofs.pool.collect.Given as goal

abbrev pub invariant-answers : goal.invariant-answers
invariant-answers g l = record {
  len : length l.slots ≡ length l.initial.slots;
  right : (source : g.row.S.Denot) (choice : Choice) (mode : Mode) → All (IsJobAnswer (g.S.Source.contents source) (g.S.Source.faultless source) choice mode) l.fn.answers.items
      → AllThere (IsJobAnswer (g.S.Source.contents source) (g.S.Source.faultless source) choice mode) l.initial.slots
      → AllThere (IsJobAnswer (g.S.Source.contents source) (g.S.Source.faultless source) choice mode) l.slots;
}
