use Rattle.std.proofs.Common.{◌≡◌, ◌<◌, ℕ, All, length, slice_index_or}
use Rattle.b3tree.specs.declared.mode.Mode.{Mode}
use Rattle.bao_text.specs.declared.choice.Choice.{Choice}
use Rattle.b3par.specs.Jobs.{AllThere, IsJobAnswer}
use Rattle.b3par.proofs.pool.gather.Given as goal

abbrev pub invariant-workers : goal.invariant-workers
invariant-workers g l = record {
  len : length l.slots ≡ length l.initial.slots;
  right : (source : g.row.S.Denot) (choice : Choice) (mode : Mode)
      → ((i : ℕ) (d : _) → i < length l.fn.all.items → All (IsJobAnswer (g.S.Source.contents source) (g.S.Source.faultless source) choice mode) (slice_index_or l.fn.all.items i d).items)
      → AllThere (IsJobAnswer (g.S.Source.contents source) (g.S.Source.faultless source) choice mode) l.initial.slots
      → AllThere (IsJobAnswer (g.S.Source.contents source) (g.S.Source.faultless source) choice mode) l.slots;
}
