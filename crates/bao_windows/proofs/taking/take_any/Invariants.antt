use Rattle.std.proofs.Common.{◌≡◌, ℕ, ◌<◌}
use Rattle.bao_windows.specs.Available.{Refuses}
use Rattle.bao_windows.specs.Windows.{IsInTurn}
use Rattle.bao_windows.proofs.taking.take_any.Given as goal

abbrev pub invariant-loop-turn : goal.invariant-loop-turn
invariant-loop-turn g l = record {
  same : l.slot.bytes.items ≡ l.initial.slot.bytes.items;
  refused : (turn place : ℕ) → turn < l.turn → IsInTurn l.first l.count turn place
      → Refuses g.S.Source.contents g.S.Source.faultless l.wanted l.sources l.part.start l.part.len l.span place;
}
