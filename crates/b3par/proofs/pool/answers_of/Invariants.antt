use Rattle.std.proofs.Common.{◌≡◌, All, map}
use Rattle.crossbeam_deque.specs.Handles.{IsPassOf, stealer_deque, view}
use Rattle.b3par.specs.Jobs.{IsJobAnswer}
use Rattle.b3par.proofs.pool.answers_of.Given as goal

abbrev pub invariant-steals : goal.invariant-steals
invariant-steals g l = record {
  table : IsPassOf (stealer_deque l.thief) l.pass;
  right : All (IsJobAnswer (g.S.Source.contents l.source) (g.S.Source.faultless l.source) l.choice l.mode) l.answers.items;
  each : map (λ answer. answer.job) l.answers.items ≡ view l.pass;
}
