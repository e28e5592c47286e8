use Rattle.std.proofs.Common.{◌≡◌, ℕ, ◌<◌, ◌≢◌, get_or}
use Rattle.store_core.specs.declared.schedule.Player.{Player}
use Rattle.store_core.proofs.schedule.take_player.Given as goal

abbrev pub invariant-loop-i : goal.invariant-loop-i
invariant-loop-i l = (l.players.items ≡ l.initial.players.items) × ((j : ℕ) (d : Player) → j < l.i → (get_or l.initial.players.items j d).number ≢ l.number)
