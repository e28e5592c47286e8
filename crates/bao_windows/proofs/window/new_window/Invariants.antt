use Rattle.std.proofs.Common.{◌-◌, vec_len}
use Rattle.bao_windows.proofs.window.new_window.Given as goal

abbrev pub decreases-slots : goal.decreases-slots
decreases-slots l = l.count - vec_len l.window
