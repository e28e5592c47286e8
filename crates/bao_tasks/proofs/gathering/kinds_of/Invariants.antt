use Rattle.std.specs.Borrow.{Bor}
use Rattle.std.proofs.Common.{◌≡◌, ◌<◌, ℕ, List, Some, length, slice_get}
use Rattle.bao_files.specs.Disks.{IsStored}
use Rattle.bao_tasks.specs.FromFiles.{is_regular}
use Rattle.bao_tasks.proofs.gathering.kinds_of.Given as goal

abbrev pub invariant-loop-place : goal.invariant-loop-place
invariant-loop-place g l =
    (length l.kinds.items ≡ l.place)
    × ((i : ℕ) (path : Bor (List ℕ)) → i < l.place → slice_get l.paths i ≡ Some path → IsStored (g.D.Disk.at l.disk path.now) → slice_get l.kinds.items i ≡ Some (is_regular path.now))
