use Rattle.std.specs.Borrow.{Bor}
use Rattle.std.proofs.Common.{◌≡◌, ◌<◌, ℕ, List, [], Some, get_or, length, map, slice_get}
use Rattle.bao_files.specs.Disks.{AreOf}
use Rattle.bao_tasks.proofs.replaying.read_all.Given as goal

abbrev pub invariant-loop-path : goal.invariant-loop-path
invariant-loop-path g l =
    (length l.files.items ≡ l.path-index)
    × ((i : ℕ) (path : Bor (List ℕ)) → i < l.path-index → slice_get l.paths i ≡ Some path → AreOf (g.D.Disk.at l.disk path.now) (get_or (map (λ file. file.items) l.files.items) i []))
