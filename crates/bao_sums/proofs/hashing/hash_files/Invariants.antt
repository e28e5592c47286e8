use Rattle.std.proofs.Common.{◌≡◌, All, take}
use Rattle.std.specs.List.{list_all}
use Rattle.bao_sums.specs.Each.{PrintsEach}
use Rattle.bao_sums.specs.Early.{IsHashedEarly}
use Rattle.bao_sums.specs.Hashed.{IsReadingAt, hash_line, is_given, paths_of}
use Rattle.bao_sums.proofs.hashing.hash_files.Given as goal

-- the lines of the files so far were printed; the hashes that were had before are right, except before the first file
abbrev pub invariant-items : goal.invariant-items
invariant-items g l =
    PrintsEach (IsReadingAt (g.D.Disk.faultless l.disk) (g.D.Disk.at l.disk)) (hash_line l.hashing.mode.now l.hashing.names) (take l.index (paths_of l.files))
    (g.O.Write.contents l.initial.out) (g.O.Write.contents l.out) (λ readings. l.whole ≡ list_all is_given readings)
    × All (IsHashedEarly (g.D.Disk.at l.disk) l.hashing.mode.now) l.ahead.early.items
