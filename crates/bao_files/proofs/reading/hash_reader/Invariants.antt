use Rattle.std.proofs.Common.{ℕ, List, ◌<◌, length}
use Rattle.std.specs.Io.KnownBytes.{Consumes}
use Rattle.b3tree.specs.Taken.{Holds}
use Rattle.b3tree.specs.Valid.{AreBytes}
use Rattle.bao_files.proofs.reading.hash_reader.Given as goal

-- the hasher has taken in what the reader gave
abbrev pub invariant-reads : goal.invariant-reads
invariant-reads g l =
    (0 < length l.piece)
    × ((taken : List ℕ) × Consumes (g.R.Read.remaining l.initial.reader) (g.R.Read.remaining l.reader) taken × AreBytes taken × Holds l.hasher l.mode taken)
