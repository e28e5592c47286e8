use Rattle.std.proofs.Common.{ℕ, List, ◌-◌, ◌^◌, vec_len}
use Rattle.bao_files.specs.Reading.{AppendsTaken}
use Rattle.bao_files.proofs.input.read_whole.Given as goal

abbrev pub invariant-reads : goal.invariant-reads
invariant-reads g l = (taken : List ℕ) × AppendsTaken (g.R.Read.remaining l.initial.reader) (g.R.Read.remaining l.reader) l.initial.bytes.items l.bytes.items taken

abbrev pub decreases-reads : goal.decreases-reads
decreases-reads g l = 2 ^ 64 - vec_len l.bytes
