use Rattle.determined_program.proofs.Readers.{hashes_agree, one_reader_fault}
use Rattle.determined_program.proofs.reading.hash_reader_determined.Goals as goal

pub returns : goal.returns
returns g c = record {
  hash = hashes_agree c.args.mode.now (g.R.Read.remaining c.args.ours.now) (g.S.Read.remaining c.args.theirs.now) c.hash_reader-one.result c.hash_reader-other.result c.finished.result c.finished-2.result
      c.requires.same c.hash_reader-one.ensures.all c.hash_reader-other.ensures.all (c.finished.ensures.hash c.args.mode.now) (c.finished-2.ensures.hash c.args.mode.now);
  fault = one_reader_fault c.hash_reader-one.result c.hash_reader-other.result c.finished.result c.finished-2.result c.hash_reader-one.ensures.fault c.hash_reader-other.ensures.fault
      c.finished.ensures.fault c.finished-2.ensures.fault;
}
