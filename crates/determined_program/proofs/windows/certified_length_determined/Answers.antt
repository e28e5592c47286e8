use Rattle.bao_windows.specs.Windows.{IsFrom}
use Rattle.determined_program.proofs.WindowBlobs.{claimed_agree, lengths_agree}
use Rattle.determined_program.proofs.windows.certified_length_determined.Goals as goal

pub returns-clause-blob : goal.returns-clause-blob
returns-clause-blob g c =
    lengths_agree c.args.wanted.now c.args.other.now (IsFrom c.args.wanted.now g.S.Source.contents g.S.Source.faultless c.args.sources.now)
    (IsFrom c.args.other.now g.T.Source.contents g.T.Source.faultless c.args.other_sources.now) c.certified_length.result c.certified_length-2.result c.requires.root c.requires.mode
    c.certified_length.ensures.each c.certified_length-2.ensures.each

pub returns-clause-claimed : goal.returns-clause-claimed
returns-clause-claimed g c = λ l ours theirs.
    claimed_agree c.args.wanted.now.form c.args.other.now.form l c.certified_length.result c.certified_length-2.result ours theirs c.certified_length.ensures.of c.certified_length-2.ensures.of
