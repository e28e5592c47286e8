use Rattle.determined_program.proofs.WindowBlobs.{one_length}
use Rattle.determined_program.proofs.windows.certified_length_of_known.Goals as goal

pub returns : goal.returns
returns g c =
    one_length g.S.Source.contents g.S.Source.faultless c.args.wanted.now c.args.sources.now c.requires c.certified_length.result c.certified_length-2.result
    c.certified_length.ensures.certified c.certified_length-2.ensures.certified c.certified_length.ensures.missing c.certified_length-2.ensures.missing
