use Rattle.determined_program.proofs.Readers.{parts_agree, wholes_agree}
use Rattle.determined_program.proofs.reading.read_sized_determined.Goals as goal

pub returns : goal.returns
returns g c =
    let before = g.R.Read.remaining c.args.ours.now in
    let also = g.S.Read.remaining c.args.theirs.now in
    let after = g.R.Read.remaining c.read_sized.new.reader in
    let later = g.S.Read.remaining c.read_sized-2.new.reader in record {
      whole = wholes_agree before also after later c.args.a.now.items c.args.b.now.items c.read_sized.new.bytes.items c.read_sized-2.new.bytes.items c.read_sized.result c.read_sized-2.result
          c.requires.same c.requires.bytes c.read_sized.ensures.read c.read_sized-2.ensures.read c.read_sized.ensures.all c.read_sized-2.ensures.all;
      part = parts_agree before also after later c.args.a.now.items c.args.b.now.items c.read_sized.new.bytes.items c.read_sized-2.new.bytes.items
          c.requires.same c.requires.bytes c.read_sized.ensures.read c.read_sized-2.ensures.read;
    }
