use Rattle.determined_program.proofs.Copies.{copies_agree, copies_written}
use Rattle.determined_program.proofs.decoding.write_copy_determined.Goals as goal

pub returns : goal.returns
returns g c =
    let o = c.args.outline.now in
    let ours = g.S.Source.contents c.args.our_copy.now in
    let theirs = g.T.Source.contents c.args.their_copy.now in
    let our_faultless = g.S.Source.faultless c.args.our_copy.now in
    let their_faultless = g.T.Source.faultless c.args.their_copy.now in
    let old = g.V.Write.contents c.args.ours.now in
    let also = g.W.Write.contents c.args.theirs.now in
    let a = g.V.Write.contents c.write_copy-one.new.out in
    let b = g.W.Write.contents c.write_copy-other.new.out in
    let r = c.write_copy-one.result in
    let s = c.write_copy-other.result in record {
      answer = copies_agree o our_faultless their_faultless ours theirs c.args.file c.args.path old also a b r s c.requires.contents c.write_copy-one.ensures.known c.write_copy-other.ensures.known;
      written = copies_written o our_faultless their_faultless ours theirs c.args.file c.args.path old also a b r s c.requires.contents c.requires.same
          c.write_copy-one.ensures.known c.write_copy-other.ensures.known;
    }
