use Rattle.determined_program.proofs.Texts.{texts_agree, texts_written}
use Rattle.determined_program.proofs.decoding.write_decoded_determined.Goals as goal

pub returns : goal.returns
returns g c =
    let mode = c.args.mode.now in
    let root = c.args.root.now.0 in
    let part = c.args.part.now in
    let ours = g.S.Source.contents c.args.our_text.now in
    let theirs = g.T.Source.contents c.args.their_text.now in
    let our_faultless = g.S.Source.faultless c.args.our_text.now in
    let their_faultless = g.T.Source.faultless c.args.their_text.now in
    let old = g.V.Write.contents c.args.ours.now in
    let also = g.W.Write.contents c.args.theirs.now in
    let a = g.V.Write.contents c.write_decoded-one.new.out in
    let b = g.W.Write.contents c.write_decoded-other.new.out in
    let r = c.write_decoded-one.result in
    let s = c.write_decoded-other.result in record {
      answer = texts_agree mode root part our_faultless their_faultless ours theirs c.args.file c.args.path old also a b r s c.requires.contents c.write_decoded-one.ensures.known
          c.write_decoded-other.ensures.known;
      written = texts_written mode root part our_faultless their_faultless ours theirs c.args.file c.args.path old also a b r s c.requires.contents c.requires.same
          c.write_decoded-one.ensures.known c.write_decoded-other.ensures.known;
    }
