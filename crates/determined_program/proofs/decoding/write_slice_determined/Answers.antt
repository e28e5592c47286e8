use Rattle.determined_program.proofs.Texts.{slices_agree, slices_written}
use Rattle.determined_program.proofs.decoding.write_slice_determined.Goals as goal

pub returns : goal.returns
returns g c =
    let mode = c.args.mode.now in
    let root = c.args.root.now.0 in
    let ours = g.S.Source.contents c.args.our_text.now in
    let theirs = g.T.Source.contents c.args.their_text.now in
    let our_faultless = g.S.Source.faultless c.args.our_text.now in
    let their_faultless = g.T.Source.faultless c.args.their_text.now in
    let old = g.V.Write.contents c.args.ours.now in
    let also = g.W.Write.contents c.args.theirs.now in
    let a = g.V.Write.contents c.write_slice-one.new.out in
    let b = g.W.Write.contents c.write_slice-other.new.out in
    let r = c.write_slice-one.result in
    let s = c.write_slice-other.result in record {
      answer = slices_agree mode root c.args.start c.args.len our_faultless their_faultless c.args.file c.args.path old also a b r s ours theirs c.requires.contents
          c.write_slice-one.ensures.known c.write_slice-other.ensures.known;
      written = slices_written mode root c.args.start c.args.len our_faultless their_faultless c.args.file c.args.path old also a b r s ours theirs c.requires.contents c.requires.same
          c.write_slice-one.ensures.known c.write_slice-other.ensures.known;
    }
