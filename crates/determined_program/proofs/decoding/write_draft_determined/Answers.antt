use Rattle.determined_program.proofs.Drafts.{drafts_agree, drafts_written}
use Rattle.determined_program.proofs.decoding.write_draft_determined.Goals as goal

pub returns : goal.returns
returns g c =
    let mode = c.args.mode.now in
    let root = c.args.root.now.0 in
    let part = c.args.part.now in
    let ours = g.S.Source.contents c.args.our_text.now in
    let theirs = g.T.Source.contents c.args.their_text.now in
    let our_faultless = g.S.Source.faultless c.args.our_text.now in
    let their_faultless = g.T.Source.faultless c.args.their_text.now in
    let old = g.V.Write.contents c.args.ours.now in
    let also = g.W.Write.contents c.args.theirs.now in
    let a = g.V.Write.contents c.write_draft-one.new.out in
    let b = g.W.Write.contents c.write_draft-other.new.out in
    let r = c.write_draft-one.result in
    let s = c.write_draft-other.result in record {
      answer = drafts_agree mode root part our_faultless their_faultless ours theirs c.args.file c.args.path old also a b r s c.requires.contents c.write_draft-one.ensures.known
          c.write_draft-other.ensures.known;
      written = drafts_written mode root part our_faultless their_faultless ours theirs c.args.file c.args.path old also a b r s c.requires.contents c.requires.same
          c.write_draft-one.ensures.known c.write_draft-other.ensures.known;
    }
