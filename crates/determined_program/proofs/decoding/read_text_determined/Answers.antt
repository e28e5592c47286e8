use Rattle.bao_decode.specs.Ranges.{IsFileFault}
use Rattle.determined_program.proofs.Files.{answers_agree, file_apart, one_file_fault}
use Rattle.determined_program.proofs.decoding.read_text_determined.Goals as goal

pub returns : goal.returns
returns g c =
    let mode = c.args.mode.now in
    let root = c.args.root.now.0 in
    answers_agree mode root c.args.start c.args.len (IsFileFault mode root c.args.start c.args.len) (file_apart mode root c.args.start c.args.len) (one_file_fault mode root c.args.start c.args.len)
    (g.R.Read.remaining c.args.ours.now) (g.S.Read.remaining c.args.theirs.now) c.read_text-one.result c.read_text-other.result c.requires.same
    c.read_text-one.ensures.piece c.read_text-other.ensures.piece c.read_text-one.ensures.whole c.read_text-other.ensures.whole c.is_accepted.ensures c.is_accepted-2.ensures
    c.read_text-one.ensures.fault c.read_text-other.ensures.fault
