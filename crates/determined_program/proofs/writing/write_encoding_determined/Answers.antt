use Rattle.bao_files.specs.Encoded.{encoding_text}
use Rattle.determined_program.proofs.Writers.{texts_agree}
use Rattle.determined_program.proofs.writing.write_encoding_determined.Goals as goal

pub returns-clause-written : goal.returns-clause-written
returns-clause-written g c =
    texts_agree (encoding_text c.args.mode.now c.args.encoding c.args.bytes.now) (g.V.Write.contents c.args.ours.now) (g.W.Write.contents c.args.theirs.now)
    (g.V.Write.contents c.write_encoding.new.out) (g.W.Write.contents c.write_encoding-2.new.out) c.write_encoding.result c.write_encoding-2.result c.requires
    c.write_encoding.ensures.text c.write_encoding-2.ensures.text c.write_encoding.ensures.err c.write_encoding-2.ensures.err
