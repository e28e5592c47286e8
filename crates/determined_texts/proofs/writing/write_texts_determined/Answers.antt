use Rattle.bao_text.specs.Texts.{joined}
use Rattle.determined_texts.proofs.Sent.{written_alike}
use Rattle.determined_texts.proofs.writing.write_texts_determined.Goals as goal

pub returns : goal.returns
returns g c =
    let one = c.write_texts.ensures in
    let other = c.write_texts-2.ensures in
    written_alike (g.W.Write.contents c.args.a.now) (g.W.Write.contents c.args.b.now) (g.W.Write.contents c.write_texts.new.out) (g.W.Write.contents c.write_texts-2.new.out) (joined c.args.texts.now)
    c.write_texts.result c.write_texts-2.result c.requires one.text one.err one.no_memory other.text other.err other.no_memory
