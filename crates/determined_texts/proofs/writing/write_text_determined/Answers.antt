use Rattle.determined_texts.proofs.Sent.{written_alike}
use Rattle.determined_texts.proofs.writing.write_text_determined.Goals as goal

pub returns : goal.returns
returns g c =
    let one = c.write_text.ensures in
    let other = c.write_text-2.ensures in
    written_alike (g.W.Write.contents c.args.a.now) (g.W.Write.contents c.args.b.now) (g.W.Write.contents c.write_text.new.out) (g.W.Write.contents c.write_text-2.new.out) c.args.text.now
    c.write_text.result c.write_text-2.result c.requires one.text one.err one.no_memory other.text other.err other.no_memory
