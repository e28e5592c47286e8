use Rattle.std.proofs.Common.{sym, ◌≡◌, ◌∙◌}
use Rattle.b3tree.specs.declared.values.Hash.{Hash}
use Rattle.b3tree.specs.Hashing.{hash}
use Rattle.bao_text.specs.Texts.{combined_text}
use Rattle.determined_texts.proofs.Sent.{answers_alike, held_alike, hashes_alike}
use Rattle.determined_texts.proofs.Values.{same_hash}
use Rattle.determined_texts.proofs.writing.write_combined_determined.Goals as goal

pub returns-clause-hash : goal.returns-clause-hash
returns-clause-hash g c =
    hashes_alike (hash c.args.mode.now c.args.bytes.now) c.write_combined.result c.write_combined-2.result c.write_combined.ensures.hash c.write_combined-2.ensures.hash

pub returns-clause-contents : goal.returns-clause-contents
returns-clause-contents g c =
    let one = c.write_combined.ensures in
    let other = c.write_combined-2.ensures in
    held_alike (g.W.Write.contents c.args.a.now) (g.W.Write.contents c.args.b.now) (g.W.Write.contents c.write_combined.new.out) (g.W.Write.contents c.write_combined-2.new.out)
    (combined_text c.args.mode.now c.args.bytes.now) c.write_combined.result c.write_combined-2.result c.requires one.text one.err other.text other.err

pub returns-clause-answer : goal.returns-clause-answer
returns-clause-answer g c =
    let one = c.write_combined.ensures in
    let other = c.write_combined-2.ensures in
    answers_alike (λ (h : Hash). h.0 ≡ hash c.args.mode.now c.args.bytes.now) (g.W.Write.contents c.args.a.now) (g.W.Write.contents c.args.b.now) (g.W.Write.contents c.write_combined.new.out)
    (g.W.Write.contents c.write_combined-2.new.out) (combined_text c.args.mode.now c.args.bytes.now) c.write_combined.result c.write_combined-2.result
    (λ x y p q. same_hash x y (p ∙ sym q)) one.hash other.hash c.requires one.text one.err other.text other.err
