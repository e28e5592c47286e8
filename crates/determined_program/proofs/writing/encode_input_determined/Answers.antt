use Rattle.std.proofs.Common.{◌≡◌, IfOk, IfSome}
use Rattle.bao_files.specs.Encoded.{Encodes}
use Rattle.determined_program.specs.Files.{IsBeforeWriting, SameWritten}
use Rattle.determined_program.proofs.Writers.{both_inputs, input_encodes, input_hashes}
use Rattle.determined_program.proofs.writing.encode_input_determined.Goals as goal

pub returns : goal.returns
returns g c =
    let mode = c.args.mode.now in
    let kind = c.args.encoding in
    let file = c.args.file in
    let path = c.args.path in
    let old = g.V.Write.contents c.args.ours.now in
    let also = g.W.Write.contents c.args.theirs.now in
    let a = g.V.Write.contents c.encode_input.new.out in
    let b = g.W.Write.contents c.encode_input-2.new.out in
    let r = c.encode_input.result in
    let s = c.encode_input-2.result in record {
      hash = both_inputs (g.I.Source.contents c.args.a.now) (g.J.Source.contents c.args.b.now) (g.I.Read.remaining c.args.a.now) (g.J.Read.remaining c.args.b.now)
          (λ bytes. Encodes mode kind bytes file path old a r) (λ bytes. Encodes mode kind bytes file path also b s) (λ bytes. IfOk r (λ x. IfOk s (λ y. x ≡ y)))
          c.requires.contents c.requires.left (λ bytes p q. input_hashes mode kind file path old also a b r s bytes p q) c.encode_input.ensures.all c.encode_input-2.ensures.all;
      written = both_inputs (g.I.Source.contents c.args.a.now) (g.J.Source.contents c.args.b.now) (g.I.Read.remaining c.args.a.now) (g.J.Read.remaining c.args.b.now)
          (λ bytes. Encodes mode kind bytes file path old a r) (λ bytes. Encodes mode kind bytes file path also b s) (λ bytes. IfSome old (λ xs. SameWritten (IsBeforeWriting kind) a b r s))
          c.requires.contents c.requires.left (λ bytes p q. input_encodes mode kind file path old also a b r s c.requires.same bytes p q) c.encode_input.ensures.all c.encode_input-2.ensures.all;
    }
