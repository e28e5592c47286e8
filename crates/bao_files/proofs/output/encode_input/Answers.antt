use Rattle.std.proofs.Common.{sym, subst}
use Rattle.bao_files.specs.Encoded.{Encodes}
use Rattle.bao_text.specs.declared.kinds.Encoding.{Encoding}
use Rattle.bao_files.proofs.Encodings.{made_len}
use Rattle.bao_files.proofs.output.encode_input.Goals as goal

pub encode_again-requires-clause-text : goal.encode_again-requires-clause-text
encode_again-requires-clause-text g c = λ _ _.
    let made = c.in-Some.ensures.some in
    made_len c.args.mode.now c.args.size made.0 c.in-Some.kept.hash.0 c.in-Some.kept.text.items made.1

pub returns-clause-some : goal.returns-clause-some
returns-clause-some g c =
    let made = c.in-Some.ensures.some in
    let said = c.encode_again.ensures made.0 made.1 in (
      said.0,
      said.2,
      subst (λ (kind : Encoding). Encodes c.args.mode.now kind said.0 c.args.file c.args.path (g.W.Write.contents c.args.out.now) (g.W.Write.contents c.encode_again.new.out) c.encode_again.result)
          (sym c.in-Combined.is) said.4,
    )
