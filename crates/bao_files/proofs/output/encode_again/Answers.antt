use Rattle.std.proofs.Common.{Ok, Err, sym, subst, ◌∙◌}
use Rattle.bao_files.specs.declared.fault.FileFault.{FileFault}
use Rattle.bao_files.specs.Encoded.{EncodesLike}
use Rattle.bao_files.proofs.Encodings.{encodes_again}
use Rattle.bao_files.proofs.output.encode_again.Goals as goal

pub returns-in-Ok : goal.returns-in-Ok
returns-in-Ok g c = λ bytes made.
    let contents = g.I.Source.contents c.args.input.now in
    let mode = c.args.mode.now in
    let old = g.W.Write.contents c.args.out.now in
    let new = g.W.Write.contents c.write_again-written.new.out in
    let said = c.in-Ok.ensures bytes (c.as_slice.ensures.value ∙ made.text_is) made.hash_is.len_is in
    encodes_again contents mode c.args.size bytes c.args.file c.args.path old new c.args.kept.hash c.args.kept.text.items (Ok c.in-Ok.field-0) made said

pub returns : goal.returns
returns g c = λ bytes made.
    let contents = g.I.Source.contents c.args.input.now in
    let mode = c.args.mode.now in
    let old = g.W.Write.contents c.args.out.now in
    let new = g.W.Write.contents c.write_again-written.new.out in
    let answer = encodes_again contents mode c.args.size bytes c.args.file c.args.path old new c.args.kept.hash c.args.kept.text.items (Err c.in-Err.fault) made
    (c.in-Err.ensures bytes (c.as_slice.ensures.value ∙ made.text_is) made.hash_is.len_is) in
    subst (λ (f : FileFault). EncodesLike contents mode bytes c.args.file c.args.path old new (Err f)) (sym c.fault_again.ensures) answer
