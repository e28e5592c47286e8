use Rattle.std.proofs.Common.{◌≡◌, ℕ, List, length, take, ◌++◌, sym, ap, subst, ◌∙◌, arith}
use Rattle.std.proofs.lemmas.Result.{err_from_is_err_and}
use Rattle.std.specs.Io.KnownBytes.{Appends}
use Rattle.b3tree.specs.Hashing.{hash}
use Rattle.bao_text.specs.Pieces.{HasParents, whole_text}
use Rattle.bao_text.specs.Texts.{combined_text, length_text}
use Rattle.bao_files.specs.Again.{Sends}
use Rattle.bao_files.specs.Encoded.{AppendsPart}
use Rattle.bao_files.proofs.SecondPass.{combined_again, hash_again, kept_parents, part_first, read_none, sends_after, sends_err, sends_same}
use Rattle.bao_files.proofs.again.write_again.Goals as goal

pub write_parts-requires-clause-read : goal.write_parts-requires-clause-read
write_parts-requires-clause-read g c = λ _ _.
    let contents = g.S.Source.contents c.args.source.now in
    let choice = c.of_combined-choice.result in
    let mode = c.args.mode.now in
    (read_none contents choice mode c.args.pieces.now.now c.requires.pieces.0, read_none contents choice mode c.args.pieces.now.next c.requires.pieces.1)

pub returns-in_err-send : goal.returns-in_err-send
returns-in_err-send g c = λ before text len.
    let mode = c.args.mode.now in
    let old = g.W.Write.contents c.args.out.now in
    let new = g.W.Write.contents c.send.new.out in
    let p = err_from_is_err_and c.from_residual.result c.from_residual.ensures.1 in
    let front : c.split_at.result.0.now ≡ length_text (length before) = c.split_at.ensures.front ∙ ap (take 8) text in
    let part : AppendsPart old new (combined_text mode before) =
    part_first old new (length_text (length before)) (whole_text (length before) mode 0 before) (subst (AppendsPart old new) front c.in_err-send.ensures.1) in (
      before,
      λ i. length before,
      λ i. hash mode before,
      λ bytes. bytes,
      λ given. given,
      sends_err (combined_text mode before) old new c.from_residual.result p.0 p.1 part,
    )

pub returns : goal.returns
returns g c = λ before text len.
    let mode = c.args.mode.now in
    let total = c.args.len in
    let old = g.W.Write.contents c.args.out.now in
    let mid = g.W.Write.contents c.send.new.out in
    let new = g.W.Write.contents c.write_parts.new.out in
    let front : c.split_at.result.0.now ≡ length_text total = c.split_at.ensures.front ∙ ap (take 8) text ∙ ap length_text len in
    let has : HasParents total mode 0 c.split_at.result.1.now before =
    kept_parents mode total c.args.text.now c.split_at.result.1.now before (omega (arith, c.requires.more)) text len c.split_at.ensures.back in
    let made = c.write_parts.ensures.written total before c.of_combined-choice.ensures has len in
    let again : List ℕ = made.0 in
    let len_is : length again ≡ total = made.2.len_is ∙ len in
    let sent : Sends (length_text total ++ whole_text total mode 0 again) old new c.write_parts.result =
    sends_after (length_text total) (whole_text total mode 0 again) old mid new c.write_parts.result
    (subst (Appends old mid) front c.in_ok-send.ensures.0) made.3 in (
      again,
      made.2.len_is,
      hash_again mode again before made.1,
      made.2.are,
      made.2.given,
      sends_same (length_text total ++ whole_text total mode 0 again) (combined_text mode again) old new c.write_parts.result (sym (combined_again mode total again len_is)) sent,
    )
