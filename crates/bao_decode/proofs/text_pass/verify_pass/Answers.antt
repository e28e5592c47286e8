use Rattle.std.proofs.Common.{◌≡◌, ◌+◌, ◌^◌, ◌≤◌, ℕ, List, [], ◌++◌, length, take, None, IfErr, IfSome, Err, refl, sym, ap, subst, ◌∙◌, arith}
use Rattle.std.proofs.lemmas.Result.{err_from_is_err_and}
use Rattle.b3tree.specs.Valid.{AreBytes}
use Rattle.b3tree.proofs.BlockWords.{AreBytes-take}
use Rattle.bao_check.specs.Checking.{HasDecodedAs}
use Rattle.bao_check.specs.declared.checking.Decoded.{Decoded}
use Rattle.bao_check.proofs.ChunkBytes.{some_of}
use Rattle.b3par.specs.Given.{GivenAt}
use Rattle.bao_text.specs.Cut.{claimed}
use Rattle.bao_decode.specs.Ranges.{first_written, last_written}
use Rattle.bao_decode.specs.TextPass.{StopsAs, task_of_part}
use Rattle.bao_decode.proofs.EncodingPasses.{copied_all, copied_more, copied_none}
use Rattle.bao_decode.proofs.text_pass.verify_pass.Goals as goal

pub blocks-2-init : goal.blocks-2-init
blocks-2-init g c =
    let header : List ℕ = c.in_ok-checking.header in
    let part = c.args.part.now in
    record {
      block = refl;
      room = refl;
      most = omega arith;
      taken = (
        header,
        [],
        (
          first_written part (claimed header),
          last_written part (claimed header),
          copied_none c.args.mode.now c.args.root.now.0 part (g.F.Forward.contents c.args.source.now) (claimed header) (first_written part (claimed header)) (last_written part (claimed header))
              c.in_ok-checking.checking None None header c.in_ok-checking.ensures.size c.bytes_are.ensures c.in_ok-checking.ensures.given c.in_ok-checking.ensures.decodes refl refl refl tt,
        ),
      );
    }

pub returns-in_err-taken-clause-err : goal.returns-in_err-taken-clause-err
returns-in_err-taken-clause-err g c =
    let contents = g.F.Forward.contents c.args.source.now in
    let faultless = g.F.Forward.faultless c.args.source.now in
    let task = task_of_part c.args.mode.now c.args.root.now.0 c.args.part.now in
    let taken = c.blocks-2.invariant.taken in
    let it = taken.2.2 in
    let fault = c.in_err-taken.field-0.0 in
    let p = err_from_is_err_and c.from_residual-in_err-taken.result c.from_residual-in_err-taken.ensures.1 in
    let is : c.from_residual-in_err-taken.result ≡ Err fault = p.1 ∙ ap Err p.2 in
    subst (λ r. IfErr r (λ f. IfSome contents (λ s. StopsAs task faultless s f))) (sym is) (c.in_err-taken.ensures.fault task taken.0 it.decodes.has_taken it.at_is it.given)

pub blocks-2-preserved : goal.blocks-2-preserved
blocks-2-preserved g c =
    let contents = g.F.Forward.contents c.args.source.now in
    let task = task_of_part c.args.mode.now c.args.root.now.0 c.args.part.now in
    let taken = c.blocks-2.invariant.taken in
    let it = taken.2.2 in
    let Some_ : Decoded → Type 0 = λ step. (1 ≤ step.taken) × (step.filled ≤ step.taken) × (step.filled ≤ length c.next_block.new.room) × (c.blocks-2.at + step.taken ≤ 2 ^ 63 + 2 ^ 32) in
    let some : Some_ c.in-Some.field-0 = some_of c.in_ok-taken.field-0 c.in-Some.field-0 Some_ c.in-Some.is c.in_ok-taken.ensures.some in
    let Step : Decoded → Type 0 = λ step. (more : List ℕ) × (length more ≡ step.taken) × (more ≡ take step.taken c.next_block.new.block) × GivenAt contents c.blocks-2.at more
    × HasDecodedAs c.next_block.new.checking task (taken.0 ++ more) (taken.1 ++ take step.filled c.next_block.new.room) in
    let next : Step c.in-Some.field-0 = some_of c.in_ok-taken.field-0 c.in-Some.field-0 Step c.in-Some.is (c.in_ok-taken.ensures.step task taken.0 taken.1 it.decodes it.at_is it.given) in
    let piece : List ℕ = take c.in-Some.field-0.filled c.next_block.new.room in
    record {
      block = c.next_block.ensures.sizes.0 ∙ c.blocks-2.invariant.block;
      room = c.next_block.ensures.sizes.1 ∙ c.blocks-2.invariant.room;
      most = some.3;
      taken = (
        taken.0 ++ next.0,
        taken.1 ++ piece,
        (
          taken.2.0,
          taken.2.1,
          copied_more c.args.mode.now c.args.root.now.0 c.args.part.now contents taken.2.0 taken.2.1 c.blocks-2.checking c.next_block.new.checking c.blocks-2.at
              c.in-Some.field-0.taken None None None taken.0 taken.1 next.0 piece it next.1
              (subst AreBytes (sym next.2) (AreBytes-take c.in-Some.field-0.taken c.next_block.new.block c.bytes_are-in-Some.ensures)) next.3 next.4 tt,
        ),
      );
    }

pub returns-clause-ok : goal.returns-clause-ok
returns-clause-ok g c =
    let contents = g.F.Forward.contents c.args.source.now in
    let task = task_of_part c.args.mode.now c.args.root.now.0 c.args.part.now in
    let taken = c.blocks-2.invariant.taken in
    let it = taken.2.2 in
    let last = c.in_ok-taken.ensures.last task taken.0 taken.1 it.decodes it.at_is c.in_default.is in
    let all = copied_all c.args.mode.now c.args.root.now.0 c.args.part.now contents taken.2.0 taken.2.1 c.blocks-2.checking c.blocks-2.at None None taken.0 taken.1 it last.0 last.2 last.3 in
    (all.0, all.1)
