use Rattle.std.proofs.Common.{◌≡◌, ◌+◌, ◌^◌, ◌≤◌, ℕ, List, ◌++◌, length, take, IfErr, IfSome, Err, sym, ap, subst, ◌∙◌, arith}
use Rattle.std.proofs.lemmas.List.{length-take}
use Rattle.std.proofs.lemmas.Result.{err_from_is_err_and}
use Rattle.std.specs.Io.KnownBytes.{Appends}
use Rattle.b3tree.specs.Valid.{AreBytes}
use Rattle.b3tree.proofs.BlockWords.{AreBytes-take}
use Rattle.bao_check.specs.Checking.{HasDecodedAs}
use Rattle.bao_check.specs.declared.checking.Decoded.{Decoded}
use Rattle.bao_check.proofs.ChunkBytes.{some_of}
use Rattle.b3par.specs.Given.{GivenAt}
use Rattle.bao_text.specs.Faults.{WroteOnly}
use Rattle.bao_decode.specs.TextPass.{EncodingStops, task_of_part}
use Rattle.bao_decode.proofs.EncodingPasses.{copied_all, copied_more, copied_stops, more_output}
use Rattle.bao_decode.proofs.encoding_pass.encoding_pass.Goals as goal

pub returns-in_err-taken-clause-err : goal.returns-in_err-taken-clause-err
returns-in_err-taken-clause-err g c =
    let contents = g.F.Forward.contents c.args.source.now in
    let faultless = g.F.Forward.faultless c.args.source.now in
    let task = task_of_part c.args.mode.now c.args.root.now.0 c.args.part.now in
    let old = g.W.Write.contents c.args.out.now in
    let new = g.W.Write.contents c.blocks-2.out in
    let copied = c.blocks-2.invariant.copied in
    let fault = c.in_err-taken.field-0.0 in
    let p = err_from_is_err_and c.from_residual-in_err-taken.result c.from_residual-in_err-taken.ensures.1 in
    let is : c.from_residual-in_err-taken.result ≡ Err fault = p.1 ∙ ap Err p.2 in
    let stops = copied_stops c.args.mode.now c.args.root.now.0 c.args.part.now contents faultless c.written_of-first.result.0 c.written_of-first.result.1 c.blocks-2.checking c.blocks-2.at old new copied.0 copied.1 fault copied.2
    (c.in_err-taken.ensures.fault task copied.0 copied.2.decodes.has_taken copied.2.at_is copied.2.given) in
    subst (λ r. IfErr r (λ f. IfSome contents (λ s. EncodingStops task faultless s old new f))) (sym is) stops

pub slice_bounds-write_text-end-in-Some : goal.slice_bounds-write_text-end-in-Some
slice_bounds-write_text-end-in-Some g c =
    let contents = g.F.Forward.contents c.args.source.now in
    let task = task_of_part c.args.mode.now c.args.root.now.0 c.args.part.now in
    let copied = c.blocks-2.invariant.copied in
    let Step : Decoded → Type 0 = λ step. (more : List ℕ) × (length more ≡ step.taken) × (more ≡ take step.taken c.next_block.new.block) × GivenAt contents c.blocks-2.at more
    × HasDecodedAs c.next_block.new.checking task (copied.0 ++ more) (copied.1 ++ take step.filled c.next_block.new.room) in
    let next : Step c.in-Some.field-0 = some_of c.in_ok-taken.field-0 c.in-Some.field-0 Step c.in-Some.is (c.in_ok-taken.ensures.step task copied.0 copied.1 copied.2.decodes copied.2.at_is copied.2.given) in
    omega (arith, sym next.1 ∙ ap length next.2 ∙ length-take c.in-Some.field-0.taken c.next_block.new.block)

pub slice_bounds-write_text-end-in-Some-2 : goal.slice_bounds-write_text-end-in-Some-2
slice_bounds-write_text-end-in-Some-2 g c =
    let contents = g.F.Forward.contents c.args.source.now in
    let task = task_of_part c.args.mode.now c.args.root.now.0 c.args.part.now in
    let copied = c.blocks-2.invariant.copied in
    let Step : Decoded → Type 0 = λ step. (more : List ℕ) × (length more ≡ step.taken) × (more ≡ take step.taken c.next_block.new.block) × GivenAt contents c.blocks-2.at more
    × HasDecodedAs c.next_block.new.checking task (copied.0 ++ more) (copied.1 ++ take step.filled c.next_block.new.room) in
    let next : Step c.in-Some.field-0 = some_of c.in_ok-taken.field-0 c.in-Some.field-0 Step c.in-Some.is (c.in_ok-taken.ensures.step task copied.0 copied.1 copied.2.decodes copied.2.at_is copied.2.given) in
    sym next.1 ∙ ap length next.2

pub returns-in-Err-write_text-clause-err : goal.returns-in-Err-write_text-clause-err
returns-in-Err-write_text-clause-err g c =
    let contents = g.F.Forward.contents c.args.source.now in
    let faultless = g.F.Forward.faultless c.args.source.now in
    let task = task_of_part c.args.mode.now c.args.root.now.0 c.args.part.now in
    let copied = c.blocks-2.invariant.copied in
    let Step : Decoded → Type 0 = λ step. (more : List ℕ) × (length more ≡ step.taken) × (more ≡ take step.taken c.next_block.new.block) × GivenAt contents c.blocks-2.at more
    × HasDecodedAs c.next_block.new.checking task (copied.0 ++ more) (copied.1 ++ take step.filled c.next_block.new.room) in
    let next : Step c.in-Some.field-0 = some_of c.in_ok-taken.field-0 c.in-Some.field-0 Step c.in-Some.is (c.in_ok-taken.ensures.step task copied.0 copied.1 copied.2.decodes copied.2.at_is copied.2.given) in
    let old = g.W.Write.contents c.args.out.now in
    let mid = g.W.Write.contents c.blocks-2.out in
    let new = g.W.Write.contents c.write_text-in-Some.new.out in
    more_output c.args.mode.now c.args.root.now.0 c.args.part.now contents faultless c.blocks-2.at old mid new copied.0 next.0 c.in-Err-write_text.field-0 copied.2.at_is copied.2.given copied.2.written next.3
    (subst (λ (s : List ℕ). WroteOnly mid new s c.in-Err-write_text.field-0) (sym next.2) c.in-Err-write_text.ensures.err)

pub blocks-2-preserved : goal.blocks-2-preserved
blocks-2-preserved g c =
    let contents = g.F.Forward.contents c.args.source.now in
    let task = task_of_part c.args.mode.now c.args.root.now.0 c.args.part.now in
    let copied = c.blocks-2.invariant.copied in
    let Some_ : Decoded → Type 0 = λ step. (1 ≤ step.taken) × (step.filled ≤ step.taken) × (step.filled ≤ length c.next_block.new.room) × (c.blocks-2.at + step.taken ≤ 2 ^ 63 + 2 ^ 32) in
    let some : Some_ c.in-Some.field-0 = some_of c.in_ok-taken.field-0 c.in-Some.field-0 Some_ c.in-Some.is c.in_ok-taken.ensures.some in
    let Step : Decoded → Type 0 = λ step. (more : List ℕ) × (length more ≡ step.taken) × (more ≡ take step.taken c.next_block.new.block) × GivenAt contents c.blocks-2.at more
    × HasDecodedAs c.next_block.new.checking task (copied.0 ++ more) (copied.1 ++ take step.filled c.next_block.new.room) in
    let next : Step c.in-Some.field-0 = some_of c.in_ok-taken.field-0 c.in-Some.field-0 Step c.in-Some.is (c.in_ok-taken.ensures.step task copied.0 copied.1 copied.2.decodes copied.2.at_is copied.2.given) in
    let piece : List ℕ = take c.in-Some.field-0.filled c.next_block.new.room in
    let old = g.W.Write.contents c.args.out.now in
    let mid = g.W.Write.contents c.blocks-2.out in
    let new = g.W.Write.contents c.write_text-in-Some.new.out in
    record {
      block = c.next_block.ensures.sizes.0 ∙ c.blocks-2.invariant.block;
      room = c.next_block.ensures.sizes.1 ∙ c.blocks-2.invariant.room;
      most = some.3;
      copied = (
        copied.0 ++ next.0,
        copied.1 ++ piece,
        copied_more c.args.mode.now c.args.root.now.0 c.args.part.now contents c.written_of-first.result.0 c.written_of-first.result.1 c.blocks-2.checking c.next_block.new.checking c.blocks-2.at
            c.in-Some.field-0.taken old mid new copied.0 copied.1 next.0 piece copied.2 next.1
            (subst AreBytes (sym next.2) (AreBytes-take c.in-Some.field-0.taken c.next_block.new.block c.bytes_are-in-Some.ensures)) next.3 next.4 (subst (Appends mid new) (sym next.2) c.in-Ok-write_text.ensures.text),
      );
    }

pub returns-clause-ok : goal.returns-clause-ok
returns-clause-ok g c =
    let contents = g.F.Forward.contents c.args.source.now in
    let task = task_of_part c.args.mode.now c.args.root.now.0 c.args.part.now in
    let copied = c.blocks-2.invariant.copied in
    let last = c.in_ok-taken.ensures.last task copied.0 copied.1 copied.2.decodes copied.2.at_is c.in_default.is in
    copied_all c.args.mode.now c.args.root.now.0 c.args.part.now contents c.written_of-first.result.0 c.written_of-first.result.1 c.blocks-2.checking c.blocks-2.at
    (g.W.Write.contents c.args.out.now) (g.W.Write.contents c.blocks-2.out) copied.0 copied.1 copied.2 last.0 last.2 last.3
