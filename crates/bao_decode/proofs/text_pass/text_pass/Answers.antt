use Rattle.std.proofs.Common.{rules, inl, inr, ◌≡◌, ◌+◌, ◌-◌, ◌^◌, ◌≤◌, ℕ, List, [], ◌++◌, Vec, Global, length, take, drop, IfErr, IfSome, Err, refl, sym, ap, subst, ◌∙◌, arith, length-append}
use Rattle.std.proofs.lemmas.List.{length-take-le, take_at}
use Rattle.std.proofs.lemmas.Result.{err_from_is_err_and}
use Rattle.std.specs.Io.KnownBytes.{Appends}
use Rattle.b3tree.specs.Valid.{AreBytes}
use Rattle.b3tree.proofs.BlockWords.{AreBytes-take}
use Rattle.bao_check.specs.Checking.{HasDecodedAs}
use Rattle.bao_check.specs.declared.checking.Decoded.{Decoded}
use Rattle.bao_check.proofs.ChunkBytes.{some_of}
use Rattle.b3par.specs.Given.{GivenAt}
use Rattle.bao_text.specs.Faults.{WroteOnly}
use Rattle.bao_decode.specs.declared.copy_pass.PassFault.{PassFault}
use Rattle.bao_decode.specs.Ranges.{positions}
use Rattle.bao_decode.specs.TextPass.{TextStops, task_of_part}
use Rattle.bao_decode.proofs.TextPasses.{IsBegun, begun_all, begun_more, begun_none, begun_output, begun_sent, begun_stops, end_of, length_stops, skip_of}
use Rattle.bao_decode.proofs.text_pass.text_pass.Goals as goal

pub texts-init : goal.texts-init
texts-init g c =
    let header : List ℕ = c.in_ok-checking.header in
    record {
      sizes = c.requires;
      most = omega arith;
      less = omega arith;
      within = omega arith;
      begun = (
        header,
        [],
        refl,
        begun_none c.args.mode.now c.args.root.now.0 c.args.part.now (g.F.Forward.contents c.args.source.now) c.claimed-total.result c.in_ok-checking.checking (g.W.Write.contents c.args.out.now)
            header c.in_ok-checking.ensures.size c.bytes_are.ensures c.in_ok-checking.ensures.given c.in_ok-checking.ensures.decodes c.claimed-total.ensures,
      );
    }

pub returns-in_err-checking-clause-err : goal.returns-in_err-checking-clause-err
returns-in_err-checking-clause-err g c =
    let contents = g.F.Forward.contents c.args.source.now in
    let faultless = g.F.Forward.faultless c.args.source.now in
    let task = task_of_part c.args.mode.now c.args.root.now.0 c.args.part.now in
    let old = g.W.Write.contents c.args.out.now in
    let fault = c.in_err-checking.field-0.0 in
    let p = err_from_is_err_and c.from_residual.result c.from_residual.ensures.1 in
    let is : c.from_residual.result ≡ Err fault = p.1 ∙ ap Err p.2 in
    let stops = length_stops c.args.mode.now c.args.root.now.0 c.args.part.now contents faultless old fault c.in_err-checking.ensures.fault in
    subst (λ r. IfErr r (λ f. IfSome contents (λ s. TextStops task faultless c.args.part.now s old old f))) (sym is) stops

pub returns-in_err-taken-clause-err : goal.returns-in_err-taken-clause-err
returns-in_err-taken-clause-err g c =
    let contents = g.F.Forward.contents c.args.source.now in
    let faultless = g.F.Forward.faultless c.args.source.now in
    let mode = c.args.mode.now in
    let root = c.args.root.now.0 in
    let part = c.args.part.now in
    let total : ℕ = c.claimed-total.result in
    let task = task_of_part mode root part in
    let old = g.W.Write.contents c.args.out.now in
    let mid = g.W.Write.contents c.texts.out in
    let new = g.W.Write.contents c.next_while_writing.new.out in
    let begun = c.texts.invariant.begun in
    let skip : c.saturating_sub-skip.result ≡ skip_of mode root part total = c.saturating_sub-skip.ensures ∙ (λ i. c.written_of-first.ensures.first i - c.decoded_from-base.ensures i) in
    let end : c.saturating_sub-end.result ≡ end_of mode root part total = c.saturating_sub-end.ensures ∙ (λ i. c.written_of-first.ensures.last i - c.decoded_from-base.ensures i) in
    let waiting : List ℕ = positions c.texts.done (skip_of mode root part total) (end_of mode root part total) (take c.texts.waiting c.texts.blocks.before.items) in
    let sent : c.between.result.now ≡ waiting = c.between.ensures ∙ (λ i. positions c.texts.done (skip i) (end i) (take c.texts.waiting (c.deref.ensures.value i))) in
    let fault = c.in_err-taken.field-0.0 in
    let p = err_from_is_err_and c.from_residual-in_err-taken.result c.from_residual-in_err-taken.ensures.1 in
    let is : c.from_residual-in_err-taken.result ≡ Err fault = p.1 ∙ ap Err p.2 in
    let stops : IfSome contents (λ s. TextStops task faultless part s old new fault) = elim c.in_err-taken.ensures.stopped [
      | inl failed ↦
          subst (λ (f : PassFault). IfSome contents (λ s. TextStops task faultless part s old new f)) (sym failed.0)
          (begun_output mode root part contents faultless total c.texts.checking c.texts.at old mid new waiting begun.0 begun.1 failed.1.0 begun.3
          (subst (λ (s : List ℕ). WroteOnly mid new s failed.1.0) sent failed.1.1))
      | inr stopped ↦
          begun_stops mode root part contents faultless total c.texts.checking c.texts.at old new [] begun.0 begun.1 fault
          (begun_sent mode root part contents total c.texts.checking c.texts.at old mid new waiting begun.0 begun.1 begun.3 (subst (Appends mid new) sent stopped.0))
          (stopped.1.fault task begun.0 begun.3.decodes.has_taken begun.3.at_is begun.3.given)
    ] in
    subst (λ r. IfErr r (λ f. IfSome contents (λ s. TextStops task faultless part s old new f))) (sym is) stops

pub texts-preserved : goal.texts-preserved
texts-preserved g c =
    let contents = g.F.Forward.contents c.args.source.now in
    let mode = c.args.mode.now in
    let root = c.args.root.now.0 in
    let part = c.args.part.now in
    let total : ℕ = c.claimed-total.result in
    let task = task_of_part mode root part in
    let old = g.W.Write.contents c.args.out.now in
    let mid = g.W.Write.contents c.texts.out in
    let new = g.W.Write.contents c.next_while_writing.new.out in
    let begun = c.texts.invariant.begun in
    let skip : c.saturating_sub-skip.result ≡ skip_of mode root part total = c.saturating_sub-skip.ensures ∙ (λ i. c.written_of-first.ensures.first i - c.decoded_from-base.ensures i) in
    let end : c.saturating_sub-end.result ≡ end_of mode root part total = c.saturating_sub-end.ensures ∙ (λ i. c.written_of-first.ensures.last i - c.decoded_from-base.ensures i) in
    let waiting : List ℕ = positions c.texts.done (skip_of mode root part total) (end_of mode root part total) (take c.texts.waiting c.texts.blocks.before.items) in
    let sent : c.between.result.now ≡ waiting = c.between.ensures ∙ (λ i. positions c.texts.done (skip i) (end i) (take c.texts.waiting (c.deref.ensures.value i))) in
    let check = c.next_while_writing.new.checking in
    let block : List ℕ = c.next_while_writing.new.block in
    let room : List ℕ = c.next_while_writing.new.room in
    let taken : ℕ = c.in-Some.field-0.taken in
    let filled : ℕ = c.in-Some.field-0.filled in
    let next = c.in_ok-taken.ensures.next in
    let Some_ : Decoded → Type 0 = λ step. (1 ≤ step.taken) × (step.filled ≤ step.taken) × (step.filled ≤ length room) × (c.texts.at + step.taken ≤ 2 ^ 63 + 2 ^ 32) in
    let some : Some_ c.in-Some.field-0 = some_of c.in_ok-taken.field-0 c.in-Some.field-0 Some_ c.in-Some.is next.some in
    let Step : Decoded → Type 0 = λ step. (more : List ℕ) × (length more ≡ step.taken) × (more ≡ take step.taken block) × GivenAt contents c.texts.at more
    × HasDecodedAs check task (begun.0 ++ more) (begun.1 ++ take step.filled room) in
    let step : Step c.in-Some.field-0 = some_of c.in_ok-taken.field-0 c.in-Some.field-0 Step c.in-Some.is (next.step task begun.0 begun.1 begun.3.decodes begun.3.at_is begun.3.given) in
    let piece : List ℕ = take filled room in
    let size : length piece ≡ filled = length-take-le filled room some.2 in
    let written = begun_sent mode root part contents total c.texts.checking c.texts.at old mid new waiting begun.0 begun.1 begun.3 (subst (Appends mid new) sent c.in_ok-taken.ensures.sent) in
    let fits : length room ≡ 294912 = search rules in
    let ours = c.texts.blocks in
    let block_len : length block ≡ ours.block.len = search rules in
    let room_len : length room ≡ ours.room.len = search rules in
    let block_is : take ours.block.len (block ++ drop (length block) ours.block.items) ≡ block = take_at block (drop (length block) ours.block.items) ours.block.len block_len in
    let room_is : take ours.room.len (room ++ drop (length room) ours.room.items) ≡ room = take_at room (drop (length room) ours.room.items) ours.room.len room_len in
    let same : c.swap.new.y.items ≡ room = ap (λ (v : Vec ℕ Global). v.items) c.swap.ensures.y_after ∙ room_is in
    let bytes : AreBytes block = subst AreBytes (c.as_slice.ensures.value ∙ block_is) c.bytes_are-in-Some.ensures in
    let count : c.texts.done + c.texts.waiting + filled ≡ length (begun.1 ++ piece) = omega (arith, begun.2, size, length-append begun.1 piece) in
    let place : ℕ = c.texts.done + c.texts.waiting in
    let more = begun_more mode root part contents total c.texts.checking check c.texts.at place taken old new begun.0 begun.1 step.0 piece written begun.2 step.1
    (subst AreBytes (sym step.2) (AreBytes-take taken block bytes)) step.3 step.4 in
    record {
      sizes = search rules;
      most = some.3;
      less = omega (arith, c.texts.invariant.less, some.1);
      within = omega (arith, some.2, fits);
      begun = (
        begun.0 ++ step.0,
        begun.1 ++ piece,
        count,
        subst (λ (r : List ℕ). IsBegun mode root part contents total check (c.texts.at + taken) old new
            (positions place (skip_of mode root part total) (end_of mode root part total) (take filled r)) (begun.0 ++ step.0) (begun.1 ++ piece)) (sym same) more,
      );
    }

pub returns-clause-ok : goal.returns-clause-ok
returns-clause-ok g c =
    let contents = g.F.Forward.contents c.args.source.now in
    let mode = c.args.mode.now in
    let root = c.args.root.now.0 in
    let part = c.args.part.now in
    let total : ℕ = c.claimed-total.result in
    let task = task_of_part mode root part in
    let old = g.W.Write.contents c.args.out.now in
    let mid = g.W.Write.contents c.texts.out in
    let new = g.W.Write.contents c.next_while_writing.new.out in
    let begun = c.texts.invariant.begun in
    let skip : c.saturating_sub-skip.result ≡ skip_of mode root part total = c.saturating_sub-skip.ensures ∙ (λ i. c.written_of-first.ensures.first i - c.decoded_from-base.ensures i) in
    let end : c.saturating_sub-end.result ≡ end_of mode root part total = c.saturating_sub-end.ensures ∙ (λ i. c.written_of-first.ensures.last i - c.decoded_from-base.ensures i) in
    let waiting : List ℕ = positions c.texts.done (skip_of mode root part total) (end_of mode root part total) (take c.texts.waiting c.texts.blocks.before.items) in
    let sent : c.between.result.now ≡ waiting = c.between.ensures ∙ (λ i. positions c.texts.done (skip i) (end i) (take c.texts.waiting (c.deref.ensures.value i))) in
    let written = begun_sent mode root part contents total c.texts.checking c.texts.at old mid new waiting begun.0 begun.1 begun.3 (subst (Appends mid new) sent c.in_ok-taken.ensures.sent) in
    let last = c.in_ok-taken.ensures.next.last task begun.0 begun.1 begun.3.decodes begun.3.at_is c.in_default.is in
    let all = begun_all mode root part contents total c.texts.checking c.texts.at old new begun.0 begun.1 written last.0 last.1 last.2 last.3 in
    (all.0, all.1, (λ i. c.written_of-first.ensures.last i - c.written_of-first.ensures.first i) ∙ all.2, all.3)
