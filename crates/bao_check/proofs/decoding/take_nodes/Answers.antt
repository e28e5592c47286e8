use Rattle.std.proofs.Common.{◌≡◌, ◌-◌, ℕ, List, length, take, drop, refl, ◌∙◌, arith, length-drop, rules, take_all}
use Rattle.std.proofs.lemmas.Result.{err_from_is_err_and}
use Rattle.bao_check.specs.declared.part.WaitingPart.{WaitingPart}
use Rattle.bao_check.proofs.ChunkBytes.{decodes_more, refused_later, taken_more}
use Rattle.bao_check.proofs.decoding.take_nodes.Goals as goal

-- what is left of the bytes
all_left : (used : ℕ) (bytes : List ℕ) → take (length bytes - used) (drop used bytes) ≡ drop used bytes
all_left used bytes = take_all (length bytes - used) (drop used bytes) (omega (arith, length-drop used bytes))

pub returns-in_err-step-clause-err : goal.returns-in_err-step-clause-err
returns-in_err-step-clause-err c =
    let inv = c.nodes.invariant in
    let p = err_from_is_err_and c.from_residual.result c.from_residual.ensures.1 in
    let same : c.take_first.new.waiting ≡ c.nodes.waiting = c.in_err-step.ensures.same refl in
    let size : ℕ = c.in_err-step.ensures.err.0 in
    let refused = refused_later c.args.mode.now c.args.choice.now c.args.waiting.now.items c.nodes.waiting.items c.args.at.now c.nodes.used c.nodes.at size c.args.bytes.now
    c.in_err-step.field-0.0 inv.used inv.at inv.taken (rw (all_left c.nodes.used c.args.bytes.now) at c.in_err-step.ensures.err.1) in
    rw (p.1, p.2, same) (c.nodes.used, inv.at, refused)

pub nodes-preserved : goal.nodes-preserved
nodes-preserved c =
    let inv = c.nodes.invariant in
    let bytes : List ℕ = c.args.bytes.now in
    let all = all_left c.nodes.used bytes in
    let rest : List ℕ = take (length bytes - c.nodes.used) (drop c.nodes.used bytes) in
    let choice = c.args.choice.now in
    let a : List WaitingPart = c.args.waiting.now.items in
    let b : List WaitingPart = c.nodes.waiting.items in
    let d : List WaitingPart = c.take_first.new.waiting.items in
    let nodes = rw c.in-Some.is at c.in_ok-step.ensures.nodes in
    let had : List ℕ = take c.nodes.filled c.nodes.room in
    let chunks = rw c.in-Some.is at c.in_ok-step.ensures.chunks in
    record {
      known = c.next_value-value.ensures.known;
      parts = c.take_first.ensures.parts;
      size = c.take_first.ensures.size ∙ inv.size;
      at = omega (arith, inv.at);
      used = search rules;
      filled = search rules;
      taken = taken_more c.args.mode.now choice a b d bytes rest c.nodes.used c.in-Some.len all inv.taken nodes;
      decodes = decodes_more choice a b d bytes rest had chunks.0 (take c.in-Some.free c.take_first.new.room) c.nodes.used c.in-Some.len all chunks.1 inv.decodes chunks.2;
    }
