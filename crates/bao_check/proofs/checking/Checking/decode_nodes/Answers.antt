use Rattle.std.proofs.Common.{◌≡◌, ◌+◌, ◌-◌, ℕ, List, ◌++◌, length, take, sym, subst, ◌∙◌, arith, length-append}
use Rattle.std.proofs.lemmas.List.{length-take-le}
use Rattle.std.proofs.lemmas.Result.{err_from_is_err_and}
use Rattle.bao_check.specs.declared.fault.CheckFault.{CheckFault}
use Rattle.bao_check.specs.Decoded.{Decodes}
use Rattle.bao_check.specs.Waiting.{CheckTask, HasRefusedIn, HasTaken}
use Rattle.bao_check.proofs.ChunkBytes.{decodes-taken}
use Rattle.bao_check.proofs.Feeding.{WaitsIn-taken, node_fault, refused_in_fault}
use Rattle.bao_check.proofs.checking.Checking.decode_nodes.Goals as goal

pub returns-in_err-filled-clause-fault : goal.returns-in_err-filled-clause-fault
returns-in_err-filled-clause-fault c = λ task taken it.
    let check = c.args.self.now in
    let bytes : List ℕ = c.args.bytes.now in
    let fault : CheckFault = c.in_err-filled.field-0.0 in
    let used : ℕ = c.in_err-filled.ensures.err.0 in
    let refused : HasRefusedIn task.mode check.choice check.waiting.items c.take_nodes.new.waiting.items check.at used bytes fault =
    subst (λ (t : CheckTask). HasRefusedIn t.mode check.choice check.waiting.items c.take_nodes.new.waiting.items check.at used bytes fault) it.task_is c.in_err-filled.ensures.err.2 in
    let faults = refused_in_fault task check.choice check.waiting.items c.take_nodes.new.waiting.items check.at used taken bytes fault refused it.at_is (it.waits c.requires.begun) in
    let p = err_from_is_err_and c.from_residual.result c.from_residual.ensures.1 in
    rw (p.1, p.2) (node_fault task (taken ++ bytes) (check.at + used) fault refused.is faults)

pub returns-in_err-filled-clause-before : goal.returns-in_err-filled-clause-before
returns-in_err-filled-clause-before c = grind (arith, length-take-le, err_from_is_err_and, length-append, WaitsIn-taken)

pub returns-clause-taken : goal.returns-clause-taken
returns-clause-taken c = λ task taken it.
    let check = c.args.self.now in
    let bytes : List ℕ = c.args.bytes.now in
    let ok = c.in_ok-filled.ensures.ok in
    let used : c.take_nodes.new.at - check.at ≡ ok.0 = omega (arith, ok.1) in
    let node : List ℕ = take (c.take_nodes.new.at - check.at) bytes in
    let size : length node ≡ ok.0 = length-take-le (c.take_nodes.new.at - check.at) bytes (omega (arith, used, ok.2)) ∙ used in
    let step : HasTaken task.mode check.choice check.waiting.items c.take_nodes.new.waiting.items node =
    subst (λ (n : ℕ). HasTaken task.mode check.choice check.waiting.items c.take_nodes.new.waiting.items (take n bytes)) (sym used)
    (subst (λ (t : CheckTask). HasTaken t.mode check.choice check.waiting.items c.take_nodes.new.waiting.items (take ok.0 bytes)) it.task_is ok.4) in
    record {
      task_is = it.task_is;
      at_is = omega (arith, it.at_is, ok.1, size, length-append taken node);
      waits = λ _. WaitsIn-taken task check.choice check.waiting.items c.take_nodes.new.waiting.items taken node step (it.waits c.requires.begun);
    }

pub returns-clause-decoded : goal.returns-clause-decoded
returns-clause-decoded c = λ task taken blob it.
    let check = c.args.self.now in
    let bytes : List ℕ = c.args.bytes.now in
    let ok = c.in_ok-filled.ensures.ok in
    let used : c.take_nodes.new.at - check.at ≡ ok.0 = omega (arith, ok.1) in
    let part : List ℕ = take c.in_ok-filled.filled c.take_nodes.new.room in
    let step : Decodes check.choice check.waiting.items c.take_nodes.new.waiting.items (take (c.take_nodes.new.at - check.at) bytes) part =
    subst (λ (n : ℕ). Decodes check.choice check.waiting.items c.take_nodes.new.waiting.items (take n bytes) part) (sym used) ok.5 in
    record {
      has_taken = returns-clause-taken c task taken it.has_taken;
      begins = λ none. absurd (omega (arith, none, ok.1, c.requires.begun));
      decodes = λ _. decodes-taken check.choice check.waiting.items c.take_nodes.new.waiting.items taken (take (c.take_nodes.new.at - check.at) bytes) blob part task.start task.len step
          (it.decodes c.requires.begun);
    }
