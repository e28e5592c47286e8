use Rattle.std.proofs.Common.{◌≡◌, ℕ, ◌<◌, List, [], ◌++◌, length, if◌then◌else◌, Some, false, nat_eq, refl, sym, subst, ◌∙◌, arith, length-append}
use Rattle.std.proofs.lemmas.Bool.{ne_eqb}
use Rattle.std.proofs.lemmas.Result.{IfErr-weaker, err_from_is_err_and}
use Rattle.bao_check.specs.declared.fault.CheckFault.{CheckFault}
use Rattle.bao_check.specs.Checking.{task_of}
use Rattle.bao_check.specs.Waiting.{CheckTask, HasRefused, HasTaken, chunk_waits, next_size}
use Rattle.bao_check.proofs.ChunkBytes.{decodes_node, node_decodes}
use Rattle.bao_check.proofs.Feeding.{WaitsIn-taken, begun_fault, node_fault, node_refused, nothing, refused_fault}
use Rattle.bao_check.proofs.checking.Checking.take.Goals as goal

pub returns-in_err-choice-clause-fault : goal.returns-in_err-choice-clause-fault
returns-in_err-choice-clause-fault c = λ task taken it.
    let check = c.args.self.now in
    let node : List ℕ = c.args.node.now in
    let fault : CheckFault = c.in_err-choice.field-0.0 in
    let none : taken ≡ [] = nothing taken (sym it.at_is ∙ c.if-self-eq0.true) in
    let faults = begun_fault (task_of check) task taken node fault it.task_is none c.in_err-choice.ensures.fault.1 in
    let p = err_from_is_err_and c.from_residual.result c.from_residual.ensures.1 in
    rw (p.1, p.2) (node_fault task (taken ++ node) 8 fault c.in_err-choice.ensures.fault.0 faults)

pub returns-in_err-choice-clause-refused : goal.returns-in_err-choice-clause-refused
returns-in_err-choice-clause-refused c = λ task taken it. IfErr-weaker _ _ _ (node_refused task (taken ++ c.args.node.now)) (returns-in_err-choice-clause-fault c task taken it)

pub returns-in_err-take_node-clause-fault : goal.returns-in_err-take_node-clause-fault
returns-in_err-take_node-clause-fault c = λ task taken it.
    let check = c.args.self.now in
    let node : List ℕ = c.args.node.now in
    let fault : CheckFault = c.in_err-take_node.field-0.0 in
    let begun : 0 < check.at = omega (arith, c.if-self-eq0.false) in
    let refused : HasRefused task.mode check.choice check.waiting.items check.at (length node) node fault =
    subst (λ (t : CheckTask). HasRefused t.mode check.choice check.waiting.items check.at (length node) node fault) it.task_is c.in_err-take_node.ensures.err in
    let faults = refused_fault task check.choice check.waiting.items check.at (length node) taken node fault refused it.at_is (it.waits begun) in
    let p = err_from_is_err_and c.from_residual-in_err-take_node.result c.from_residual-in_err-take_node.ensures.1 in
    rw (p.1, p.2) (node_fault task (taken ++ node) check.at fault c.in_err-take_node.ensures.err.is faults)

pub returns-in_err-take_node-clause-refused : goal.returns-in_err-take_node-clause-refused
returns-in_err-take_node-clause-refused c = λ task taken it. IfErr-weaker _ _ _ (node_refused task (taken ++ c.args.node.now)) (returns-in_err-take_node-clause-fault c task taken it)

pub returns-clause-taken : goal.returns-clause-taken
returns-clause-taken c = λ task taken it.
    let check = c.args.self.now in
    let node : List ℕ = c.args.node.now in
    let begun : 0 < check.at = omega (arith, c.if-self-eq0.false) in
    let step : HasTaken task.mode check.choice check.waiting.items c.take_node.new.waiting.items node =
    subst (λ (t : CheckTask). HasTaken t.mode check.choice check.waiting.items c.take_node.new.waiting.items node) it.task_is c.in_ok-take_node.ensures.ok in
    record {
      task_is = it.task_is;
      at_is = omega (arith, it.at_is, length-append taken node);
      waits = λ _. WaitsIn-taken task check.choice check.waiting.items c.take_node.new.waiting.items taken node step (it.waits begun);
    }

pub returns-clause-decoded : goal.returns-clause-decoded
returns-clause-decoded c = λ task taken blob it.
    let check = c.args.self.now in
    let node : List ℕ = c.args.node.now in
    let begun : 0 < check.at = omega (arith, c.if-self-eq0.false) in
    let own : List ℕ = if chunk_waits check.waiting.items then node else [] in
    let later : nat_eq check.at 0 ≡ false = ne_eqb check.at 0 c.if-self-eq0.false in
    let wants : (if nat_eq check.at 0 then Some 8 else next_size check.waiting.items) ≡ next_size check.waiting.items = rw (later) refl in
    let next : next_size check.waiting.items ≡ Some (length node) = sym wants ∙ c.requires in
    let decodes = node_decodes check.choice check.waiting.items c.take_node.new.waiting.items node (length node) next c.in_ok-take_node.ensures.chunk c.in_ok-take_node.ensures.parent in
    rw (later) (record {
      has_taken = returns-clause-taken c task taken it.has_taken;
      begins = λ zero. absurd (omega (arith, zero, begun));
      decodes = λ _ more. decodes_node check.choice check.waiting.items c.take_node.new.waiting.items taken node blob own more task.start task.len decodes (it.decodes begun (node ++ more));
    })
