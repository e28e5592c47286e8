use Rattle.std.proofs.Common.{◌≡◌, ◌-◌, ◌+◌, ℕ, List, [], ◌++◌, length, take, drop, refl, sym, ap, subst, ◌∙◌, arith}
use Rattle.std.specs.Prelude.{IsNone}
use Rattle.std.proofs.lemmas.List.{append-nil}
use Rattle.std.proofs.lemmas.Result.{err_from_is_err_and}
use Rattle.bao_check.specs.Waiting.{CheckTask, HasRefused, HasTaken, IsStopAs, WaitsIn, next_size}
use Rattle.bao_check.proofs.Feeding.{WaitsIn-taken, waits_accepted}
use Rattle.bao_check.proofs.Streamed.{Reads-nothing, Reads-then, all_read, cut_node, node_of, refused_node, wrong_node}
use Rattle.bao_check.proofs.read.read_nodes.Goals as goal

pub returns-in_err-choice-clause-err : goal.returns-in_err-choice-clause-err
returns-in_err-choice-clause-err g c =
    let p = err_from_is_err_and c.from_residual-in_err-choice.result c.from_residual-in_err-choice.ensures.1 in
    let task : CheckTask = record { mode = c.args.mode.now; root = c.args.root.now.0; start = c.args.start; len = c.args.len } in
    let header : List ℕ = c.read_node.new.bytes.items in
    let size : length header ≡ 8 = c.in_ok-read_node.ensures.whole ∙ ap (λ (s : List ℕ). length s + 8) c.requires in
    rw (p.1, p.2)
    (wrong_node c.args.mode.now c.args.root.now.0 c.args.start c.args.len header (g.R.Read.remaining c.read_node.new.reader) 8 8 c.in_err-choice.field-0.0 c.in_err-choice.ensures.fault.0 size
    (λ more. subst (λ (s : List ℕ). IsStopAs task (s ++ more) c.in_err-choice.field-0.0 8) c.as_slice.ensures.value (c.in_err-choice.ensures.fault.1 more)))

pub nodes-init : goal.nodes-init
nodes-init g c =
    let task : CheckTask = record { mode = c.args.mode.now; root = c.args.root.now.0; start = c.args.start; len = c.args.len } in
    let header : List ℕ = c.read_node.new.bytes.items in
    let size : length header ≡ 8 = c.in_ok-read_node.ensures.whole ∙ ap (λ (s : List ℕ). length s + 8) c.requires in
    record {
      reads = Reads-nothing header (g.R.Read.remaining c.read_node.new.reader);
      parts = c.in_ok-choice.ensures.parts;
      waits = λ more.
          subst (λ (T : Type 0). T) (λ i. WaitsIn task c.in_ok-choice.choice c.in_ok-choice.waiting.items (c.as_slice.ensures.value i ++ more) (sym size i)) (c.in_ok-choice.ensures.waits more);
    }

pub returns-in_err-read_node-2-clause-reader : goal.returns-in_err-read_node-2-clause-reader
returns-in_err-read_node-2-clause-reader g c =
    all_read c.requires (Reads-then (Reads-then c.read_node.ensures.reads c.nodes.invariant.reads) c.read_node-in-Some.ensures.reads)

pub returns-in_err-read_node-2-clause-err : goal.returns-in_err-read_node-2-clause-err
returns-in_err-read_node-2-clause-err g c =
    let p = err_from_is_err_and c.from_residual-in_err-read_node-2.result c.from_residual-in_err-read_node-2.ensures.1 in
    rw (p.1, p.2)
    (cut_node c.args.mode.now c.args.root.now.0 c.args.start c.args.len c.in_ok-choice.choice c.nodes.waiting.items c.nodes.text.items c.read_node-in-Some.new.bytes.items
    c.read_node-in-Some.ensures.reads.bytes c.in-Some.size (g.R.Read.remaining c.read_node-in-Some.new.reader) c.in_err-read_node-2.field-0.0 c.read_node-in-Some.ensures.reads.grown
    c.nodes.invariant.parts c.in_ok-choice.ensures.chunks (sym c.node_size.ensures.value ∙ c.in-Some.is) c.in-Some.ensures.bounds.0 c.nodes.invariant.waits c.in_err-read_node-2.ensures.err)

pub nodes-preserved : goal.nodes-preserved
nodes-preserved g c =
    let task : CheckTask = record { mode = c.args.mode.now; root = c.args.root.now.0; start = c.args.start; len = c.args.len } in
    let taken : List ℕ = c.nodes.text.items in
    let new : List ℕ = c.read_node-in-Some.new.bytes.items in
    let slice : List ℕ = c.as_slice-in-Some.result.now in
    let node : List ℕ = take (length slice - c.len-at.result) (drop c.len-at.result slice) in
    let bytes : List ℕ = c.read_node-in-Some.ensures.reads.bytes in
    let node_is : node ≡ bytes = node_of taken new bytes slice c.len-at.result c.read_node-in-Some.ensures.reads.grown c.as_slice-in-Some.ensures.value (c.len-at.ensures ∙ c.nodes.text.ok.0) in
    let new_is : taken ++ node ≡ new = ap (λ (s : List ℕ). taken ++ s) node_is ∙ sym c.read_node-in-Some.ensures.reads.grown in
    let step : HasTaken task.mode c.in_ok-choice.choice c.nodes.waiting.items c.take_node.new.waiting.items node = c.in_ok-take_node.ensures.ok in
    record {
      reads = Reads-then c.nodes.invariant.reads c.read_node-in-Some.ensures.reads;
      parts = c.take_node.ensures.parts;
      waits = λ more.
          subst (λ (s : List ℕ). WaitsIn task c.in_ok-choice.choice c.take_node.new.waiting.items (s ++ more) (length s)) new_is
          (WaitsIn-taken task c.in_ok-choice.choice c.nodes.waiting.items c.take_node.new.waiting.items taken node step c.nodes.invariant.waits more);
    }

pub returns-in_err-take_node-clause-reader : goal.returns-in_err-take_node-clause-reader
returns-in_err-take_node-clause-reader g c =
    all_read c.requires (Reads-then (Reads-then c.read_node.ensures.reads c.nodes.invariant.reads) c.read_node-in-Some.ensures.reads)

pub returns-in_err-take_node-clause-err : goal.returns-in_err-take_node-clause-err
returns-in_err-take_node-clause-err g c =
    let p = err_from_is_err_and c.from_residual-in_err-take_node.result c.from_residual-in_err-take_node.ensures.1 in
    let taken : List ℕ = c.nodes.text.items in
    let new : List ℕ = c.read_node-in-Some.new.bytes.items in
    let slice : List ℕ = c.as_slice-in-Some.result.now in
    let bytes : List ℕ = c.read_node-in-Some.ensures.reads.bytes in
    let node_is = node_of taken new bytes slice c.len-at.result c.read_node-in-Some.ensures.reads.grown c.as_slice-in-Some.ensures.value (c.len-at.ensures ∙ c.nodes.text.ok.0) in
    let refused : HasRefused c.args.mode.now c.in_ok-choice.choice c.nodes.waiting.items c.len-at.result (length bytes) bytes c.in_err-take_node.field-0.0 =
    subst (λ (s : List ℕ). HasRefused c.args.mode.now c.in_ok-choice.choice c.nodes.waiting.items c.len-at.result (length s) s c.in_err-take_node.field-0.0) node_is c.in_err-take_node.ensures.err in
    rw (p.1, p.2)
    (refused_node c.args.mode.now c.args.root.now.0 c.args.start c.args.len c.in_ok-choice.choice c.nodes.waiting.items c.len-at.result taken new bytes (g.R.Read.remaining c.read_node-in-Some.new.reader)
    c.in_err-take_node.field-0.0 c.read_node-in-Some.ensures.reads.grown refused (c.len-at.ensures ∙ c.nodes.text.ok.0) c.nodes.invariant.waits)

pub returns-clause-ok : goal.returns-clause-ok
returns-clause-ok g c =
    let task : CheckTask = record { mode = c.args.mode.now; root = c.args.root.now.0; start = c.args.start; len = c.args.len } in
    let taken : List ℕ = c.nodes.text.items in
    let none : IsNone (next_size c.nodes.waiting.items) = subst IsNone (sym (sym c.node_size.ensures.value ∙ c.in_default.is)) refl in
    waits_accepted task c.in_ok-choice.choice c.nodes.waiting.items taken (length taken) none
    (subst (λ (s : List ℕ). WaitsIn task c.in_ok-choice.choice c.nodes.waiting.items s (length taken)) (append-nil taken) (c.nodes.invariant.waits [])) (omega arith)
