use Rattle.std.proofs.Common.{ℕ, ◌<◌, List, [], ◌++◌, length, sym, subst, ◌∙◌, arith, length-append}
use Rattle.std.specs.Prelude.{IsNone}
use Rattle.std.proofs.lemmas.List.{append-nil}
use Rattle.bao_check.specs.declared.fault.CheckFault.TheVariants.{Short}
use Rattle.bao_check.specs.Waiting.{IsFaultAs, WaitsIn}
use Rattle.bao_check.proofs.ChunkBytes.{decoded_all}
use Rattle.bao_check.proofs.Feeding.{accepted_done, each_size, none_waits, waits_accepted, waits_short, waits_trailing}
use Rattle.bao_check.proofs.checking.Checking.wants.Goals as goal

pub returns-clause-done : goal.returns-clause-done
returns-clause-done c = λ task taken it.
    let check = c.args.self.now in
    let begun : 0 < check.at = omega (arith, c.if-self-eq0.false) in (
      (λ none.
          waits_accepted task check.choice check.waiting.items taken (length taken) (subst IsNone c.node_size.ensures.value none)
          (subst (λ (s : List ℕ). WaitsIn task check.choice check.waiting.items s (length taken)) (append-nil taken) (it.waits begun [])) (omega arith)),
      (λ accepted. subst IsNone (sym c.node_size.ensures.value) (accepted_done task check.choice check.waiting.items taken check.parts check.chunks (it.waits begun) accepted)),
    )

pub returns-clause-short : goal.returns-clause-short
returns-clause-short c = λ task taken it.
    let check = c.args.self.now in
    let begun : 0 < check.at = omega (arith, c.if-self-eq0.false) in
    each_size c.node_size.result (λ size. (more : List ℕ) → length more < size → IsFaultAs task (taken ++ more) (Short (length taken))) (λ size is more less.
    waits_short task check.choice check.waiting.items taken more size check.parts check.chunks (sym c.node_size.ensures.value ∙ is) less (it.waits begun more))

pub returns-clause-trailing : goal.returns-clause-trailing
returns-clause-trailing c = grind (arith, waits_trailing, length-append)

pub returns-clause-blob : goal.returns-clause-blob
returns-clause-blob c = λ task taken blob it none.
    let check = c.args.self.now in
    let begun : 0 < check.at = omega (arith, c.if-self-eq0.false) in
    decoded_all check.choice check.waiting.items taken blob task.start task.len (none_waits check.waiting.items (subst IsNone c.node_size.ensures.value none)) (it.decodes begun [])
