use Rattle.std.proofs.Common.{rules, refl, subst, arith}
use Rattle.b3word.specs.declared.input.Input.{Input}
use Rattle.bao_check.specs.declared.asked.Asked.{Asked}
use Rattle.bao_check.specs.Walk.{Meets}
use Rattle.bao_check.proofs.ChunkBytes.{begun_empty, begun_waiting, decoded_begun}
use Rattle.bao_check.proofs.Feeding.{begun_waits, empty_refused, empty_waits, wrong_from}
use Rattle.bao_check.proofs.checking.begin.Goals as goal

pub returns-then-total-gt0-clause-waits : goal.returns-then-total-gt0-clause-waits
returns-then-total-gt0-clause-waits c = search (rules, arith, begun_waits)

pub returns-then-not-meets-clause-fault : goal.returns-then-not-meets-clause-fault
returns-then-not-meets-clause-fault c =
    let asked : Asked = c.of_root-asked.result in (
      refl,
      (λ more.
          empty_refused c.args.mode.now c.args.root.now.0 c.args.start c.args.len c.claimed-total.result c.of_slice-choice.result asked c.new-waiting.result.items c.args.header.now more
          c.requires c.claimed-total.ensures c.of_slice-choice.ensures c.of_root-asked.ensures
          (omega (arith, c.if-total-gt0.false))
          (subst (λ (x : Input). ¬ Meets asked x) (c.top_input.ensures.chunk (omega arith)) (wrong_from c.meets.result (Meets asked c.top_input.result) c.meets.ensures.1 c.if-not-meets.true))),
    )

pub returns-clause-waits : goal.returns-clause-waits
returns-clause-waits c = search (rules, arith, empty_waits)

pub returns-then-total-gt0-clause-decodes : goal.returns-then-total-gt0-clause-decodes
returns-then-total-gt0-clause-decodes c = search (rules, arith, decoded_begun, begun_waiting)

pub returns-clause-decodes : goal.returns-clause-decodes
returns-clause-decodes c = grind (arith, decoded_begun, begun_empty)
