use Rattle.std.proofs.Common.{ap, ◌∙◌, inl, inr}
use Rattle.bao_tasks.proofs.Taking.{shown_as}
use Rattle.bao_tasks.proofs.gathering.take.Goals as goal
use Rattle.bao_tasks.proofs.gathering.take.Goals.{in-Ok-push, in-Err-push}

pub returns-after-push-clause-taken : goal.returns-after-push-clause-taken
returns-after-push-clause-taken g c = elim c.match-push.branch [
  | in-Ok-push w ↦
      let pushed = rw w.in-Ok-push.is at c.push.ensures.items in
      let items = ap (λ t. t.givens.items) w.taken-is in
      inr (record {
        source = c.over.result;
        is = items ∙ pushed;
        of = shown_as _ _ _ _ _ c.in-Ok.file.given c.over.result c.over.ensures c.in-Ok.ensures.source;
      })
  | in-Err-push w ↦
      let pushed = rw w.in-Err-push.is at c.push.ensures.items in
      let items = ap (λ t. t.givens.items) w.taken-is in
      inl (items ∙ pushed)
]

pub returns-after-push-clause-absent : goal.returns-after-push-clause-absent
returns-after-push-clause-absent g c = λ none. absurd (c.in-Ok.ensures.found none)

pub returns-after-push-clause-there : goal.returns-after-push-clause-there
returns-after-push-clause-there g c = elim c.match-push.branch [
  | in-Ok-push w ↦ λ yes sure stored.
      let pushed = rw w.in-Ok-push.is at c.push.ensures.items in
      let items = ap (λ t. t.givens.items) w.taken-is in
      inr (record {
        source = c.over.result;
        is = items ∙ pushed;
        of = shown_as _ _ _ _ _ c.in-Ok.file.given c.over.result c.over.ensures c.in-Ok.ensures.source;
      })
  | in-Err-push w ↦ λ yes sure stored. inl (ap (λ t. t.starved) w.taken-is)
]
