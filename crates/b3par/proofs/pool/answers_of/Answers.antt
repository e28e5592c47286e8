use Rattle.std.proofs.Common.{◌≡◌, ◌++◌, ◌∷◌, [], All, List, ◌∙◌, sym, ap, subst, map}
use Rattle.std.proofs.lemmas.List.{map-append}
use Rattle.std.proofs.lemmas.List.Elements.{All-push}
use Rattle.b3par.specs.declared.jobs.Answer.{Answer}
use Rattle.b3par.specs.declared.jobs.Job.{Job}
use Rattle.b3par.specs.Jobs.{IsJobAnswer}
use Rattle.b3par.proofs.Deque.{takes}
use Rattle.b3par.proofs.pool.answers_of.Goals as goal
use Rattle.b3par.proofs.pool.answers_of.Goals.{in-Success+in-Ok, in-Retry}

-- one more answer is of one more job
more : (answers : List Answer) (log : List Job) (answer : Answer) (job : Job) → map (λ a. a.job) answers ≡ log → answer.job ≡ job
    → map (λ a. a.job) (answers ++ answer ∷ []) ≡ log ++ job ∷ []
more answers log answer job before is =
    map-append (λ a. a.job) answers (answer ∷ []) ∙ (λ i. before i ++ is i ∷ [])

pub steal_as-requires-clause-takes : goal.steal_as-requires-clause-takes
steal_as-requires-clause-takes g c = takes c.steals.pass.id _ 1

pub steals-preserved : goal.steals-preserved
steals-preserved g c =
    let same = c.steal_as.ensures.same in
    let table = c.steals.invariant.table in
    let Right : Answer → Type 0 = IsJobAnswer (g.S.Source.contents c.args.source.now) (g.S.Source.faultless c.args.source.now) c.args.choice.now c.args.mode.now in
    let old : List Answer = c.steals.answers.items in
    let kept : c.reserve.new.self.items ≡ old = c.reserve.ensures.items in
    record {
      table = (same.0 ∙ table.0, same.1 ∙ table.1, same.3, same.4);
      right = elim c.match-steal_as.branch [
        | in-Success+in-Ok w ↦
            let answer : Answer = record { job = w.in-Success.job; made = w.make-made.result } in
            let items : c.match-steal_as.answers.items ≡ old ++ answer ∷ [] =
            ap (λ v. v.items) w.answers-is ∙ w.in-Ok.ensures.items ∙ ap (λ xs. xs ++ answer ∷ []) kept in
            subst (All Right) (sym items) (All-push Right old answer c.steals.invariant.right (w.make-made.ensures.text, w.make-made.ensures.fault))
        | in-Retry w ↦ subst (All Right) (sym (ap (λ v. v.items) w.answers-is ∙ kept)) c.steals.invariant.right
      ];
      each = elim c.match-steal_as.branch [
        | in-Success+in-Ok w ↦
            let answer : Answer = record { job = w.in-Success.job; made = w.make-made.result } in
            let grown = w.in-Success.ensures.rule.0 in
            ap (map (λ a. a.job)) (ap (λ v. v.items) w.answers-is ∙ w.in-Ok.ensures.items ∙ ap (λ xs. xs ++ answer ∷ []) kept)
            ∙ more old _ answer w.in-Success.job c.steals.invariant.each (λ _. w.in-Success.job)
            ∙ sym grown
        | in-Retry w ↦
            ap (map (λ a. a.job)) (ap (λ v. v.items) w.answers-is ∙ kept)
            ∙ c.steals.invariant.each
            ∙ sym w.in-Retry.ensures.rule.0
      ];
    }
