use Rattle.std.proofs.Common.{rules, ◌≡◌, ◌<◌, ℕ, length, ◌∙◌, sym, subst, arith}
use Rattle.std.proofs.lemmas.List.{take_at}
use Rattle.b3par.specs.declared.jobs.Answer.{Answer}
use Rattle.b3par.specs.Jobs.{AllThere, IsJobAnswer}
use Rattle.b3par.proofs.Placed.{none_wrong}
use Rattle.b3par.proofs.pool.tree_by_pool.Goals as goal

pub tree_over-requires-clause-right : goal.tree_over-requires-clause-right
tree_over-requires-clause-right g c =
    let Right : Answer → Type 0 = IsJobAnswer (g.S.Source.contents c.args.source.now) (g.S.Source.faultless c.args.source.now) c.args.choice.now c.args.mode.now in
    let before : AllThere Right c.as_mut_slice.result.now =
    subst (AllThere Right) (sym c.as_mut_slice.ensures.value) (none_wrong Right c.in_ok-slots.slots.items c.in_ok-slots.ensures.empty) in
    let count : length c.in_ok-all.all.items ≡ c.in_ok-all.all.len = search rules in
    let gathered : AllThere Right c.gather.new.slots =
    c.gather.ensures.right c.args.source.now c.args.choice.now c.args.mode.now
    (λ i d below. c.in_ok-all.ensures.right i d (subst (λ (n : ℕ). i < n) count below)) before in
    let size : length c.gather.new.slots ≡ c.in_ok-slots.slots.len = omega (arith, c.gather.auto.slots, c.as_mut_slice.ensures.len) in
    let kept = take_at c.gather.new.slots _ c.in_ok-slots.slots.len size in
    subst (AllThere Right) (sym (c.as_mut_slice-2.ensures.value ∙ kept)) gathered
