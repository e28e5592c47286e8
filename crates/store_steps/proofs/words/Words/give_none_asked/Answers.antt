use Rattle.std.proofs.Common.{◌≡◌, slice_index, subst, refl, arith}
use Rattle.store_core.specs.declared.history.Call.{Call}
use Rattle.store_core.specs.declared.history.Call.TheVariants.{Give}
use Rattle.store_steps.specs.Grips.{first_of}
use Rattle.store_core.specs.Knowledge.{Did}
use Rattle.store_steps.proofs.StepViews.{Steps, step_asks}
use Rattle.store_steps.proofs.Absent.{give_none_steps}
use Rattle.store_steps.proofs.words.Words.give_none_asked.Goals as goal

pub load-requires : goal.load-requires
load-requires g c =
    let words = c.args.self.now in
    let seat = c.grip.inside.seat in
    let call : Call = Give g.A.Arguments.group g.A.Arguments.first g.A.Arguments.second in
    let same : Give c.args.group c.args.mask 0 ≡ call = cc in
    step_asks words seat c.grip.view_is c.requires.of c.grip.invariant.0 refl (omega arith)
    (λ n. n) (λ n. Did call) (λ s kept at small.
    subst (λ (x : Call). Steps words.fixed s seat.id 0 (slice_index s.words 0) (λ new. Did x (first_of seat.me.0) new)) same
    (give_none_steps words.fixed s kept seat.id _ at words.some c.args.group c.requires.group c.args.mask))
