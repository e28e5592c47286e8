use Rattle.std.proofs.Common.{refl, ap, ◌∙◌, arith}
use Rattle.store_steps.specs.Grips.{Gripped, first_of}
use Rattle.store_steps.specs.Plays.{PartsInTwo}
use Rattle.store_steps.proofs.Lists.{only}
use Rattle.store_steps.proofs.Parting.{part_asks, part_steps}
use Rattle.store_steps.proofs.StepViews.{step_asks}
use Rattle.store_steps.proofs.words.Words.part.Goals as goal

pub load-requires : goal.load-requires
load-requires c =
    let words = c.args.self.now in
    let seat = c.grip.inside.seat in
    step_asks words seat c.grip.view_is c.requires.of c.grip.invariant.0 refl (omega arith)
    (λ n. n) (λ n. PartsInTwo) (λ s kept at small. part_steps words.fixed s kept seat.id _ at)

pub split_seat-other-requires : goal.split_seat-other-requires
split_seat-other-requires c =
    let words = c.args.self.now in
    let later = c.load.new.seat in
    let t = c.load.ensures.2 (first_of c.grip.inside.seat.me.0) c.grip.invariant.0 in (
      c.load.ensures.0 ∙ ap (λ (x : Gripped). x.table_id) c.grip.view_is ∙ c.requires.of.table_is,
      omega (arith, words.count),
      part_asks words later.id later.me.0 (only later.me.0 t.0 t.1),
    )
